use Rattle.std.proofs.Common.{◌++◌, drop}
use Rattle.wg_rows.specs.Rows.{Apart}
use Rattle.wg_rows.specs.Runs.{part_sort}
use Rattle.wg_rows.specs.Sets.{AreSameSets}
use Rattle.wg_rows.proofs.uses.by_lines.Given as goal

abbrev pub invariant-loop-row : goal.invariant-loop-row
invariant-loop-row l = Apart part_sort l.line.items × AreSameSets (l.done.items ++ (l.line.items ++ drop l.row-index l.uses)) l.uses
