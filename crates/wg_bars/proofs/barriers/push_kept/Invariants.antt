use Rattle.std.proofs.Common.{◌≡◌, ◌++◌, drop}
use Rattle.wg_rows.specs.Cut.{choose, inside}
use Rattle.wg_rows.specs.Runs.{part_sort}
use Rattle.wg_bars.specs.Changes.{change_from}
use Rattle.wg_bars.proofs.barriers.push_kept.Given as goal

abbrev pub invariant-loop-old : goal.invariant-loop-old
invariant-loop-old l = l.found.items ++ choose (change_from l.row.1) (inside part_sort l.row.0 (drop l.old-index l.rows)) ≡ l.initial.found.items ++ choose (change_from l.row.1) (inside part_sort l.row.0 l.rows)
