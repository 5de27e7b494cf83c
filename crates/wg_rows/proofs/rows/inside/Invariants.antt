use Rattle.std.proofs.Common.{◌≡◌, ◌++◌, drop}
use Rattle.wg_rows.specs.Cut.{inside}
use Rattle.wg_rows.proofs.rows.inside.Given as goal

abbrev pub invariant-loop-row : goal.invariant-loop-row
invariant-loop-row g l = l.out.items ++ inside g.R.Run.sort l.run (drop l.row-index l.rows) ≡ inside g.R.Run.sort l.run l.rows
