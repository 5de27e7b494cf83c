use Rattle.std.proofs.Common.{◌≡◌, ◌++◌, drop}
use Rattle.wg_rows.specs.Cut.{cut}
use Rattle.wg_rows.proofs.rows.cut.Given as goal

abbrev pub invariant-loop-row : goal.invariant-loop-row
invariant-loop-row g l = l.out.items ++ cut g.R.Run.sort l.run (drop l.row-index l.rows) ≡ cut g.R.Run.sort l.run l.rows
