use Rattle.std.proofs.Common.{◌≡◌, drop}
use Rattle.wg_rows.specs.Order.{are_full}
use Rattle.wg_rows.proofs.rows.are_full.Given as goal

abbrev pub invariant-loop-row : goal.invariant-loop-row
invariant-loop-row g l = are_full g.R.Run.sort (drop l.row-index l.rows) ≡ are_full g.R.Run.sort l.rows
