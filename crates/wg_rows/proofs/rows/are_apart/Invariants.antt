use Rattle.std.proofs.Common.{◌≡◌, drop}
use Rattle.wg_rows.specs.Order.{are_apart}
use Rattle.wg_rows.proofs.rows.are_apart.Given as goal

abbrev pub invariant-loop-i : goal.invariant-loop-i
invariant-loop-i g l = are_apart g.R.Run.sort g.V.Value.same (drop l.i l.rows) ≡ are_apart g.R.Run.sort g.V.Value.same l.rows
