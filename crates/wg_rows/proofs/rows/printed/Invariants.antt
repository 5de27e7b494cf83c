use Rattle.std.proofs.Common.{◌≡◌, ◌≤◌, ◌++◌, drop, length, reverse}
use Rattle.wg_rows.specs.Rows.{printed}
use Rattle.wg_rows.specs.Chained.{Chained}
use Rattle.wg_rows.proofs.rows.printed.Given as goal

abbrev pub invariant-loop-i : goal.invariant-loop-i
invariant-loop-i g l = (l.i ≤ length l.rows) × (Chained g.R.Run.sort l.front.items × (l.front.items ++ reverse l.back.items ≡ printed g.R.Run.sort g.V.Value.same (drop l.i l.rows)))

abbrev pub decreases-loop-i : goal.decreases-loop-i
decreases-loop-i g l = l.i
