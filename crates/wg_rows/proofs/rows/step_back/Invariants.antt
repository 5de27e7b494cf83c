use Rattle.std.proofs.Common.{◌≡◌, ◌++◌, length, reverse}
use Rattle.wg_rows.specs.Chained.{Chained}
use Rattle.wg_rows.proofs.rows.step_back.Given as goal

abbrev pub invariant-loop-last : goal.invariant-loop-last
invariant-loop-last g l = Chained g.R.Run.sort l.front.items × (l.front.items ++ reverse l.back.items ≡ l.fn.front.items ++ reverse l.fn.back.items)

abbrev pub decreases-loop-last : goal.decreases-loop-last
decreases-loop-last g l = length l.front.items
