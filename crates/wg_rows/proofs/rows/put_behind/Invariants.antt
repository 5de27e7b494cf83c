use Rattle.std.proofs.Common.{◌≡◌, ◌++◌, true, length, reverse}
use Rattle.wg_rows.specs.Rows.{put}
use Rattle.wg_rows.specs.Chained.{Chained}
use Rattle.wg_rows.proofs.rows.put_behind.Given as goal

abbrev pub invariant-loop-other : goal.invariant-loop-other
invariant-loop-other g l = (l.chained ≡ true → Chained g.R.Run.sort l.front.items) × (l.front.items ++ put g.R.Run.sort g.V.Value.same l.row (reverse l.back.items) ≡ l.fn.front.items ++ put g.R.Run.sort g.V.Value.same l.fn.row (reverse l.fn.back.items))

abbrev pub decreases-loop-other : goal.decreases-loop-other
decreases-loop-other g l = length l.back.items
