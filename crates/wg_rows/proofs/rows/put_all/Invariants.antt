use Rattle.std.proofs.Common.{◌≡◌, ◌++◌, drop, reverse}
use Rattle.wg_rows.specs.Cut.{put_all}
use Rattle.wg_rows.specs.Chained.{Chained}
use Rattle.wg_rows.proofs.rows.put_all.Given as goal

abbrev pub invariant-loop-row : goal.invariant-loop-row
invariant-loop-row g l = Chained g.R.Run.sort l.front.items × (put_all g.R.Run.sort g.V.Value.same (drop l.row-index l.more) (l.front.items ++ reverse l.back.items) ≡ put_all g.R.Run.sort g.V.Value.same l.more l.fn.rows.items)
