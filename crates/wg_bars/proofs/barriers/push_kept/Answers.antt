use Rattle.std.proofs.Common.{arith}
use Rattle.wg_bars.proofs.Pushing.{kept_more}
use Rattle.wg_bars.proofs.barriers.push_kept.Goals as goal

pub loop-old-preserved : goal.loop-old-preserved
loop-old-preserved c = kept_more c.args.row.1 c.args.row.0 c.args.rows.now c.loop-old.old-index _ _ _ _ _ (omega arith) c.inner.ensures c.in_ok-push_change.ensures c.loop-old.invariant
