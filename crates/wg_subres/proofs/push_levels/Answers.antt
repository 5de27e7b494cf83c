use Rattle.wg_subres.proofs.Numbers.{one_level}
use Rattle.wg_subres.proofs.push_levels.Goals as goal

pub loop-mip-preserved : goal.loop-mip-preserved
loop-mip-preserved c = one_level _ _ _ _ _ _ _ _ _ c.loop-mip-test.true c.in_ok-push.ensures.ok c.loop-mip.invariant
