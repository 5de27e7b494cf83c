use Rattle.std.proofs.Common.{arith}
use Rattle.wg_core.proofs.Planning.{reads_more, reads_all}
use Rattle.wg_core.proofs.plan.add_reads.Goals as goal

pub loop-wait-init : goal.loop-wait-init
loop-wait-init c = (c.plan-plan.ensures.place, c.plan-plan.ensures.planned)

pub loop-wait-preserved : goal.loop-wait-preserved
loop-wait-preserved c = reads_more c.args.tracker.now c.args.place c.args.maps.now c.loop-wait.wait-index _ c.loop-wait.plan c.in_ok-plan.plan (omega arith) c.in_ok-plan.ensures.place c.in_ok-plan.ensures.planned c.loop-wait.invariant

pub returns : goal.returns
returns c = reads_all c.args.tracker.now c.args.place c.args.maps.now c.loop-wait.wait-index c.loop-wait.plan (omega arith) c.loop-wait.invariant
