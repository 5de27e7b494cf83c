use Rattle.std.proofs.Common.{◌++◌, Option, subst}
use Rattle.wg_orders.specs.Steps.{Step}
use Rattle.wg_history.specs.Steps.{group_of}
use Rattle.wg_cbtrack.specs.Ready.{IsPlanned}
use Rattle.wg_core.proofs.plan.add_read.Goals as goal

pub returns-clause-planned : goal.returns-clause-planned
returns-clause-planned c = λ groups h. subst (λ (o : Option Step). IsPlanned c.args.tracker.now c.in_ok-more.more (groups ++ group_of o)) c.in_ok-step.ensures.step (c.in_ok-more.ensures.planned groups h)
