use Rattle.std.proofs.Common.{sym, subst, ◌++◌, Option}
use Rattle.wg_orders.specs.Steps.{Step}
use Rattle.wg_history.specs.Steps.{group_of}
use Rattle.wg_cbtrack.specs.Ready.{IsPlanned}
use Rattle.wg_core.proofs.Planning.{one_more}
use Rattle.wg_core.proofs.plan.add_some.Goals as goal

pub returns-in_default-clause-planned : goal.returns-in_default-clause-planned
returns-in_default-clause-planned c = λ groups h. one_more c.args.tracker.now c.args.plan groups c.args.step (sym c.in_default.is) h

pub returns-clause-planned : goal.returns-clause-planned
returns-clause-planned c = λ groups h. subst (λ (o : Option Step). IsPlanned c.args.tracker.now c.in_ok-more.more (groups ++ group_of o)) (sym c.in-Some.is) (c.in_ok-more.ensures.planned groups h)
