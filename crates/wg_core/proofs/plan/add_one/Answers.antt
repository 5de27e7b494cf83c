use Rattle.std.proofs.Common.{[], ◌∷◌, ap, sym}
use Rattle.wg_history.specs.Steps.{group_of}
use Rattle.wg_core.proofs.Planning.{adds_none, adds_planned}
use Rattle.wg_core.proofs.plan.add_one.Goals as goal

pub returns-in_default : goal.returns-in_default
returns-in_default c = adds_none c.args.tracker.now (group_of c.args.step) (ap group_of c.in_default.is)

pub returns : goal.returns
returns c = adds_planned c.args.tracker.now c.in_ok-more.more ((c.in-Some.step ∷ []) ∷ []) (group_of c.args.step) (c.in_ok-more.ensures.planned [] c.plan-begun.ensures.planned) (ap group_of (sym c.in-Some.is))
