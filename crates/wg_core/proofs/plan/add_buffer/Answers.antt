use Rattle.std.proofs.Common.{rules, ◌≡◌, List, [], ◌∷◌, ◌++◌, map, reverse, ap, subst}
use Rattle.wg_trace.specs.declared.steps.Deed.{Deed}
use Rattle.wg_model.specs.Touches.{placed}
use Rattle.wg_history.specs.Objects.{deeds_at}
use Rattle.wg_history.specs.Steps.{steps_at}
use Rattle.wg_cbtrack.specs.Ready.{IsPlanned}
use Rattle.wg_cbtrack.proofs.Planned.{none_more}
use Rattle.wg_core.proofs.plan.add_buffer.Goals as goal

pub returns-in_default-clause-planned : goal.returns-in_default-clause-planned
returns-in_default-clause-planned c = λ groups h.
    let none : deeds_at (reverse c.args.state.now.history) c.args.number ≡ [] = search rules in
    none_more c.args.tracker.now c.args.plan groups (steps_at c.args.plan.place (reverse c.args.state.now.history) c.args.number) (ap (map (placed c.args.plan.place)) none) h

pub returns-clause-planned : goal.returns-clause-planned
returns-clause-planned c = λ groups h.
    let is : c.in-Some.track.now ≡ deeds_at (reverse c.args.state.now.history) c.args.number = search rules in
    subst (λ (deeds : List Deed). IsPlanned c.args.tracker.now c.in_ok-more.more (groups ++ map (placed c.args.plan.place) deeds ∷ [])) is (c.in_ok-more.ensures.planned groups h)
