use Rattle.std.proofs.Common.{◌≡◌, ◌∙◌, ◌++◌, ap, sym, subst}
use Rattle.wg_orders.specs.Trace.{steps_of}
use Rattle.wg_cbtrack.specs.Adds.{now_of}
use Rattle.wg_cbtrack.specs.Stands.{TrackerValue, tracker_of, Stands}
use Rattle.wg_cbtrack.proofs.tracker.Tracker.apply.Goals as goal

pub returns-clause-now : goal.returns-clause-now
returns-clause-now c = c.apply.ensures.now ∙ ap (λ (t : TrackerValue). now_of t c.args.plan.draft) c.self.view_is

pub returns-clause-stands : goal.returns-clause-stands
returns-clause-stands c = λ trace stands.
    let now : tracker_of c.apply.new.last c.apply.new.cells ≡ now_of c.args.self.now c.args.plan.draft = c.apply.ensures.now ∙ ap (λ (t : TrackerValue). now_of t c.args.plan.draft) c.self.view_is in
    subst (λ (t : TrackerValue). Stands t (steps_of (trace ++ c.args.plan.draft.items.items))) (sym now) (c.requires.stands trace stands)

pub returns-clause-spare : goal.returns-clause-spare
returns-clause-spare c = ap (λ (t : TrackerValue). t.spare) (c.apply.ensures.now ∙ ap (λ (t : TrackerValue). now_of t c.args.plan.draft) c.self.view_is)
