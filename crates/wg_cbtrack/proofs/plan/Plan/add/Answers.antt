use Rattle.std.proofs.Common.{◌≡◌, List, ap, sym, subst, subst₂}
use Rattle.wg_orders.specs.Steps.{StepPlace}
use Rattle.wg_orders.specs.Trace.{add_group}
use Rattle.wg_fading.specs.Fading.{FadingValue}
use Rattle.wg_rows.specs.Sets.{UseRow}
use Rattle.wg_init.specs.Rows.{SetRow}
use Rattle.wg_cbtrack.specs.Stands.{TrackerValue, tracker_of}
use Rattle.wg_cbtrack.specs.declared.draft.PlanDraft.{PlanDraft}
use Rattle.wg_cbtrack.specs.Adds.{HasAdded}
use Rattle.wg_cbtrack.specs.Group.{placed_all}
use Rattle.wg_cbtrack.specs.Plans.{PlanValue}
use Rattle.wg_cbtrack.proofs.plan.Plan.add.Goals as goal

pub returns-clause-added : goal.returns-clause-added
returns-clause-added c = λ f h.
    let t : TrackerValue = tracker_of c.args.last.now c.args.cells.now in
    let draft : c.self.inside.draft ≡ c.args.self.draft = ap (λ (p : PlanValue). p.draft) c.self.view_is in
    let before : HasAdded (tracker_of c.rows.result.now c.rows-2.result.now) c.self.inside.draft f = subst₂ (λ (last : FadingValue (List UseRow)) (cells : FadingValue (List SetRow)). HasAdded (tracker_of last cells) c.self.inside.draft f) (sym c.rows.ensures.rows) (sym c.rows-2.ensures.rows) (subst (λ (d : PlanDraft). HasAdded t d f) (sym draft) h) in
    let added : HasAdded t c.in_ok-draft.draft (λ trace. add_group (f trace) (placed_all c.self.inside.place c.args.track.now)) = subst₂ (λ (last : FadingValue (List UseRow)) (cells : FadingValue (List SetRow)). HasAdded (tracker_of last cells) c.in_ok-draft.draft (λ trace. add_group (f trace) (placed_all c.self.inside.place c.args.track.now))) c.rows.ensures.rows c.rows-2.ensures.rows (c.in_ok-draft.ensures f before) in
    subst (λ (place : StepPlace). HasAdded t c.in_ok-draft.draft (λ trace. add_group (f trace) (placed_all place c.args.track.now))) (ap (λ (p : PlanValue). p.place) c.self.view_is) added
