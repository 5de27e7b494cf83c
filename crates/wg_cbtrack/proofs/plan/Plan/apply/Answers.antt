use Rattle.std.proofs.Common.{◌∙◌, ap}
use Rattle.wg_cbtrack.specs.Stands.{TrackerValue, tracker_of}
use Rattle.wg_cbtrack.specs.Plans.{PlanValue}
use Rattle.wg_cbtrack.specs.Adds.{now_of}
use Rattle.wg_cbtrack.proofs.Adding.{now_placed}
use Rattle.wg_cbtrack.proofs.plan.Plan.apply.Goals as goal

pub returns-clause-now : goal.returns-clause-now
returns-clause-now c =
    let t : TrackerValue = tracker_of c.args.last.now c.args.cells.now in
    now_placed c.args.last.now c.place.new.self c.args.cells.now c.place-2.new.self c.self.inside.draft c.place.ensures.items c.place.ensures.gone c.place.ensures.spare c.place-2.ensures.items c.place-2.ensures.gone c.place-2.ensures.spare
    ∙ ap (λ (p : PlanValue). now_of t p.draft) c.self.view_is
