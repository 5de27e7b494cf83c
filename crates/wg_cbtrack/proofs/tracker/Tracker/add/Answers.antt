use Rattle.std.proofs.Common.{◌∷◌, [], ◌++◌, sym, subst}
use Rattle.wg_orders.specs.Trace.{add_groups}
use Rattle.wg_cbtrack.specs.Group.{placed_all}
use Rattle.wg_cbtrack.specs.Stands.{TrackerValue, tracker_of}
use Rattle.wg_cbtrack.specs.Ready.{IsPlanned}
use Rattle.wg_cbtrack.proofs.Planned.{one_planned}
use Rattle.wg_cbtrack.proofs.tracker.Tracker.add.Goals as goal

pub returns-clause-planned : goal.returns-clause-planned
returns-clause-planned c = λ groups h.
    let t : TrackerValue = tracker_of c.self.inside.last c.self.inside.cells in
    let before : IsPlanned t c.args.plan groups = subst (λ (t : TrackerValue). IsPlanned t c.args.plan groups) (sym c.self.view_is) h in
    subst (λ (t : TrackerValue). IsPlanned t c.in_ok-more.more (groups ++ placed_all c.args.plan.place c.args.track.now ∷ [])) c.self.view_is (one_planned t c.in_ok-more.more groups (placed_all c.args.plan.place c.args.track.now) (c.in_ok-more.ensures.added (λ trace. add_groups trace groups) before))
