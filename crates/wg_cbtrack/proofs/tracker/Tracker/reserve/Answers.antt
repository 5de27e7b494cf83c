use Rattle.std.proofs.Common.{refl, sym, subst}
use Rattle.wg_cbtrack.specs.Stands.{TrackerValue, tracker_of}
use Rattle.wg_cbtrack.specs.Ready.{IsReady}
use Rattle.wg_cbtrack.proofs.Planned.{ready_same}
use Rattle.wg_cbtrack.proofs.tracker.Tracker.reserve.Goals as goal

pub returns-in_err-reserve-clause-ready : goal.returns-in_err-reserve-clause-ready
returns-in_err-reserve-clause-ready c = λ plan ready. ready_same (tracker_of c.self.inside.last c.self.inside.cells) (tracker_of c.reserve.new.self c.self.inside.cells) plan c.reserve.ensures.items refl c.reserve.ensures.gone refl (subst (λ (t : TrackerValue). IsReady t plan) (sym c.self.view_is) ready)

pub returns-in_err-reserve-2-clause-ready : goal.returns-in_err-reserve-2-clause-ready
returns-in_err-reserve-2-clause-ready c = λ plan ready. ready_same (tracker_of c.self.inside.last c.self.inside.cells) (tracker_of c.reserve.new.self c.reserve-2.new.self) plan c.reserve.ensures.items c.reserve-2.ensures.items c.reserve.ensures.gone c.reserve-2.ensures.gone (subst (λ (t : TrackerValue). IsReady t plan) (sym c.self.view_is) ready)

pub returns-clause-ready : goal.returns-clause-ready
returns-clause-ready c = λ plan ready. ready_same (tracker_of c.self.inside.last c.self.inside.cells) (tracker_of c.reserve.new.self c.reserve-2.new.self) plan c.reserve.ensures.items c.reserve-2.ensures.items c.reserve.ensures.gone c.reserve-2.ensures.gone (subst (λ (t : TrackerValue). IsReady t plan) (sym c.self.view_is) ready)
