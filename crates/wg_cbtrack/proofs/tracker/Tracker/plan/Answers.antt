use Rattle.std.proofs.Common.{[], subst}
use Rattle.wg_cbtrack.specs.Stands.{TrackerValue}
use Rattle.wg_cbtrack.specs.Ready.{IsPlanned}
use Rattle.wg_cbtrack.proofs.tracker.Tracker.plan.Goals as goal

pub returns-clause-planned : goal.returns-clause-planned
returns-clause-planned c = subst (λ (t : TrackerValue). IsPlanned t c.new.result []) c.self.view_is c.new.ensures.added
