-- A plan: what is to be added to a trace at a place.
use Rattle.wg_orders.specs.Steps.{StepPlace}
use Rattle.wg_cbtrack.specs.declared.draft.PlanDraft.{PlanDraft}

-- the place, and what is found so far of what is to be added
pub record PlanValue : Type 0 where
  pub place : StepPlace
  pub draft : PlanDraft
