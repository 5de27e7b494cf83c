-- What is planned for the states of a trace.
use Rattle.std.specs.Prelude.{List, ◌++◌}
use Rattle.wg_orders.specs.Steps.{Step}
use Rattle.wg_orders.specs.Trace.{Item, steps_of, add_groups}
use Rattle.wg_cbtrack.specs.Stands.{TrackerValue, Stands, IsSound}
use Rattle.wg_cbtrack.specs.Adds.{now_of, IsHere, HasAdded}
use Rattle.wg_cbtrack.specs.Plans.{PlanValue}

-- A plan adds groups of steps, one for each command buffer, to each trace that the states stand for.
abbrev pub IsPlanned : TrackerValue → PlanValue → List (List Step) → Type 0
IsPlanned t p groups = HasAdded t p.draft (λ trace. add_groups trace groups)

-- A plan is for these states: they have rows of each object that it notes, and the states after it stand for each trace
-- that they stand for with the items at its end.
pub record IsReady (t : TrackerValue) (p : PlanValue) : Type 0 where
  pub here : IsHere t p.draft
  pub sound : IsSound (now_of t p.draft)
  pub stands : (trace : List Item) → Stands t (steps_of trace) → Stands (now_of t p.draft) (steps_of (trace ++ p.draft.items.items))
