-- The uses of noted steps: of each part the set of its first and of its last step.
use Rattle.std.specs.Prelude.{◌≡◌, List, [], ◌∷◌, Option, None, length}
use Rattle.std.specs.Option.{option_or}
use Rattle.wg_trace.specs.declared.steps.Deed.{Deed}
use Rattle.wg_rows.specs.Rows.{Apart}
use Rattle.wg_rows.specs.Cut.{value_at}
use Rattle.wg_rows.specs.Runs.{Part, part_sort, part_spot}
use Rattle.wg_rows.specs.Uses.{Usages}
use Rattle.wg_rows.specs.Sets.{UseRow}
use Rattle.wg_orders.specs.Steps.{Step, StepPlace, set_of}
use Rattle.wg_orders.specs.Trace.{last_set}
use Rattle.wg_cbtrack.specs.Group.{placed_all}

-- the set of a part in the first of the steps that uses it
abbrev pub first_set : Part → List Step → Option Usages
first_set p [] = None
first_set p (s ∷ steps) = option_or (set_of s p) (first_set p steps)

-- Rows in printed form that have the set of each part in the first of some deeds that uses it.
pub record AreStarts (deeds : List Deed) (rows : List UseRow) : Type 0 where
  pub apart : Apart part_sort rows
  pub sets : (place : StepPlace) (p : Part) → value_at part_sort (part_spot p) rows ≡ first_set p (placed_all place deeds)

-- Rows in printed form that have the set of each part in the last of some deeds that uses it.
pub record AreEnds (deeds : List Deed) (rows : List UseRow) : Type 0 where
  pub apart : Apart part_sort rows
  pub sets : (place : StepPlace) (p : Part) → value_at part_sort (part_spot p) rows ≡ last_set p (placed_all place deeds) (length (placed_all place deeds))

-- Rows have the first sets and the last sets of the parts of some deeds.
pub record AreSeen (deeds : List Deed) (first last : List UseRow) : Type 0 where
  pub starts : AreStarts deeds first
  pub ends : AreEnds deeds last
