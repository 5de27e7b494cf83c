-- What a tracker keeps of the steps that were noted.
use Rattle.std.specs.Prelude.{◌≡◌, List, [], map}
use Rattle.wg_trace.specs.declared.steps.Deed.{Deed}
use Rattle.wg_rows.specs.Runs.{Cells, Cell}
use Rattle.wg_rows.specs.Uses.{AccessKind, row_reads, row_writes, row_unsets}
use Rattle.wg_rows.specs.Sets.{UseRow}
use Rattle.wg_orders.specs.Steps.{Step, StepPlace}
use Rattle.wg_orders.specs.Trace.{needs}
use Rattle.wg_cbtrack.specs.Cleared.{written}
use Rattle.wg_cbtrack.specs.declared.kept.Kept.{Kept}
use Rattle.wg_cbtrack.specs.declared.kept.Rows.{Rows}
use Rattle.wg_cbtrack.specs.Leaves.{AreTidy}
use Rattle.wg_cbtrack.specs.Group.{placed_all, left}
use Rattle.wg_cbtrack.specs.Items.{inner_steps, AreKept}
use Rattle.wg_cbtrack.specs.Seen.{AreSeen}

-- The steps inside, with their clears, at a place.
abbrev pub inside_at : StepPlace → List Deed → List Step
inside_at place deeds = inner_steps [] (placed_all place deeds)

-- What is kept is that of the deeds, wherever they are placed: of each step inside its changes and first uses, with the
-- rows of uses at the end; the cells that are needed from before; and the cells that are written, each with whether it
-- is left unset.
pub record IsTrack (deeds : List Deed) (held : List Kept) (ends : List UseRow) (wants leaves : List (Cells × AccessKind)) : Type 0 where
  pub kept : (place : StepPlace) → AreKept place [] (inside_at place deeds) held ends
  pub needs : (place : StepPlace) (c : Cell) → row_reads c wants ≡ needs (placed_all place deeds) c
  pub writes : (place : StepPlace) (c : Cell) → row_writes c leaves ≡ written (inside_at place deeds) c
  pub unsets : (place : StepPlace) (c : Cell) → row_unsets c leaves ≡ left (inside_at place deeds) c
  pub tidy : AreTidy wants leaves

-- All that a tracker holds is that of the deeds.
pub record Holds (deeds : List Deed) (held : List Kept) (rows : Rows) : Type 0 where
  pub track : IsTrack deeds held rows.ends.items rows.wants.items rows.leaves.items
  pub seen : AreSeen deeds rows.starts.items rows.last.items
  pub needs : rows.needs.items ≡ map (λ row. row.0) rows.wants.items

-- A tracker with room for one more step: what is noted, and what is noted after it.
pub record ReadyValue : Type 0 where
  pub before : List Deed
  pub after : List Deed
