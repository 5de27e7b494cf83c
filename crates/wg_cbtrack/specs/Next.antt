-- What one more noted step makes of a tracker.
use Rattle.std.specs.Prelude.{ℕ, ◌≡◌, Bool, true, false, not, ◌&&◌, ◌||◌, List, [], ◌∷◌, ◌++◌, if◌then◌else◌}
use Rattle.wg_trace.specs.declared.steps.Deed.{Deed}
use Rattle.wg_trace.specs.declared.steps.StepName.TheVariants.{Clear}
use Rattle.wg_rows.specs.Runs.{Cells, Cell, cell_spot, cell_sort, part_sort}
use Rattle.wg_rows.specs.Rows.{Apart, has_value}
use Rattle.wg_rows.specs.Uses.{AccessKind, Write, same_kind, same_set, row_reads, row_writes, row_unsets}
use Rattle.wg_rows.specs.Cut.{put_all}
use Rattle.wg_rows.specs.Sets.{UseRow, sets}
use Rattle.wg_cbtrack.specs.Cleared.{uses_of}
use Rattle.wg_cbtrack.specs.declared.kept.Kept.{Kept}
use Rattle.wg_cbtrack.specs.Leaves.{AreTidy}
use Rattle.wg_cbtrack.specs.Join.{inner_changes, opens, used_after}
use Rattle.wg_cbtrack.specs.Items.{noted}
use Rattle.wg_cbtrack.specs.declared.kept.Rows.{Rows}
use Rattle.wg_cbtrack.specs.Track.{Holds}
use Rattle.wg_cbtrack.specs.Near.{AreOrdered, AreAllExchanged}

-- a clear inside, of rows of cells
abbrev pub clear_deed : List (Cells × AccessKind) → Deed
clear_deed rows = record { name = Clear; uses = uses_of rows; accesses = rows }

-- What is kept of a deed over rows of uses, and those after it.
pub record IsKept (ends : List UseRow) (d : Deed) (was_noted : Bool) (k : Kept) (later : List UseRow) : Type 0 where
  pub deed : k.deed ≡ d
  pub changes : k.changes ≡ inner_changes ends (sets d.uses)
  pub first : k.first ≡ opens ends (sets d.uses)
  pub is_noted : k.is_noted ≡ was_noted
  pub after : later ≡ used_after (sets d.uses) ends

-- What is kept of a deed and of the clear inside before it, if there is one.
pub record WithClear (ends : List UseRow) (rows : List (Cells × AccessKind)) (deed : Deed) (held : List Kept) (after : List UseRow) : Type 0 where
  pub clear : Kept
  pub mid : List UseRow
  pub step : Kept
  pub more : held ≡ clear ∷ (step ∷ [])
  pub clears : IsKept ends (clear_deed rows) false clear mid
  pub steps : IsKept mid deed true step after

-- A step that needs no clear inside its command buffer is kept alone, and uses are after it as it leaves them.
pub record WithoutClear (ends : List UseRow) (deed : Deed) (held : List Kept) (after : List UseRow) : Type 0 where
  pub step : Kept
  pub more : held ≡ step ∷ []
  pub steps : IsKept ends deed true step after

-- What a step adds to the kept steps: itself, and before it the clear that it needs, if it needs one.
abbrev pub AreMore : List UseRow → List (Cells × AccessKind) → Deed → List Kept → List UseRow → Type 0
AreMore ends [] deed more after = WithoutClear ends deed more after
AreMore ends (x ∷ rows) deed more after = WithClear ends (x ∷ rows) deed more after

-- The cells of one more step: those that a clear inside sets before it, those that are wanted from before all, and what
-- is left after it.
pub record AreCells (asked leaves accesses found asked_after leaves_after : List (Cells × AccessKind)) : Type 0 where
  pub apart : Apart cell_sort found
  pub clear : (c : Cell) (v : AccessKind) → has_value cell_sort same_kind (cell_spot c) v found ≡ ((row_reads c accesses && row_unsets c leaves) && same_kind v Write)
  pub wants : (c : Cell) → row_reads c asked_after ≡ (row_reads c asked || (not (row_writes c leaves) && row_reads c accesses))
  pub writes : (c : Cell) → row_writes c leaves_after ≡ (row_writes c accesses || row_writes c leaves)
  pub unsets : (c : Cell) → row_unsets c leaves_after ≡ (if row_writes c accesses then row_unsets c accesses else (if row_reads c accesses && row_unsets c leaves then false else row_unsets c leaves))
  pub tidy : AreTidy asked_after leaves_after

-- One more step over rows: the clear inside before it, what more is kept, and the rows after it.
pub record IsStep (ends : List UseRow) (wants leaves : List (Cells × AccessKind)) (deed : Deed) (more : List Kept) (ends_after : List UseRow) (wants_after leaves_after : List (Cells × AccessKind)) : Type 0 where
  pub clear : List (Cells × AccessKind)
  pub cells : AreTidy wants leaves → AreCells wants leaves deed.accesses clear wants_after leaves_after
  pub kept : AreMore ends clear deed more ends_after

-- The uses of one more step over the first and the last sets.
pub record IsSeen (first last uses first_after last_after : List UseRow) : Type 0 where
  pub starts : first_after ≡ put_all part_sort same_set (opens first (sets uses)) first
  pub ends : last_after ≡ used_after (sets uses) last

-- With other rows in place of those of some objects, rows are all that a tracker holds of deeds.
abbrev pub HoldsAfter : List Deed → List Kept → List ℕ → Rows → Rows → Type 0
HoldsAfter deeds held os near rows = (later : Rows) → AreAllExchanged os near rows later → Holds deeds held later

-- What follows all that a tracker holds: what more is kept for one more step, the objects that it touches, and their
-- rows after it.
pub record FollowsNear (rows : Rows) (deed : Deed) (more : List Kept) (os : List ℕ) (near : Rows) : Type 0 where
  pub ordered : (deeds : List Deed) (held : List Kept) → Holds deeds held rows → AreOrdered near
  pub grows : (deeds : List Deed) (held : List Kept) → Holds deeds held rows → deeds ≡ noted held → noted (held ++ more) ≡ deeds ++ deed ∷ []
  pub holds : (deeds : List Deed) (held : List Kept) → Holds deeds held rows → deeds ≡ noted held → HoldsAfter (noted (held ++ more)) (held ++ more) os near rows
