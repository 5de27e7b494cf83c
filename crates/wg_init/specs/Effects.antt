-- What accesses make of the cells that are set.
use Rattle.std.specs.Prelude.{ℕ, ◌≡◌, Bool, ◌&&◌, List, [], ◌∷◌, ◌==◌, nat_lt, if◌then◌else◌}
use Rattle.wg_num.specs.Runs.{Runs, insert_run, remove_run}
use Rattle.wg_rows.specs.Rows.{list_eq}
use Rattle.wg_rows.specs.Runs.{Cells, cell_line, cell_lo, cell_hi}
use Rattle.wg_rows.specs.Uses.{AccessKind, kind_writes, kind_unsets}
use Rattle.wg_orders.specs.Steps.{Step}
use Rattle.wg_bars.specs.Kept.{rows_in, over}
use Rattle.wg_init.specs.Rows.{row_line, row_of, row_object, SetRow, SetRows}

-- the runs of a row after an access that writes
abbrev pub effect : AccessKind → ℕ → ℕ → Runs → Runs
effect kind lo hi runs = if kind_unsets kind then remove_run lo hi runs else insert_run lo hi runs

-- an object's rows after an access that writes
abbrev pub with_effect : Cells → AccessKind → List SetRow → List SetRow
with_effect run kind [] = (row_of run, effect kind (cell_lo run) (cell_hi run) []) ∷ []
with_effect run kind (x ∷ xs) = if list_eq (row_line x.0) (cell_line run) then (x.0, effect kind (cell_lo run) (cell_hi run) x.1) ∷ xs else x ∷ with_effect run kind xs

-- whether a run has a cell
abbrev pub is_full : Cells → Bool
is_full run = nat_lt (cell_lo run) (cell_hi run)

-- whether an access changes an object's rows
abbrev pub changes_at : ℕ → Cells × AccessKind → Bool
changes_at object x = (kind_writes x.1 && is_full x.0) && (row_object (row_of x.0) == object)

-- an object's rows after accesses
abbrev pub rows_after : ℕ → List (Cells × AccessKind) → List SetRow → List SetRow
rows_after object [] rows = rows
rows_after object (x ∷ xs) rows = rows_after object xs (if changes_at object x then with_effect x.0 x.1 rows else rows)

-- Rows are those after accesses.
abbrev pub IsAfter : SetRows → List (Cells × AccessKind) → SetRows → Type 0
IsAfter kept xs noted = (object : ℕ) → rows_in noted object ≡ rows_after object xs (rows_in kept object)

-- Rows are those after a step: they are after its accesses.
abbrev pub IsNoted : SetRows → Step → SetRows → Type 0
IsNoted kept step noted = IsAfter kept step.accesses noted

-- Notes hold what accesses make of the kept rows with earlier notes over them,
abbrev pub AreNotes : SetRows → List (ℕ × List SetRow) → List (Cells × AccessKind) → List (ℕ × List SetRow) → Type 0
AreNotes kept old xs new = (object : ℕ) → over new object (rows_in kept object) ≡ rows_after object xs (over old object (rows_in kept object))

-- or what one more access does.
abbrev pub NotesOne : SetRows → List (ℕ × List SetRow) → Cells × AccessKind → List (ℕ × List SetRow) → Type 0
NotesOne kept old x new = (object : ℕ) → over new object (rows_in kept object) ≡ (if changes_at object x then with_effect x.0 x.1 (over old object (rows_in kept object)) else over old object (rows_in kept object))
