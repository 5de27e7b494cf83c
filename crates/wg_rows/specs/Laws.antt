-- Laws of rows as they are printed.
use Rattle.std.specs.Prelude.{true, List, ◌≡◌, Bool}
use Rattle.wg_rows.specs.Rows.{Sort, printed, Apart, Alike, AllFit}
use Rattle.wg_rows.specs.Runs.{Cell, Cells, part_of, covers_part, covers, run_part}

-- Rows as they are printed: they are in printed form where no row is empty and rows at one place have one value, and they
-- have the values that the rows have at each place, and no others.
pub record PrintsRows {R V : Type 0} (sort : Sort R) (same : V → V → Bool) : Type 0 where
  pub apart : (rows : List (R × V)) → AllFit sort rows → Apart sort (printed sort same rows)
  pub alike : (rows : List (R × V)) → Alike sort same (printed sort same rows) rows

-- Rows that are in printed form are printed as they are.
abbrev pub KeepsPrinted : {R V : Type 0} → Sort R → (V → V → Bool) → Type 0
KeepsPrinted {R} {V} sort same = (rows : List (R × V)) → Apart sort rows → printed sort same rows ≡ rows

-- A cell that a run covers lies in a part that the run lies in.
abbrev pub CellsLie : Type 0
CellsLie = (run : Cells) (c : Cell) → covers run c ≡ true → covers_part (run_part run) (part_of c) ≡ true
