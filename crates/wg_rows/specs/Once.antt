-- Traces whose steps give no cell twice.
use Rattle.std.specs.Prelude.{true, false, List, [], ◌∷◌, ◌≡◌}
use Rattle.wg_trace.specs.declared.parts.AccessKind.{AccessKind}
use Rattle.wg_trace.specs.declared.steps.Item.{Item}
use Rattle.wg_trace.specs.declared.steps.Item.TheVariants.{Bar, Step as StepItem, Free}
use Rattle.wg_rows.specs.Runs.{Cell, Cells, covers}

-- No row covers the cell.
abbrev pub NoneCovers : Cell → List (Cells × AccessKind) → Type 0
NoneCovers c [] = Unit {0}
NoneCovers c (row ∷ rows) = (covers row.0 c ≡ false) × NoneCovers c rows

-- At most one row covers the cell.
abbrev pub OneCovers : Cell → List (Cells × AccessKind) → Type 0
OneCovers c [] = Unit {0}
OneCovers c (row ∷ rows) = (covers row.0 c ≡ true → NoneCovers c rows) × OneCovers c rows

-- No step gives a cell twice.
abbrev pub AreOnce : List Item → Type 0
AreOnce [] = Unit {0}
AreOnce (Bar parts from to ∷ items) = AreOnce items
AreOnce (StepItem step ∷ items) = ((c : Cell) → OneCovers c step.accesses) × AreOnce items
AreOnce (Free object sort ∷ items) = AreOnce items
