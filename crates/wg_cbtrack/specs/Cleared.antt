-- Clears, found as rows of cells.
use Rattle.std.specs.Prelude.{◌≡◌, Bool, false, ◌||◌, List, [], ◌∷◌, map}
use Rattle.wg_rows.specs.Runs.{PartRun, Cells, Cell, run_part}
use Rattle.wg_rows.specs.Uses.{AccessKind, Usages, clear_usage, printed_uses}
use Rattle.wg_orders.specs.Steps.{Step, StepPlace, writes}
use Rattle.wg_orders.specs.Trace.{Item, steps_of, clear_of, to_clear}
use Rattle.wg_init.specs.Rows.{SetRows, KeepsSet, RunsApart}

-- the uses of a clear of rows
abbrev pub uses_of : List (Cells × AccessKind) → List (PartRun × Usages)
uses_of rows = printed_uses (map (λ row. (run_part row.0, clear_usage)) rows)

-- whether some of the steps writes the cell
abbrev pub written : List Step → Cell → Bool
written [] c = false
written (s ∷ steps) c = writes s c || written steps c

-- Rows are the accesses of the clear of what steps need from before them.
abbrev pub AreNeeded : SetRows → List Step → List (Cells × AccessKind) → Type 0
AreNeeded kept steps rows = (trace : List Item) (place : StepPlace) → RunsApart kept → KeepsSet kept (steps_of trace) → rows ≡ (clear_of place (to_clear trace steps)).accesses
