-- The cells found that steps need from before them are those of the definition.
use Rattle.std.proofs.Common.{◌≡◌, List, Bool, true, false, not, ◌&&◌, refl, ap, sym, ◌∙◌}
use Rattle.wg_rows.specs.Rows.{has_value}
use Rattle.wg_rows.specs.Runs.{Cells, Cell, cell_sort, cell_spot, covers}
use Rattle.wg_rows.specs.Uses.{AccessKind, Write, same_kind}
use Rattle.wg_orders.specs.Steps.{Step}
use Rattle.wg_orders.specs.Trace.{is_unset, steps_of, needs, to_clear}
use Rattle.wg_init.specs.Rows.{SetRows, set_at, RunsApart}
use Rattle.wg_cbtrack.specs.Cleared.{AreNeeded}
use Rattle.wg_rows.proofs.Told.{accesses_printed}
use Rattle.wg_orders.proofs.Clears.{write_rows}
use Rattle.wg_init.proofs.UnsetCells.{Written, write_has, write_fit, alike_at_cells}
use Rattle.wg_cbtrack.proofs.Clearing.{to_clear_needs}

-- Rows are the cells that steps need and that are not kept.
pub record IsFound (kept : SetRows) (steps : List Step) (rows : List (Cells × AccessKind)) : Type 0 where
  pub are : Written rows
  pub cells : (c : Cell) (v : AccessKind) → has_value cell_sort same_kind (cell_spot c) v rows ≡ ((needs steps c && not (set_at kept (cell_spot c))) && same_kind v Write)

-- What is found is the clear of what steps need.
pub found_needed : (kept : SetRows) (steps : List Step) (rows : List (Cells × AccessKind)) → (RunsApart kept → IsFound kept steps rows) → AreNeeded kept steps rows
unfolding covers
found_needed kept steps rows found trace place apart keeps = accesses_printed rows (write_rows (to_clear trace steps)) (write_fit (to_clear trace steps)) h.are.1 (alike_at_cells rows (write_rows (to_clear trace steps)) at_cell)
  where
    h : IsFound kept steps rows
    h = found apart

    twice : (b : Bool) → not (not b) ≡ b
    twice true = refl
    twice false = refl

    at_cell : (c : Cell) (v : AccessKind) → has_value cell_sort same_kind (cell_spot c) v rows ≡ has_value cell_sort same_kind (cell_spot c) v (write_rows (to_clear trace steps))
    at_cell c v =
        (found apart).cells c v
        ∙ (ap (λ t. (needs steps c && not t) && same_kind v Write) (keeps c)
        ∙ (ap (λ t. (needs steps c && t) && same_kind v Write) (twice (is_unset (steps_of trace) c))
        ∙ (ap (λ t. t && same_kind v Write) (sym (to_clear_needs trace steps c))
        ∙ sym (write_has (to_clear trace steps) c v))))
