-- One step, as what a command buffer of its own does.
use Rattle.std.proofs.Common.{◌≡◌, Bool, true, false, not, ◌&&◌, ◌||◌, List, [], ◌∷◌, ◌++◌, refl, ap, sym, ◌∙◌}
use Rattle.wg_rows.specs.Runs.{Cell}
use Rattle.wg_rows.specs.Rows.{EachRow}
use Rattle.wg_rows.specs.Uses.{row_reads}
use Rattle.wg_orders.specs.Steps.{Step, reads, writes}
use Rattle.wg_orders.specs.Trace.{Item, needs, cells_of, add_step, add_clear, to_clear, add_group}
use Rattle.wg_cbtrack.specs.declared.draft.PlanDraft.{PlanDraft}
use Rattle.wg_cbtrack.specs.Stands.{TrackerValue}
use Rattle.wg_cbtrack.specs.Adds.{HasAdded}
use Rattle.wg_cbtrack.specs.Group.{left, left_cells, clear_steps, start_clear}
use Rattle.wg_cbtrack.specs.Items.{add_steps}
use Rattle.wg_cbtrack.proofs.Adding.{added_same}
use Rattle.wg_cbtrack.proofs.Items.{group_steps}
use Rattle.wg_cbtrack.proofs.Owning.{none_kept}

pub reads_alone : (s : Step) (c : Cell) → row_reads c s.accesses ≡ needs (s ∷ []) c
unfolding reads
reads_alone s c = by_tests (row_reads c s.accesses) (writes s c)
  where
    by_tests : (a b : Bool) → a ≡ (a || (not b && false))
    by_tests true b = refl
    by_tests false true = refl
    by_tests false false = refl

none_left : (s : Step) → left_cells [] s ≡ []
none_left s = none_kept (λ c. reads s c && left [] c) (cells_of (s ∷ [])) (each (cells_of (s ∷ [])))
  where
    no : (b : Bool) → (b && false) ≡ false
    no true = refl
    no false = refl

    each : (cs : List Cell) → EachRow (λ c. (reads s c && left [] c) ≡ false) cs
    each [] = tt
    each (c ∷ cs) = (no (reads s c), each cs)

single : (trace : List Item) (s : Step) → add_group trace (s ∷ []) ≡ add_step (add_clear trace s.place (to_clear trace (s ∷ []))) s
single trace s = group_steps trace s [] ∙ ap (λ (cells : List Cell). add_steps (start_clear trace s.place (s ∷ [])) (clear_steps s.place cells ++ (s ∷ []))) (none_left s)

pub alone_added : (t : TrackerValue) (e : PlanDraft) (s : Step) (f : List Item → List Item) → HasAdded t e (λ trace. add_step (add_clear (f trace) s.place (to_clear (f trace) (s ∷ []))) s) → HasAdded t e (λ trace. add_group (f trace) (s ∷ []))
alone_added t e s f h = added_same t e (λ trace. add_step (add_clear (f trace) s.place (to_clear (f trace) (s ∷ []))) s) (λ trace. add_group (f trace) (s ∷ [])) (λ trace stands. sym (single (f trace) s)) h
