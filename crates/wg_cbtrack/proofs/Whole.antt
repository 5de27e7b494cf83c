-- A tracker that keeps nothing adds nothing, and another adds its steps.
use Rattle.std.proofs.Common.{◌≡◌, List, [], ◌∷◌, ◌++◌, map, refl, ap, sym, ◌∙◌, subst}
use Rattle.wg_trace.specs.declared.steps.Deed.{Deed}
use Rattle.wg_rows.specs.Runs.{Cells, Cell}
use Rattle.wg_rows.specs.Uses.{AccessKind}
use Rattle.wg_rows.specs.Sets.{UseRow}
use Rattle.wg_orders.specs.Steps.{Step, StepPlace, placed}
use Rattle.wg_orders.specs.Trace.{Item, add_group}
use Rattle.wg_cbtrack.specs.Stands.{TrackerValue}
use Rattle.wg_cbtrack.specs.declared.draft.PlanDraft.{PlanDraft}
use Rattle.wg_cbtrack.specs.declared.kept.Kept.{Kept}
use Rattle.wg_cbtrack.specs.Group.{placed_all, left_cells, clear_steps}
use Rattle.wg_cbtrack.specs.Items.{inner_steps, AreKept}
use Rattle.wg_cbtrack.specs.Track.{IsTrack, Holds}
use Rattle.wg_cbtrack.specs.Leaves.{as_reads}
use Rattle.wg_cbtrack.specs.Seen.{AreSeen}
use Rattle.wg_cbtrack.specs.declared.kept.Rows.{Rows}
use Rattle.wg_cbtrack.specs.Adds.{HasAdded}
use Rattle.wg_cbtrack.proofs.Leaving.{reads_again}

some_kept : (place at : StepPlace) (inner end : List UseRow) (cells : List Cell) (s : Step) (steps : List Step) → AreKept place inner (clear_steps at cells ++ (s ∷ steps)) [] end → ⊥
some_kept place at inner end [] s steps h = h
some_kept place at inner end (c ∷ cells) s steps h = h

pub none_added : (t : TrackerValue) (d : PlanDraft) (place : StepPlace) (deeds : List Deed) (held : List Kept) (ends : List UseRow) (wants leaves : List (Cells × AccessKind)) (f : List Item → List Item) → held ≡ [] → IsTrack deeds held ends wants leaves → HasAdded t d f → HasAdded t d (λ trace. add_group (f trace) (placed_all place deeds))
none_added t d place [] held ends wants leaves f e track h = h
none_added t d place (x ∷ deeds) held ends wants leaves f e track h = absurd (some_kept place place [] ends (left_cells [] (placed place x)) (placed place x) (inner_steps (clear_steps place (left_cells [] (placed place x)) ++ placed place x ∷ []) (placed_all place deeds)) (subst (λ xs. AreKept place [] (inner_steps [] (placed place x ∷ placed_all place deeds)) xs ends) e (track.kept place)))

pub some_added : (t : TrackerValue) (d : PlanDraft) (place : StepPlace) (deeds : List Deed) (held : List Kept) (ends : List UseRow) (wants leaves : List (Cells × AccessKind)) (f : List Item → List Item) → (held ≡ [] → ⊥) → IsTrack deeds held ends wants leaves → ((first : Deed) (rest : List Deed) → IsTrack (first ∷ rest) held ends wants leaves → HasAdded t d (λ trace. add_group (f trace) (placed_all place (first ∷ rest)))) → HasAdded t d (λ trace. add_group (f trace) (placed_all place deeds))
some_added t d place [] [] ends wants leaves f some track h = absurd (some refl)
some_added t d place [] (k ∷ held) ends wants leaves f some track h = absurd (track.kept place)
some_added t d place (x ∷ deeds) held ends wants leaves f some track h = h x deeds track

-- What is lent is the same under another name.
pub tracks_with : (deeds : List Deed) (held : List Kept) (ends : List UseRow) (wants leaves : List (Cells × AccessKind)) (ends2 : List UseRow) (wants2 leaves2 : List (Cells × AccessKind)) → ends ≡ ends2 → wants ≡ wants2 → leaves ≡ leaves2 → IsTrack deeds held ends wants leaves → IsTrack deeds held ends2 wants2 leaves2
tracks_with deeds held ends wants leaves ends2 wants2 leaves2 e w l h = subst (λ x. IsTrack deeds held x wants2 leaves2) e (subst (λ y. IsTrack deeds held ends y leaves2) w (subst (λ z. IsTrack deeds held ends wants z) l h))

pub seen_with : (deeds : List Deed) (starts ends starts2 ends2 : List UseRow) → starts ≡ starts2 → ends ≡ ends2 → AreSeen deeds starts ends → AreSeen deeds starts2 ends2
seen_with deeds starts ends starts2 ends2 s e h = subst (λ x. AreSeen deeds x ends2) s (subst (λ y. AreSeen deeds starts y) e h)

-- The cells that are needed, as reads.
pub needs_again : (deeds : List Deed) (held : List Kept) (rows : Rows) → Holds deeds held rows → as_reads rows.needs.items ≡ rows.wants.items
needs_again deeds held rows h = ap as_reads h.needs ∙ reads_again rows.wants.items h.track.tidy.reads.0
