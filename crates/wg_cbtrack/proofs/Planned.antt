-- What plans add, group by group.
use Rattle.std.proofs.Common.{◌≡◌, ℕ, List, [], ◌∷◌, ◌++◌, refl, ap, ap₂, sym, ◌∙◌, subst}
use Rattle.wg_orders.specs.Steps.{Step}
use Rattle.wg_orders.specs.Trace.{Item, steps_of, add_group, add_groups}
use Rattle.wg_fading.specs.Fading.{is_kept}
use Rattle.wg_bars.specs.Kept.{with_notes}
use Rattle.wg_bars.specs.Last.{LastRows, AreSorted, KeepsLast}
use Rattle.wg_init.specs.Rows.{SetRows, RunsApart, KeepsSet}
use Rattle.wg_cbtrack.specs.Stands.{TrackerValue, Stands}
use Rattle.wg_cbtrack.specs.Adds.{now_of, HasAdded}
use Rattle.wg_cbtrack.specs.Plans.{PlanValue}
use Rattle.wg_cbtrack.specs.Ready.{IsPlanned, IsReady}
use Rattle.wg_cbtrack.proofs.Adding.{added_same}

groups_more : (trace : List Item) (groups : List (List Step)) (group : List Step) → add_groups trace (groups ++ group ∷ []) ≡ add_group (add_groups trace groups) group
groups_more trace [] group = refl
groups_more trace (steps ∷ groups) group = groups_more (add_group trace steps) groups group

-- One more group.
pub one_planned : (t : TrackerValue) (new : PlanValue) (groups : List (List Step)) (group : List Step) → HasAdded t new.draft (λ trace. add_group (add_groups trace groups) group) → IsPlanned t new (groups ++ group ∷ [])
one_planned t new groups group added = added_same t new.draft (λ trace. add_group (add_groups trace groups) group) (λ trace. add_groups trace (groups ++ group ∷ [])) (λ trace stands. sym (groups_more trace groups group)) added

-- A group of no steps adds nothing.
pub none_more : (t : TrackerValue) (p : PlanValue) (groups : List (List Step)) (group : List Step) → group ≡ [] → IsPlanned t p groups → IsPlanned t p (groups ++ group ∷ [])
none_more t p groups group none h = added_same t p.draft (λ trace. add_groups trace groups) (λ trace. add_groups trace (groups ++ group ∷ [])) (λ trace stands. sym (groups_more trace groups group ∙ ap (add_group (add_groups trace groups)) none)) h

-- What is planned is ready.
pub planned_ready : (t : TrackerValue) (p : PlanValue) (groups : List (List Step)) → IsPlanned t p groups → IsReady t p
planned_ready t p groups h = record {
  here = h.here;
  sound = h.sound;
  stands = λ trace stands. subst (λ (items : List Item). Stands (now_of t p.draft) (steps_of items)) (sym (h.added trace stands)) (h.stands trace stands);
}

-- A plan is ready for a tracker that differs in its room alone.
pub ready_same : (t u : TrackerValue) (p : PlanValue) → u.last ≡ t.last → u.cells ≡ t.cells → u.last_gone ≡ t.last_gone → u.cells_gone ≡ t.cells_gone → IsReady t p → IsReady u p
ready_same t u p last cells last_gone cells_gone h = record {
  here = record {
    last = λ object noted. ap₂ (λ (rows : LastRows) (gone : List ℕ). is_kept (record { items = rows; gone = gone; spare = 0 }) object) last last_gone ∙ h.here.last object noted;
    cells = λ object noted. ap₂ (λ (rows : SetRows) (gone : List ℕ). is_kept (record { items = rows; gone = gone; spare = 0 }) object) cells cells_gone ∙ h.here.cells object noted;
  };
  sound = record {
    last = subst (λ (rows : LastRows). AreSorted (with_notes rows p.draft.last)) (sym last) h.sound.last;
    cells = subst (λ (rows : SetRows). RunsApart (with_notes rows p.draft.cells)) (sym cells) h.sound.cells;
  };
  stands = λ trace stands.
      let before : Stands t (steps_of trace) = record { last = subst (λ (rows : LastRows). KeepsLast rows (steps_of trace)) last stands.last; cells = subst (λ (rows : SetRows). KeepsSet rows (steps_of trace)) cells stands.cells } in
      let after : Stands (now_of t p.draft) (steps_of (trace ++ p.draft.items.items)) = h.stands trace before in
      record {
        last = subst (λ (rows : LastRows). KeepsLast (with_notes rows p.draft.last) (steps_of (trace ++ p.draft.items.items))) (sym last) after.last;
        cells = subst (λ (rows : SetRows). KeepsSet (with_notes rows p.draft.cells) (steps_of (trace ++ p.draft.items.items))) (sym cells) after.cells;
      };
}
