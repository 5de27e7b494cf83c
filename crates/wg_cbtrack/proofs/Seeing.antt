-- The first and the last sets of parts after one more step.
use Rattle.std.proofs.Common.{◌≡◌, List, [], ◌∷◌, ◌++◌, length, Option, Some, None, refl, ap, ap₂, sym, ◌∙◌, subst}
use Rattle.std.specs.Option.{option_or, option_and_then, option_map_or}
use Rattle.wg_trace.specs.declared.steps.Deed.{Deed}
use Rattle.wg_rows.specs.Rows.{Spot, Apart}
use Rattle.wg_rows.specs.Cut.{value_at, put_all}
use Rattle.wg_rows.specs.Runs.{Part, part_sort, part_spot}
use Rattle.wg_rows.specs.Uses.{Usages, same_set}
use Rattle.wg_rows.specs.Sets.{UseRow, sets}
use Rattle.wg_orders.specs.Steps.{Step, set_of, placed}
use Rattle.wg_orders.specs.Trace.{last_set}
use Rattle.wg_cbtrack.specs.Group.{placed_all}
use Rattle.wg_cbtrack.specs.Join.{opens, used_after}
use Rattle.wg_cbtrack.specs.Seen.{first_set, AreStarts, AreEnds, AreSeen}
use Rattle.wg_rows.proofs.Told.{uses_tell}
use Rattle.wg_rows.proofs.Sets.{sets_are}
use Rattle.wg_rows.proofs.Values.{apart_loose, AreFree, all_put}
use Rattle.wg_orders.proofs.Steps.{last_set_more}
use Rattle.wg_cbtrack.proofs.Joins.{opens_are, used_are}
use Rattle.wg_cbtrack.proofs.Nexts.{placed_more}

first_more : (p : Part) (steps : List Step) (s : Step) → first_set p (steps ++ s ∷ []) ≡ option_or (first_set p steps) (set_of s p)
first_more p [] s = or_none (set_of s p)
  where
    or_none : (o : Option Usages) → option_or o None ≡ o
    or_none None = refl
    or_none (Some v) = refl
first_more p (x ∷ steps) s = ap (option_or (set_of x p)) (first_more p steps s) ∙ or_assoc (set_of x p) (first_set p steps) (set_of s p)
  where
    or_assoc : (a b d : Option Usages) → option_or a (option_or b d) ≡ option_or (option_or a b) d
    or_assoc None b d = refl
    or_assoc (Some v) b d = refl

-- The rows of the first sets, with the uses that are the first of their parts.
starts_next : (deeds : List Deed) (d : Deed) (rows after : List UseRow) → AreStarts deeds rows → after ≡ put_all part_sort same_set (opens rows (sets d.uses)) rows → AreStarts (deeds ++ d ∷ []) after
unfolding set_of
starts_next deeds d rows after are e = record {
  apart = subst (Apart part_sort) (sym e) all.0;
  sets = λ place p.
      ap (value_at part_sort (part_spot p)) e
      ∙ (all.1 (part_spot p)
      ∙ (ap (λ o. option_or o (value_at part_sort (part_spot p) rows)) (opened (part_spot p))
      ∙ (by_values (value_at part_sort (part_spot p) rows) (value_at part_sort (part_spot p) (sets d.uses))
      ∙ (ap₂ option_or (are.sets place p) ((sets_are d.uses).1 p)
      ∙ (sym (first_more p (placed_all place deeds) (placed place d))
      ∙ ap (first_set p) (sym (placed_more place deeds d)))))));
}
  where
    found : Apart part_sort (opens rows (sets d.uses)) × ((spot : Spot) → value_at part_sort spot (opens rows (sets d.uses)) ≡ option_and_then (λ to. option_map_or (λ (v : Usages). None) (value_at part_sort spot rows) (Some to)) (value_at part_sort spot (sets d.uses)))
    found = opens_are rows (sets d.uses) are.apart (sets_are d.uses).0

    opened : (spot : Spot) → value_at part_sort spot (opens rows (sets d.uses)) ≡ option_and_then (λ to. option_map_or (λ (v : Usages). None) (value_at part_sort spot rows) (Some to)) (value_at part_sort spot (sets d.uses))
    opened = found.1

    free_by : (i o : Option Usages) (v : Usages) → option_and_then (λ (to : Usages). option_map_or (λ (v : Usages). None) i (Some to)) o ≡ Some v → i ≡ None
    free_by None o v f = refl
    free_by (Some w) None v f = absurd (cc)
    free_by (Some w) (Some to) v f = absurd (cc)

    are_free : AreFree part_sort (opens rows (sets d.uses)) rows
    are_free spot v f = free_by (value_at part_sort spot rows) (value_at part_sort spot (sets d.uses)) v (sym (opened spot) ∙ f)

    all : Apart part_sort (put_all part_sort same_set (opens rows (sets d.uses)) rows) × ((spot : Spot) → value_at part_sort spot (put_all part_sort same_set (opens rows (sets d.uses)) rows) ≡ option_or (value_at part_sort spot (opens rows (sets d.uses))) (value_at part_sort spot rows))
    all = all_put part_sort same_set uses_tell (opens rows (sets d.uses)) rows (apart_loose part_sort (opens rows (sets d.uses)) found.0) are.apart are_free

    by_values : (i o : Option Usages) → option_or (option_and_then (λ (to : Usages). option_map_or (λ (v : Usages). None) i (Some to)) o) i ≡ option_or i o
    by_values None None = refl
    by_values None (Some to) = refl
    by_values (Some v) None = refl
    by_values (Some v) (Some to) = refl

-- The rows of the last sets, overwritten by the uses.
ends_next : (deeds : List Deed) (d : Deed) (rows after : List UseRow) → AreEnds deeds rows → after ≡ used_after (sets d.uses) rows → AreEnds (deeds ++ d ∷ []) after
unfolding set_of
ends_next deeds d rows after are e = record {
  apart = subst (Apart part_sort) (sym e) used.0;
  sets = λ place p.
      ap (value_at part_sort (part_spot p)) e
      ∙ (used.1 (part_spot p)
      ∙ (ap₂ option_or ((sets_are d.uses).1 p) (are.sets place p)
      ∙ (sym (last_set_more p (placed_all place deeds) (placed place d))
      ∙ ap (λ steps. last_set p steps (length steps)) (sym (placed_more place deeds d)))));
}
  where
    used : Apart part_sort (used_after (sets d.uses) rows) × ((spot : Spot) → value_at part_sort spot (used_after (sets d.uses) rows) ≡ option_or (value_at part_sort spot (sets d.uses)) (value_at part_sort spot rows))
    used = used_are (sets d.uses) rows (apart_loose part_sort (sets d.uses) (sets_are d.uses).0) are.apart

pub see_next : (deeds : List Deed) (d : Deed) (starts ends starts_after ends_after : List UseRow) → AreSeen deeds starts ends → starts_after ≡ put_all part_sort same_set (opens starts (sets d.uses)) starts → ends_after ≡ used_after (sets d.uses) ends → AreSeen (deeds ++ d ∷ []) starts_after ends_after
see_next deeds d starts ends starts_after ends_after are s e = record {
  starts = starts_next deeds d starts starts_after are.starts s;
  ends = ends_next deeds d ends ends_after are.ends e;
}
