-- Where a group names the bindings of its layout in its order, each lookup finds the entry at the same place.
use Rattle.std.proofs.Common.{◌≡◌, ◌∙◌, ◌+◌, ◌<◌, ◌==◌, ℕ, zero, suc, Bool, List, [], ◌∷◌, length, drop, Option, Some, true, false, cond, refl, sym, arith, count_by}
use Rattle.std.specs.Prelude.{is_some}
use Rattle.std.specs.List.{list_all, zip}
use Rattle.std.specs.Option.{option_map_or}
use Rattle.std.proofs.lemmas.Bool.Decides.{nat_tests}
use Rattle.std.proofs.lemmas.List.Sums.{sum_by-cons}
use Rattle.wg_types.specs.Bindings.{entry_of}
use Rattle.wg_types.specs.declared.bindings.BindingKind.{BindingKind}
use Rattle.wg_types.specs.declared.bindings.LayoutEntry.{LayoutEntry}
use Rattle.wg_types.specs.declared.bindings.BoundResource.{BoundResource}
use Rattle.wg_types.specs.declared.bindings.BoundEntry.{BoundEntry}
use Rattle.wg_model.specs.Groups.{are_matched, each_fits}
use Rattle.wg_groups.specs.Tests.{aligned_from}

-- an entry of the layout below the least is not found
past_first : (p : BoundEntry → Option LayoutEntry → Bool) (first : LayoutEntry) (all : List LayoutEntry) (least : ℕ) (layout : List LayoutEntry) (entries : List BoundEntry) → first.binding < least → aligned_from least layout entries ≡ true → list_all (λ (entry : BoundEntry). p entry (entry_of (first ∷ all) entry.binding)) entries ≡ list_all (λ (entry : BoundEntry). p entry (entry_of all entry.binding)) entries
past_first p first all least [] [] below aligned = refl
past_first p first all least [] (entry ∷ entries) below aligned = grind arith
past_first p first all least (asked ∷ layout) [] below aligned = refl
past_first p first all least (asked ∷ layout) (entry ∷ entries) below aligned = grind (arith, nat_tests, past_first p first all (asked.binding + 1) layout entries)

-- what holds of each entry and what is found for it is what holds of each pair
in_place : (p : BoundEntry → Option LayoutEntry → Bool) (least : ℕ) (layout : List LayoutEntry) (entries : List BoundEntry) → aligned_from least layout entries ≡ true → list_all (λ (entry : BoundEntry). p entry (entry_of layout entry.binding)) entries ≡ list_all (λ (pair : LayoutEntry × BoundEntry). p pair.1 (Some pair.0)) (zip layout entries)
in_place p least [] [] aligned = refl
in_place p least [] (entry ∷ entries) aligned = grind arith
in_place p least (asked ∷ layout) [] aligned = refl
in_place p least (asked ∷ layout) (entry ∷ entries) aligned = grind (arith, nat_tests, past_first p asked layout (asked.binding + 1) layout entries, in_place p (asked.binding + 1) layout entries)

pub fits_in_place : (test : BindingKind → BoundResource → Bool) (layout : List LayoutEntry) (entries : List BoundEntry) → aligned_from 0 layout entries ≡ true → list_all (λ (pair : LayoutEntry × BoundEntry). test pair.0.kind pair.1.resource) (zip layout entries) ≡ each_fits test layout entries
fits_in_place test layout entries aligned = sym (in_place (λ entry found. option_map_or (λ (asked : LayoutEntry). test asked.kind entry.resource) found true) 0 layout entries aligned)

all_true : {X : Type 0} (xs : List X) → list_all (λ _. true) xs ≡ true
all_true [] = refl
all_true (x ∷ xs) = all_true xs

-- no entry of the group is of a binding below the least
none_below : (n least : ℕ) (layout : List LayoutEntry) (entries : List BoundEntry) → n < least → aligned_from least layout entries ≡ true → count_by (λ (entry : BoundEntry). entry.binding == n) entries ≡ 0
none_below n least [] [] below aligned = refl
none_below n least [] (entry ∷ entries) below aligned = grind arith
none_below n least (asked ∷ layout) [] below aligned = refl
none_below n least (asked ∷ layout) (entry ∷ entries) below aligned = grind (arith, nat_tests, none_below n (asked.binding + 1) layout entries)

-- an entry of the group below the least does not count
count_past_first : (first : BoundEntry) (all : List BoundEntry) (least : ℕ) (layout : List LayoutEntry) (entries : List BoundEntry) → first.binding < least → aligned_from least layout entries ≡ true → list_all (λ (asked : LayoutEntry). count_by (λ (entry : BoundEntry). entry.binding == asked.binding) (first ∷ all) == 1) layout ≡ list_all (λ (asked : LayoutEntry). count_by (λ (entry : BoundEntry). entry.binding == asked.binding) all == 1) layout
count_past_first first all least [] entries below aligned = refl
count_past_first first all least (asked ∷ layout) [] below aligned = grind arith
count_past_first first all least (asked ∷ layout) (entry ∷ entries) below aligned = grind (arith, nat_tests, count_past_first first all (asked.binding + 1) layout entries)

each_once : (least : ℕ) (layout : List LayoutEntry) (entries : List BoundEntry) → aligned_from least layout entries ≡ true → list_all (λ (asked : LayoutEntry). count_by (λ (entry : BoundEntry). entry.binding == asked.binding) entries == 1) layout ≡ true
each_once least [] entries aligned = refl
each_once least (asked ∷ layout) [] aligned = grind arith
each_once least (asked ∷ layout) (entry ∷ entries) aligned = grind (arith, nat_tests, sum_by-cons (λ (other : BoundEntry). cond (other.binding == asked.binding) 1 0) entry entries, none_below asked.binding (asked.binding + 1) layout entries, count_past_first entry entries (asked.binding + 1) layout entries, each_once (asked.binding + 1) layout entries)

pub aligned_matched : (layout : List LayoutEntry) (entries : List BoundEntry) → aligned_from 0 layout entries ≡ true → are_matched layout entries ≡ true
aligned_matched layout entries aligned =
    let found : list_all (λ (entry : BoundEntry). is_some (entry_of layout entry.binding)) entries ≡ true
    = in_place (λ entry found. is_some found) 0 layout entries aligned ∙ all_true (zip layout entries) in
    grind (arith, each_once 0 layout entries aligned, found)

-- a group with fewer entries than its layout is not aligned
pub too_few : (least n : ℕ) (layout : List LayoutEntry) (entries : List BoundEntry) → n < length layout → length entries ≡ 0 → aligned_from least (drop n layout) entries ≡ false
too_few least n [] entries below none = grind arith
too_few least n layout (entry ∷ entries) below none = grind arith
too_few least zero (asked ∷ layout) [] below none = refl
too_few least (suc n) (asked ∷ layout) [] below none = too_few least n layout [] (grind arith) none
