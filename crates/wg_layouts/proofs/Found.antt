-- Lookups among entries that ascend.
use Rattle.std.proofs.Common.{◌≡◌, ◌+◌, ◌<◌, ◌≤◌, ℕ, zero, suc, List, [], ◌∷◌, length, take, drop, get_or, Some, None, true, refl, sym, ap, ◌∙◌, arith}
use Rattle.std.proofs.lemmas.Bool.Decides.{nat_tests}
use Rattle.wg_types.specs.Bindings.{entry_of}
use Rattle.wg_types.specs.declared.bindings.LayoutEntry.{LayoutEntry}
use Rattle.wg_layouts.specs.Ascending.{ascends_from}

ascends_lower : (low least : ℕ) (entries : List LayoutEntry) → low ≤ least → ascends_from least entries ≡ true → ascends_from low entries ≡ true
ascends_lower low least [] le ascends = refl
ascends_lower low least (entry ∷ entries) le ascends = grind (arith, nat_tests)

ascends_take : (least n : ℕ) (entries : List LayoutEntry) → ascends_from least entries ≡ true → ascends_from least (take n entries) ≡ true
ascends_take least zero entries ascends = refl
ascends_take least (suc n) [] ascends = refl
ascends_take least (suc n) (entry ∷ entries) ascends = grind (arith, nat_tests, ascends_take (entry.binding + 1) n entries)

-- an entry at a place is at least as far from the least
place_above : (least n : ℕ) (entries : List LayoutEntry) (d : LayoutEntry) → n < length entries → ascends_from least entries ≡ true → least ≤ (get_or entries n d).binding
place_above least n [] d below ascends = absurd (omega (arith, below))
place_above least zero (entry ∷ entries) d below ascends = grind (arith, nat_tests)
place_above least (suc n) (entry ∷ entries) d below ascends = grind (arith, nat_tests, place_above (entry.binding + 1) n entries d)

none_below : (least binding : ℕ) (entries : List LayoutEntry) → binding < least → ascends_from least entries ≡ true → entry_of entries binding ≡ None
none_below least binding [] below ascends = refl
none_below least binding (entry ∷ entries) below ascends = grind (arith, nat_tests, none_below (entry.binding + 1) binding entries)

pub found_here : (least n : ℕ) (entries : List LayoutEntry) (d : LayoutEntry) (binding : ℕ) → n < length entries → ascends_from least entries ≡ true → (get_or entries n d).binding ≡ binding → entry_of entries binding ≡ Some (get_or entries n d)
found_here least n [] d binding below ascends is = absurd (omega (arith, below))
found_here least zero (entry ∷ entries) d binding below ascends is = grind (arith, nat_tests)
found_here least (suc n) (entry ∷ entries) d binding below ascends is = grind (arith, nat_tests, place_above (entry.binding + 1) n entries d, found_here (entry.binding + 1) n entries d binding)

-- Entries that one of them parts: those before it are the first n.
part_above : (least n : ℕ) (entries : List LayoutEntry) (entry : LayoutEntry) (after : List LayoutEntry) → drop n entries ≡ entry ∷ after → ascends_from least entries ≡ true → least ≤ entry.binding
part_above least zero [] entry after e ascends = absurd (cc)
part_above least zero (first ∷ entries) entry after e ascends = grind (arith, nat_tests)
part_above least (suc n) [] entry after e ascends = absurd (cc)
part_above least (suc n) (first ∷ entries) entry after e ascends = grind (arith, nat_tests, part_above (first.binding + 1) n entries entry after e)

part_here : (least n : ℕ) (entries : List LayoutEntry) (entry : LayoutEntry) (after : List LayoutEntry) → drop n entries ≡ entry ∷ after → ascends_from least entries ≡ true → entry_of entries entry.binding ≡ Some entry
part_here least zero [] entry after e ascends = absurd (cc)
part_here least zero (first ∷ entries) entry after e ascends = grind (arith, nat_tests)
part_here least (suc n) [] entry after e ascends = absurd (cc)
part_here least (suc n) (first ∷ entries) entry after e ascends = grind (arith, nat_tests, part_above (first.binding + 1) n entries entry after e, part_here (first.binding + 1) n entries entry after e)

part_after : (least n : ℕ) (entries : List LayoutEntry) (entry : LayoutEntry) (after : List LayoutEntry) (binding : ℕ) → drop n entries ≡ entry ∷ after → ascends_from least entries ≡ true → entry.binding < binding → (ascends_from 0 after ≡ true) × (entry_of after binding ≡ entry_of entries binding)
part_after least zero [] entry after binding e ascends above = absurd (cc)
part_after least zero (first ∷ entries) entry after binding e ascends above = (grind (arith, nat_tests, ascends_lower 0 (first.binding + 1) entries), grind (arith, nat_tests))
part_after least (suc n) [] entry after binding e ascends above = absurd (cc)
part_after least (suc n) (first ∷ entries) entry after binding e ascends above =
    let ascends_on : ascends_from (first.binding + 1) entries ≡ true = grind (arith, nat_tests) in
    let found : (ascends_from 0 after ≡ true) × (entry_of after binding ≡ entry_of entries binding) = part_after (first.binding + 1) n entries entry after binding e ascends_on above in
    (found.0, grind (arith, nat_tests, found.1, part_above (first.binding + 1) n entries entry after e ascends_on))

part_before : (least n : ℕ) (entries : List LayoutEntry) (entry : LayoutEntry) (after : List LayoutEntry) (binding : ℕ) → drop n entries ≡ entry ∷ after → ascends_from least entries ≡ true → binding < entry.binding → entry_of (take n entries) binding ≡ entry_of entries binding
part_before least zero [] entry after binding e ascends below = absurd (cc)
part_before least zero (first ∷ entries) entry after binding e ascends below = grind (arith, nat_tests, none_below (first.binding + 1) binding entries)
part_before least (suc n) [] entry after binding e ascends below = absurd (cc)
part_before least (suc n) (first ∷ entries) entry after binding e ascends below = grind (arith, nat_tests, part_before (first.binding + 1) n entries entry after binding e)

pub found_there : (n : ℕ) (entries from : List LayoutEntry) (entry : LayoutEntry) (after : List LayoutEntry) (binding : ℕ) → from ≡ drop n entries → from ≡ entry ∷ after → ascends_from 0 entries ≡ true → entry.binding ≡ binding → Some entry ≡ entry_of entries binding
found_there n entries from entry after binding part first ascends is = sym (part_here 0 n entries entry after (sym part ∙ first) ascends) ∙ ap (entry_of entries) is

pub found_after : (n : ℕ) (entries from : List LayoutEntry) (entry : LayoutEntry) (after : List LayoutEntry) (binding : ℕ) → from ≡ drop n entries → from ≡ entry ∷ after → ascends_from 0 entries ≡ true → entry.binding < binding → (ascends_from 0 after ≡ true) × (entry_of after binding ≡ entry_of entries binding)
found_after n entries from entry after binding part first ascends above = part_after 0 n entries entry after binding (sym part ∙ first) ascends above

pub found_before : (n : ℕ) (entries before from : List LayoutEntry) (entry : LayoutEntry) (after : List LayoutEntry) (binding : ℕ) → before ≡ take n entries → from ≡ drop n entries → from ≡ entry ∷ after → ascends_from 0 entries ≡ true → binding < entry.binding → (ascends_from 0 before ≡ true) × (entry_of before binding ≡ entry_of entries binding)
found_before n entries before from entry after binding front part first ascends below =
    (ap (ascends_from 0) front ∙ ascends_take 0 n entries ascends, ap (λ es. entry_of es binding) front ∙ part_before 0 n entries entry after binding (sym part ∙ first) ascends below)
