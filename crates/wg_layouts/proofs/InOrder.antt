-- Layouts that have the same entries in the same order are equivalent.
use Rattle.std.proofs.Common.{◌≡◌, ℕ, Bool, List, [], ◌∷◌, length, true, refl, arith}
use Rattle.std.specs.List.{list_all}
use Rattle.std.proofs.lemmas.Bool.Decides.{nat_tests}
use Rattle.wg_types.specs.declared.bindings.LayoutEntry.{LayoutEntry}
use Rattle.wg_model.specs.Equality.{same_list, same_layout_entry, of_binding, equivalent}

same_length : (a b : List LayoutEntry) → same_list same_layout_entry a b ≡ true → length a ≡ length b
same_length [] [] same = refl
same_length [] (y ∷ ys) same = grind arith
same_length (x ∷ xs) [] same = grind arith
same_length (x ∷ xs) (y ∷ ys) same = grind (arith, same_length xs ys)

same_of_binding : (n : ℕ) (a b : List LayoutEntry) → same_list same_layout_entry a b ≡ true → same_list same_layout_entry (of_binding n a) (of_binding n b) ≡ true
same_of_binding n [] [] same = refl
same_of_binding n [] (y ∷ ys) same = grind arith
same_of_binding n (x ∷ xs) [] same = grind arith
same_of_binding n (x ∷ xs) (y ∷ ys) same = grind (arith, nat_tests, same_of_binding n xs ys)

all_pass : {X : Type 0} (p : X → Bool) (xs : List X) → ((x : X) → p x ≡ true) → list_all p xs ≡ true
all_pass p [] passes = refl
all_pass p (x ∷ xs) passes = grind (arith, passes x, all_pass p xs passes)

pub equivalent_in_order : (a b : List LayoutEntry) → same_list same_layout_entry a b ≡ true → equivalent a b ≡ true
equivalent_in_order a b same =
    let each : list_all (λ (entry : LayoutEntry). same_list same_layout_entry (of_binding entry.binding a) (of_binding entry.binding b)) a ≡ true
    = all_pass (λ (entry : LayoutEntry). same_list same_layout_entry (of_binding entry.binding a) (of_binding entry.binding b)) a (λ (entry : LayoutEntry). same_of_binding entry.binding a b same) in
    grind (arith, nat_tests, each, same_length a b same)
