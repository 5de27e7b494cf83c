-- What stands in slots after one more command.
use Rattle.std.proofs.Common.{◌≡◌, ◌≢◌, ◌<◌, ◌≤◌, ◌+◌, ℕ, zero, suc, true, false, List, [], ◌∷◌, Option, Some, None, length, replicate, refl, ap, ap₂, sym, ◌∙◌, arith}
use Rattle.std.specs.Prelude.{slice_set}
use Rattle.std.proofs.lemmas.Bool.Decides.{nat_tests}
use Rattle.wg_model.specs.Settings.{slot_after}
use Rattle.wg_compute.specs.After.{slots_after, emptied}

-- Nothing is put into a slot.
pub slots_unset : {X : Type 0} (at : ℕ) (slots : List (Option X)) → slots_after None at slots ≡ slots
slots_unset at [] = refl
slots_unset at (slot ∷ slots) = ap (λ rest. slot ∷ rest) (slots_unset (at + 1) slots)

-- Something, or nothing, is put into another slot,
other_slot : {X : Type 0} (x : Option X) (n at : ℕ) (slot : Option X) → n ≢ at → slot_after (Some (n, x)) at slot ≡ slot
other_slot x n at slot other = grind (arith, nat_tests)

slots_behind : {X : Type 0} (x : Option X) (n at : ℕ) (slots : List (Option X)) → n < at → slots_after (Some (n, x)) at slots ≡ slots
slots_behind x n at [] before = refl
slots_behind x n at (slot ∷ slots) before = ap₂ (λ s rest. s ∷ rest) (other_slot x n at slot (omega arith)) (slots_behind x n (at + 1) slots (omega arith))

-- or into this one.
same_slot : {X : Type 0} (x : Option X) (at : ℕ) (slot : Option X) → slot_after (Some (at + 0, x)) at slot ≡ x
same_slot x at slot = grind (arith, nat_tests)

pub slot_set_from : {X : Type 0} (x : Option X) (i at : ℕ) (slots : List (Option X)) → slice_set slots i x ≡ slots_after (Some (at + i, x)) at slots
slot_set_from x i at [] = refl
slot_set_from x zero at (slot ∷ slots) = sym (ap₂ (λ s rest. s ∷ rest) (same_slot x at slot) (slots_behind x (at + 0) (at + 1) slots (omega arith)))
slot_set_from x (suc i) at (slot ∷ slots) =
    sym (ap₂ (λ s rest. s ∷ rest) (other_slot x (at + suc i) at slot (omega arith)) (ap (λ n. slots_after (Some (n, x)) (at + 1) slots) (omega arith) ∙ sym (slot_set_from x i (at + 1) slots)))

-- the same from the first slot on
pub slot_set : {X : Type 0} (x : Option X) (i : ℕ) (slots : List (Option X)) → slice_set slots i x ≡ slots_after (Some (i, x)) 0 slots
slot_set x i slots = slot_set_from x i 0 slots ∙ ap (λ n. slots_after (Some (n, x)) 0 slots) (omega arith)

-- Past the last slot nothing is put anywhere.
slots_past_from : {X : Type 0} (x : Option X) (n at : ℕ) (slots : List (Option X)) → at + length slots ≤ n → slots_after (Some (n, x)) at slots ≡ slots
slots_past_from x n at [] past = refl
slots_past_from x n at (slot ∷ slots) past = ap₂ (λ s rest. s ∷ rest) (other_slot x n at slot (omega arith)) (slots_past_from x n (at + 1) slots (omega arith))

pub slots_past : {X : Type 0} (x : Option X) (n : ℕ) (slots : List (Option X)) → length slots ≤ n → slots_after (Some (n, x)) 0 slots ≡ slots
slots_past x n slots past = slots_past_from x n 0 slots (omega arith)

-- No slot is emptied.
pub none_emptied : {X : Type 0} (slots : List (Option X)) → emptied false slots ≡ slots
none_emptied [] = refl
none_emptied (slot ∷ slots) = ap (λ rest. slot ∷ rest) (none_emptied slots)

-- All are, whatever is put into them before.
pub emptied_after : {X : Type 0} (given : Option (ℕ × Option X)) (at : ℕ) (slots : List (Option X)) → emptied true (slots_after given at slots) ≡ emptied true slots
emptied_after given at [] = refl
emptied_after given at (slot ∷ slots) = ap (λ rest. None ∷ rest) (emptied_after given (at + 1) slots)

-- Nothing is in slots that are emptied, as in the four of the groups.
pub all_emptied : {X : Type 0} (slots : List (Option X)) → emptied true slots ≡ replicate (length slots) None
all_emptied [] = refl
all_emptied (slot ∷ slots) = ap (λ rest. None ∷ rest) (all_emptied slots)

pub four_emptied : {X : Type 0} (slots : List (Option X)) → length slots ≡ 4 → emptied true slots ≡ None ∷ (None ∷ (None ∷ (None ∷ [])))
four_emptied slots four = all_emptied slots ∙ ap (λ n. replicate n None) four
