-- What is read of one of a list, after a change of one.
use Rattle.std.proofs.Common.{◌≡◌, ℕ, zero, suc, ◌-◌, ◌<◌, ◌≤◌, Bool, true, false, List, [], ◌∷◌, ◌++◌, length, set, take, drop, get_or, inl, inr, refl, sym, ap, ◌∙◌, arith}
use Rattle.std.specs.Prelude.{Option, None}
use Rattle.std.specs.Global.{Global}
use Rattle.std.specs.declared.boxed.Box.{Box}
use Rattle.std.proofs.Math.ListN.{replicate}
use Rattle.std.proofs.lemmas.Bool.{cases_eq, cases_lt, false≢true}
use Rattle.std.proofs.lemmas.List.{get_or_append_left, get_or-append_right, get_or-replicate, get_or_past, take_all, length-replicate}
use Rattle.wg_fading.specs.declared.pages.Page.{Page}
use Rattle.wg_fading.specs.Places.{at_in, page_place}

pub at_read : {X V : Type 0} (none : V) (read : X → ℕ → V) (xs : List X) (i : ℕ) (x : X) (j : ℕ) → i < length xs → x ≡ get_or xs i x → at_in none read xs i j ≡ read x j
at_read none read [] i x j lt is = absurd (omega (arith, lt))
at_read none read (y ∷ xs) zero x j lt is = ap (λ z. read z j) (sym is)
at_read none read (y ∷ xs) (suc i) x j lt is = at_read none read xs i x j (omega (arith, lt)) is

pub at_past : {X V : Type 0} (none : V) (read : X → ℕ → V) (xs : List X) (i j : ℕ) → length xs ≤ i → at_in none read xs i j ≡ none
at_past none read [] i j le = refl
at_past none read (y ∷ xs) zero j le = absurd (omega (arith, le))
at_past none read (y ∷ xs) (suc i) j le = at_past none read xs i j (omega (arith, le))

pub at_set : {X V : Type 0} (none : V) (read : X → ℕ → V) (xs : List X) (i : ℕ) (x : X) (j : ℕ) → i < length xs → at_in none read (set xs i x) i j ≡ read x j
at_set none read [] i x j lt = absurd (omega (arith, lt))
at_set none read (y ∷ xs) zero x j lt = refl
at_set none read (y ∷ xs) (suc i) x j lt = at_set none read xs i x j (omega (arith, lt))

pub at_beside : {X V : Type 0} (none : V) (read : X → ℕ → V) (xs : List X) (i k : ℕ) (x : X) (j : ℕ) → (k ≡ i → ⊥) → at_in none read (set xs i x) k j ≡ at_in none read xs k j
at_beside none read [] i k x j ne = refl
at_beside none read (y ∷ xs) zero zero x j ne = absurd (ne refl)
at_beside none read (y ∷ xs) zero (suc k) x j ne = refl
at_beside none read (y ∷ xs) (suc i) zero x j ne = refl
at_beside none read (y ∷ xs) (suc i) (suc k) x j ne = at_beside none read xs i k x j (λ e. ne (ap suc e))

-- one is as it was at j, in place of itself
pub at_same : {X V : Type 0} (none : V) (read : X → ℕ → V) (xs : List X) (i k : ℕ) (x after : X) (j : ℕ) → i < length xs → x ≡ get_or xs i x → (k ≡ i → read after j ≡ read x j) → at_in none read (set xs i after) k j ≡ at_in none read xs k j
at_same {X} {V} none read xs i k x after j lt is same = elim (cases_eq k i) [
  | inl here ↦ ap (λ (m : ℕ). at_in none read (set xs i after) m j) here ∙ (at_set none read xs i after j lt ∙ (same here ∙ (sym (at_read none read xs i x j lt is) ∙ ap (λ (m : ℕ). at_in none read xs m j) (sym here))))
  | inr other ↦ at_beside none read xs i k after j other
]

-- one has at j what it had, in place of itself
pub at_keeps : {X : Type 0} (has : X → ℕ → Bool) (xs : List X) (i k : ℕ) (x after : X) (j : ℕ) → i < length xs → x ≡ get_or xs i x → (k ≡ i → has x j ≡ true → has after j ≡ true) → at_in false has xs k j ≡ true → at_in false has (set xs i after) k j ≡ true
at_keeps has xs i k x after j lt is keeps had = elim (cases_eq k i) [
  | inl here ↦ ap (λ (m : ℕ). at_in false has (set xs i after) m j) here ∙ (at_set false has xs i after j lt ∙ keeps here (sym (at_read false has xs i x j lt is) ∙ (ap (λ (m : ℕ). at_in false has xs m j) (sym here) ∙ had)))
  | inr other ↦ at_beside false has xs i k after j other ∙ had
]

-- with one more of which nothing is read
pub at_more : {X V : Type 0} (none : V) (read : X → ℕ → V) (xs : List X) (k : ℕ) (x : X) (j : ℕ) → read x j ≡ none → at_in none read (xs ++ x ∷ []) k j ≡ at_in none read xs k j
at_more none read [] zero x j e = e
at_more none read [] (suc k) x j e = refl
at_more none read (y ∷ xs) zero x j e = refl
at_more none read (y ∷ xs) (suc k) x j e = at_more none read xs k x j e

-- without the first
pub at_drop : {X V : Type 0} (none : V) (read : X → ℕ → V) (xs : List X) (k j : ℕ) → at_in none read (drop 1 xs) k j ≡ at_in none read xs (suc k) j
at_drop none read [] k j = refl
at_drop none read (y ∷ xs) k j = refl

-- none of the list has anything
pub at_free : (pages : List (Option (Box Page Global))) → ((i : ℕ) → get_or pages i None ≡ None) → (i j : ℕ) → at_in 4294967295 page_place pages i j ≡ 4294967295
at_free pages are i j = elim (cases_lt i (length pages)) [
  | inl lt ↦ at_read 4294967295 page_place pages i None j lt (sym (are i))
  | inr past ↦ at_past 4294967295 page_place pages i j past
]

-- what is found is of one of the list
pub at_within : {X : Type 0} (has : X → ℕ → Bool) (xs : List X) (i j : ℕ) → at_in false has xs i j ≡ true → i < length xs
at_within has [] i j e = absurd (false≢true e)
at_within has (y ∷ xs) zero j e = omega arith
at_within has (y ∷ xs) (suc i) j e = let lt = at_within has xs i j e in omega (arith, lt)

-- a place that is read has a slot
pub at_has : {X : Type 0} (read : X → ℕ → ℕ) (has : X → ℕ → Bool) (xs : List X) (i j : ℕ) → ((x : X) → read x j < 4294967295 → has x j ≡ true) → at_in 4294967295 read xs i j < 4294967295 → at_in false has xs i j ≡ true
at_has read has [] i j each lt = absurd (omega (arith, lt))
at_has read has (y ∷ xs) zero j each lt = each y lt
at_has read has (y ∷ xs) (suc i) j each lt = at_has read has xs i j each lt

abbrev in_list : List ℕ → ℕ → ℕ
in_list places j = get_or places j 4294967295

none_replicate : (k i : ℕ) → in_list (replicate k 4294967295) i ≡ 4294967295
none_replicate k i = elim (cases_lt i k) [
  | inl lt ↦ get_or-replicate k i 4294967295 4294967295 lt
  | inr past ↦ (let len = length-replicate {A = ℕ} k 4294967295 in get_or_past (replicate k 4294967295) i 4294967295 (omega (arith, len, past)))
]

-- a page that is filled up has what it had
pub filled : (places : List ℕ) (k j : ℕ) → length places ≤ 128 → get_or (take 128 places ++ replicate k 4294967295) j 4294967295 ≡ get_or places j 4294967295
filled places k j le = ap (λ (l : List ℕ). in_list (l ++ replicate k 4294967295) j) (take_all 128 places le) ∙ elim (cases_lt j (length places)) [
  | inl lt ↦ get_or_append_left places (replicate k 4294967295) 4294967295 j lt
  | inr past ↦ get_or-append_right places (replicate k 4294967295) (length places) j 4294967295 refl past ∙ (none_replicate k (j - length places) ∙ sym (get_or_past places j 4294967295 past))
]
