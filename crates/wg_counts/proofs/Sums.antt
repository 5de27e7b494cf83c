-- Sums over the objects that are alive, and how often an object stands in a list.
use Rattle.std.proofs.Common.{◌≡◌, ◌≢◌, ℕ, zero, suc, ◌+◌, ◌<◌, ◌≤◌, Bool, true, false, ◌||◌, ◌==◌, nat_lt, List, [], ◌∷◌, ◌++◌, length, set, inl, inr, refl, sym, ap, ap₂, ◌∙◌, arith, if◌then◌else◌, true≢false}
use Rattle.std.proofs.lemmas.Bool.{cases_lt, eq-eqb, ne_eqb, lt-ltb}
use Rattle.std.proofs.lemmas.List.{get_or-set_other, get_or_past}
use Rattle.wg_model.specs.Holding.{is_among}
use Rattle.wg_counts.specs.Counts.{times}
use Rattle.wg_counts.specs.Kept.{count_at, is_alive, sum_alive, living, pending}

pub sum_same : (p q : ℕ → Bool) (weight : ℕ → ℕ) (m : ℕ) → ((k : ℕ) → k < m → p k ≡ q k) → sum_alive p weight m ≡ sum_alive q weight m
sum_same p q weight zero same = refl
sum_same p q weight (suc m) same = ap₂ ◌+◌ (sum_same p q weight m (λ k lt. same k (omega (arith, lt)))) (ap (λ b. if b then weight m else 0) (same m (omega arith)))

-- one object less is alive
pub sum_less : (p q : ℕ → Bool) (weight : ℕ → ℕ) (k m : ℕ) → k < m → p k ≡ true → q k ≡ false → ((i : ℕ) → i ≢ k → p i ≡ q i) → sum_alive p weight m ≡ sum_alive q weight m + weight k
sum_less p q weight k zero lt was now same = absurd (omega (arith, lt))
sum_less p q weight k (suc m) lt was now same = elim (cases_lt k m) [
  | inl less ↦ (let before = sum_less p q weight k m less was now same in
      let here : (if p m then weight m else 0) ≡ (if q m then weight m else 0) = ap (λ b. if b then weight m else 0) (same m (λ e. absurd (omega (arith, e, less)))) in
      omega (arith, before, here))
  | inr more ↦ (let e : m ≡ k = omega (arith, lt, more) in
      let before = sum_same p q weight m (λ i below. same i (λ f. absurd (omega (arith, f, below, more)))) in
      let one : (if p m then weight m else 0) ≡ weight k = ap (λ b. if b then weight m else 0) (ap p e ∙ was) ∙ ap weight e in
      let none : (if q m then weight m else 0) ≡ 0 = ap (λ b. if b then weight m else 0) (ap q e ∙ now) in
      omega (arith, before, one, none))
]

-- the same over other weights
pub sum_weights : (p : ℕ → Bool) (weight other : ℕ → ℕ) (m : ℕ) → ((k : ℕ) → k < m → weight k ≡ other k) → sum_alive p weight m ≡ sum_alive p other m
sum_weights p weight other zero same = refl
sum_weights p weight other (suc m) same = ap₂ ◌+◌ (sum_weights p weight other m (λ k lt. same k (omega (arith, lt)))) (ap (λ w. if p m then w else 0) (same m (omega arith)))

pub sum_some : (p : ℕ → Bool) (weight : ℕ → ℕ) (k m : ℕ) → k < m → p k ≡ true → 0 < weight k → 0 < sum_alive p weight m
sum_some p weight k zero lt is some = absurd (omega (arith, lt))
sum_some p weight k (suc m) lt is some = elim (cases_lt k m) [
  | inl less ↦ (let before = sum_some p weight k m less is some in omega (arith, before))
  | inr more ↦ (let e : m ≡ k = omega (arith, lt, more) in
      let one : (if p m then weight m else 0) ≡ weight k = ap (λ b. if b then weight m else 0) (ap p e ∙ is) ∙ ap weight e in
      omega (arith, one, some))
]

pub held_inside : (counts : List ℕ) (n : ℕ) → 0 < count_at counts n → n < length counts
held_inside counts n h = elim (cases_lt n (length counts)) [
  | inl lt ↦ lt
  | inr ge ↦ (let e = get_or_past counts n 0 ge in absurd (omega (arith, h, e)))
]

pub living_some : (counts : List ℕ) (n : ℕ) → 0 < count_at counts n → 0 < living counts
living_some counts n h = sum_some (is_alive counts) (λ m. 1) n (length counts) (held_inside counts n h) (lt-ltb 0 (count_at counts n) h) (omega arith)

pub alive_set : (counts : List ℕ) (k c i : ℕ) → i ≢ k → is_alive counts i ≡ is_alive (set counts k c) i
alive_set counts k c i other = sym (ap (nat_lt 0) (get_or-set_other counts k i c 0 other))

-- one where a test holds
abbrev pub one_if : Bool → ℕ
one_if b = if b then 1 else 0

pub one_true : (b : Bool) → b ≡ true → one_if b ≡ 1
one_true true e = refl
one_true false e = absurd (true≢false (sym e))

pub one_false : (b : Bool) → b ≡ false → one_if b ≡ 0
one_false true e = absurd (true≢false e)
one_false false e = refl

pub at_same : (k n : ℕ) → k ≡ n → one_if (k == n) ≡ 1
at_same k n e = one_true (k == n) (eq-eqb k n e)

pub at_other : (k n : ℕ) → k ≢ n → one_if (k == n) ≡ 0
at_other k n e = one_false (k == n) (ne_eqb k n e)

pub times_here : (rest : List ℕ) (r : ℕ) → times r (r ∷ rest) ≡ 1 + times r rest
times_here rest r = ap (λ b. (if b then 1 else 0) + times r rest) (eq-eqb r r refl)

pub times_at : (rest : List ℕ) (r n : ℕ) → n ≡ r → times n (r ∷ rest) ≡ 1 + times n rest
times_at rest r n same = ap (λ b. (if b then 1 else 0) + times n rest) (eq-eqb r n (sym same))

pub times_other : (rest : List ℕ) (r n : ℕ) → n ≢ r → times n (r ∷ rest) ≡ 0 + times n rest
times_other rest r n other = ap (λ b. (if b then 1 else 0) + times n rest) (ne_eqb r n (λ e. other (sym e)))

pub times_append : (n : ℕ) (xs ys : List ℕ) → times n (xs ++ ys) ≡ times n xs + times n ys
times_append n [] ys = omega arith
times_append n (x ∷ xs) ys = let e = times_append n xs ys in omega (arith, e)

pub times_push : (n k : ℕ) (ms : List ℕ) → times n (ms ++ k ∷ []) ≡ (if k == n then 1 else 0) + times n ms
times_push n k ms = let e = times_append n ms (k ∷ []) in omega (arith, e)

pub times_le : (list : List ℕ) (n : ℕ) → times n list ≤ length list
times_le [] n = omega arith
times_le (m ∷ ms) n = by_test (m == n) (times_le ms n)
  where
    by_test : (b : Bool) → times n ms ≤ length ms → (if b then 1 else 0) + times n ms ≤ suc (length ms)
    by_test true rest = omega (arith, rest)
    by_test false rest = omega (arith, rest)

pub among_times : (list : List ℕ) (n : ℕ) → 0 < times n list → is_among list n ≡ true
among_times [] n h = absurd (omega (arith, h))
among_times (m ∷ ms) n h = by_test (m == n) h (among_times ms n)
  where
    by_test : (b : Bool) → 0 < (if b then 1 else 0) + times n ms → (0 < times n ms → is_among ms n ≡ true) → (b || is_among ms n) ≡ true
    by_test true h rest = refl
    by_test false h rest = rest (omega (arith, h))

pub times_among : (list : List ℕ) (n : ℕ) → is_among list n ≡ true → 0 < times n list
times_among [] n e = absurd (true≢false (sym e))
times_among (m ∷ ms) n e = by_test (m == n) e (times_among ms n)
  where
    by_test : (b : Bool) → (b || is_among ms n) ≡ true → (is_among ms n ≡ true → 0 < times n ms) → 0 < (if b then 1 else 0) + times n ms
    by_test true e rest = omega arith
    by_test false e rest = let h = rest e in omega (arith, h)

pub pending_push : (refers : ℕ → List ℕ) (list : List ℕ) (k n : ℕ) → pending refers (list ++ k ∷ []) n ≡ pending refers list n + times n (refers k)
pending_push refers [] k n = omega arith
pending_push refers (m ∷ ms) k n = let e = pending_push refers ms k n in omega (arith, e)
