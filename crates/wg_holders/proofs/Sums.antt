-- Sums over numbers, and how often a list has a number.
use Rattle.std.proofs.Common.{◌≡◌, ◌≢◌, ℕ, zero, suc, ◌+◌, ◌<◌, ◌≤◌, Bool, true, false, ◌||◌, ◌==◌, nat_lt, List, [], ◌∷◌, length, take, get_or, inl, inr, refl, sym, ap, ap₂, ◌∙◌, subst, arith, true≢false, if◌then◌else◌}
use Rattle.std.proofs.lemmas.Bool.{cases_eq, eq-eqb, lt-ltb}
use Rattle.std.proofs.lemmas.List.{take_more}
use Rattle.wg_model.specs.Holding.{is_among, any_below}
use Rattle.wg_counts.specs.Counts.{times}
pub use Rattle.wg_counts.proofs.Sums.{one_if, at_same, at_other}
use Rattle.wg_counts.proofs.Sums.{times_append}
use Rattle.wg_holders.specs.Tokens.{sum_below}

-- how often a list has a number

pub times_take_more : (n : ℕ) (xs : List ℕ) (i d : ℕ) → i < length xs → times n (take (i + 1) xs) ≡ times n (take i xs) + (if get_or xs i d == n then 1 else 0)
times_take_more n xs i d lt =
    let e = ap (times n) (take_more xs i d lt) in
    let f = times_append n (take i xs) (get_or xs i d ∷ []) in
    omega (arith, e, f)

-- a list has a number where it is among it
pub times_among : (n : ℕ) (xs : List ℕ) → nat_lt 0 (times n xs) ≡ is_among xs n
times_among n [] = refl
times_among n (x ∷ xs) = by_test (x == n) (times_among n xs)
  where
    by_test : (b : Bool) → nat_lt 0 (times n xs) ≡ is_among xs n → nat_lt 0 ((if b then 1 else 0) + times n xs) ≡ (b || is_among xs n)
    by_test true e = lt-ltb 0 (1 + times n xs) (omega arith)
    by_test false e = ap (nat_lt 0) (let z : 0 + times n xs ≡ times n xs = omega arith in z) ∙ e

pub among_at : (xs : List ℕ) (i d : ℕ) → i < length xs → is_among xs (get_or xs i d) ≡ true
among_at [] i d lt = absurd (omega (arith, lt))
among_at (x ∷ xs) zero d lt = ap (λ b. b || is_among xs x) (eq-eqb x x refl)
among_at (x ∷ xs) (suc i) d lt = or_right (x == get_or xs i d) (is_among xs (get_or xs i d)) (among_at xs i d (omega (arith, lt)))
  where
    or_right : (a b : Bool) → b ≡ true → (a || b) ≡ true
    or_right true b e = refl
    or_right false b e = e

-- sums

pub sum_same : (f g : ℕ → ℕ) (m : ℕ) → ((b : ℕ) → b < m → f b ≡ g b) → sum_below f m ≡ sum_below g m
sum_same f g zero same = refl
sum_same f g (suc m) same = ap₂ ◌+◌ (sum_same f g m (λ b lt. same b (omega (arith, lt)))) (same m (omega arith))

-- all but one are the same
pub sum_but : (f g : ℕ → ℕ) (k m : ℕ) → k < m → ((b : ℕ) → b < m → b ≢ k → f b ≡ g b) → sum_below f m + g k ≡ sum_below g m + f k
sum_but f g k zero lt same = absurd (omega (arith, lt))
sum_but f g k (suc m) lt same = elim (cases_eq m k) [
  | inl here ↦ (
      let e = sum_same f g m (λ b below. same b (omega (arith, below)) (λ is. absurd (omega (arith, is, here, below)))) in
      let p = ap f here in
      let q = ap g here in
      omega (arith, e, p, q))
  | inr other ↦ (
      let e = sum_but f g k m (let no = other in omega (arith, lt, no)) (λ b below. same b (omega (arith, below))) in
      let p = same m (omega arith) other in
      omega (arith, e, p))
]

pub sum_at : (f : ℕ → ℕ) (k m : ℕ) → k < m → f k ≤ sum_below f m
sum_at f k zero lt = absurd (omega (arith, lt))
sum_at f k (suc m) lt = elim (cases_eq m k) [
  | inl here ↦ (let p = ap f here in omega (arith, p))
  | inr other ↦ (let e = sum_at f k m (omega (arith, lt, other)) in omega (arith, e))
]

-- a sum is more than nothing where one of its parts is
pub sum_any : (f : ℕ → ℕ) (test : ℕ → Bool) (m : ℕ) → ((b : ℕ) → nat_lt 0 (f b) ≡ test b) → nat_lt 0 (sum_below f m) ≡ any_below test m
sum_any f test zero same = refl
sum_any f test (suc m) same = by_parts (f m) (sum_below f m) (test m) (any_below test m) (same m) (sum_any f test m same)
  where
    by_parts : (x y : ℕ) (a b : Bool) → nat_lt 0 x ≡ a → nat_lt 0 y ≡ b → nat_lt 0 (y + x) ≡ (a || b)
    by_parts zero y true b e f = absurd (true≢false (sym e))
    by_parts zero y false b e f = ap (nat_lt 0) (let z : y + 0 ≡ y = omega arith in z) ∙ f
    by_parts (suc x) y false b e f = absurd (true≢false (sym (lt-ltb 0 (suc x) (omega arith)) ∙ e))
    by_parts (suc x) y true b e f = lt-ltb 0 (y + suc x) (omega arith)

-- whether some number below another passes a test

pub any_none : (test : ℕ → Bool) (k : ℕ) → ((e : ℕ) → e < k → test e ≡ false) → any_below test k ≡ false
any_none test zero none = refl
any_none test (suc k) none = ap₂ ◌||◌ (none k (omega arith)) (any_none test k (λ e lt. none e (omega (arith, lt))))

or_yes : (a b : Bool) → b ≡ true → (a || b) ≡ true
or_yes true b e = refl
or_yes false b e = e

pub any_some : (test : ℕ → Bool) (e k : ℕ) → e < k → test e ≡ true → any_below test k ≡ true
any_some test e zero lt is = absurd (omega (arith, lt))
any_some test e (suc k) lt is = elim (cases_eq k e) [
  | inl here ↦ ap (λ b. b || any_below test k) (ap test here ∙ is)
  | inr other ↦ or_yes (test k) (any_below test k) (any_some test e k (omega (arith, lt, other)) is)
]

pub any_further : (test : ℕ → Bool) (j k : ℕ) → j ≤ k → any_below test j ≡ true → any_below test k ≡ true
any_further test j zero le is = subst (λ m. any_below test m ≡ true) (let z : j ≡ 0 = omega (arith, le) in z) is
any_further test j (suc k) le is = elim (cases_eq j (suc k)) [
  | inl here ↦ subst (λ m. any_below test m ≡ true) here is
  | inr other ↦ or_yes (test k) (any_below test k) (any_further test j k (omega (arith, le, other)) is)
]

pub any_less : (p q : ℕ → Bool) (k : ℕ) → ((e : ℕ) → p e ≡ true → q e ≡ true) → any_below p k ≡ true → any_below q k ≡ true
any_less p q zero less is = is
any_less p q (suc k) less is = by_first (p k) (q k) (less k) is (any_less p q k less)
  where
    by_first : (a b : Bool) → (a ≡ true → b ≡ true) → (a || any_below p k) ≡ true → (any_below p k ≡ true → any_below q k ≡ true) → (b || any_below q k) ≡ true
    by_first a true one is rest = refl
    by_first true false one is rest = absurd (true≢false (sym (one refl)))
    by_first false false one is rest = rest is

pub any_same : (p q : ℕ → Bool) (k : ℕ) → ((e : ℕ) → e < k → p e ≡ q e) → any_below p k ≡ any_below q k
any_same p q zero same = refl
any_same p q (suc k) same = ap₂ ◌||◌ (same k (omega arith)) (any_same p q k (λ e lt. same e (omega (arith, lt))))
