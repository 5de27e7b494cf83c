-- Numbers that pass a test, least first, and lists that are made of them.
use Rattle.std.proofs.Common.{◌≡◌, ◌≢◌, ℕ, zero, suc, ◌+◌, ◌-◌, ◌<◌, ◌≤◌, List, [], ◌∷◌, ◌++◌, map, length, get_or, Bool, true, false, ◌==◌, nat_lt, Option, Some, None, option_map, option_to_list, inl, inr, refl, ap, ap₂, sym, subst, ◌∙◌, arith, add-one, append-nil, if◌then◌else◌}
use Rattle.std.specs.List.{flat_map}
use Rattle.std.specs.List.Sorted.{IsPermutation, IsNonDecreasing}
use Rattle.std.proofs.lemmas.Bool.{cases_lt, ne_eqb}
use Rattle.std.proofs.lemmas.Bool.Decides.{nat_tests}
use Rattle.std.proofs.lemmas.List.{append_assoc, length_push, get_or_append_left, get_or_push}
use Rattle.std.proofs.lemmas.List.Sorted.{IsNonDecreasingBy-short, IsNonDecreasingBy-push, IsNonDecreasingBy-drop, sum_by-IsPermutation}
use Rattle.std.specs.List.{sum_by}
use Rattle.std.proofs.lemmas.List.Sums.{sum_by-append}
use Rattle.wg_trace.specs.declared.steps.Sort.{Sort}
use Rattle.wg_orders.specs.Trace.{Free, free}
use Rattle.wg_counts.specs.Counts.{times}
use Rattle.wg_counts.proofs.Sums.{times_here}
use Rattle.wg_life.specs.declared.rows.Resource.{Resource}
use Rattle.wg_life.specs.declared.rows.Row.{Row}
use Rattle.wg_life.specs.Lives.{row_at, below}
use Rattle.wg_life.specs.Waits.{picked, with_number, sort_at}

-- what is released as an item, or none
pub released_item : (rows : List Row) (n : ℕ) (o : Option Resource) → (row_at rows n).resource ≡ o → map free (sort_at rows n) ≡ option_to_list (option_map (λ (resource : Resource). Free n resource.sort) o)
released_item rows n None e = ap (λ (o : Option Resource). map free (option_to_list (option_map (λ (sort : Sort). (n, sort)) (option_map (λ (resource : Resource). resource.sort) o)))) e
released_item rows n (Some resource) e = ap (λ (o : Option Resource). map free (option_to_list (option_map (λ (sort : Sort). (n, sort)) (option_map (λ (resource : Resource). resource.sort) o)))) e

-- Numbers picked by tests that agree below.
pub picked_same : (p q : ℕ → Bool) (m : ℕ) → ((n : ℕ) → n < m → p n ≡ q n) → picked p m ≡ picked q m
picked_same p q zero same = refl
picked_same p q (suc m) same = ap₂ ◌++◌ (picked_same p q m (λ n lt. same n (omega (arith, lt)))) (ap (λ b. if b then m ∷ [] else []) (same m (omega arith)))

-- one number more, which is not picked
pub picked_none : (p : ℕ → Bool) (m : ℕ) → p m ≡ false → picked p (m + 1) ≡ picked p m
picked_none p m fails = rw add-one (ap (λ b. picked p m ++ (if b then m ∷ [] else [])) fails ∙ append-nil (picked p m))

flat_map-append : {X A : Type 0} (f : X → List A) (xs ys : List X) → flat_map f (xs ++ ys) ≡ flat_map f xs ++ flat_map f ys
flat_map-append f [] ys = refl
flat_map-append f (x ∷ xs) ys = ap (λ zs. f x ++ zs) (flat_map-append f xs ys) ∙ sym (append_assoc (f x) (flat_map f xs) (flat_map f ys))

flat_one : {A : Type 0} (f : ℕ → List A) (b : Bool) (n : ℕ) → flat_map f (if b then n ∷ [] else []) ≡ (if b then f n else [])
flat_one f true n = append-nil (f n)
flat_one f false n = refl

-- what is listed of numbers that were picked
pub flat_picked : (f g : ℕ → List (ℕ × Sort)) (p : ℕ → Bool) (m : ℕ) → ((n : ℕ) → n < m → (if p n then f n else []) ≡ g n) → flat_map f (picked p m) ≡ below g m
flat_picked f g p zero same = refl
flat_picked f g p (suc m) same =
    flat_map-append f (picked p m) (if p m then m ∷ [] else [])
    ∙ ap₂ ◌++◌ (flat_picked f g p m (λ n lt. same n (omega (arith, lt)))) (flat_one f (p m) m ∙ same m (omega arith))

-- the same lists
pub below_same : (f g : ℕ → List (ℕ × Sort)) (m : ℕ) → ((n : ℕ) → n < m → f n ≡ g n) → below f m ≡ below g m
below_same f g zero same = refl
below_same f g (suc m) same = ap₂ ◌++◌ (below_same f g m (λ n lt. same n (omega (arith, lt)))) (same m (omega arith))

pub picked_nothing : (p : ℕ → Bool) (m : ℕ) → ((n : ℕ) → n < m → p n ≡ false) → picked p m ≡ []
picked_nothing p zero none = refl
picked_nothing p (suc m) none = ap₂ ◌++◌ (picked_nothing p m (λ n lt. none n (omega (arith, lt)))) (ap (λ b. if b then m ∷ [] else []) (none m (omega arith)))

under_one : (b : Bool) (m : ℕ) (ms : List ℕ) → ((i d : ℕ) → i < length ms → get_or ms i d < m) → (i d : ℕ) → i < length (ms ++ (if b then m ∷ [] else [])) → get_or (ms ++ (if b then m ∷ [] else [])) i d < suc m
under_one true m ms under i d lt = elim (cases_lt i (length ms)) [
  | inl less ↦ (let e = get_or_append_left ms (m ∷ []) d i less in let u = under i d less in omega (arith, e, u))
  | inr past ↦ (let l = length_push ms m in let e = get_or_push ms m d i (omega (arith, lt, past, l)) in omega (arith, e))
]
under_one false m ms under i d lt = let e = append-nil ms in let u = under i d (subst (λ xs. i < length xs) e lt) in subst (λ xs. get_or xs i d < suc m) (sym e) (omega (arith, u))

pub picked_under : (p : ℕ → Bool) (m i d : ℕ) → i < length (picked p m) → get_or (picked p m) i d < m
picked_under p zero i d lt = absurd (omega (arith, lt))
picked_under p (suc m) i d lt = under_one (p m) m (picked p m) (picked_under p m) i d lt

rises_one : (b : Bool) (m : ℕ) (ms : List ℕ) → ((i d : ℕ) → i < length ms → get_or ms i d < m) → IsNonDecreasing ms → IsNonDecreasing (ms ++ (if b then m ∷ [] else []))
rises_one true m ms under rises = IsNonDecreasingBy-push (λ x. x) ms m rises (λ d lt. let u = under (length ms - 1) d (omega (arith, lt)) in omega (arith, u))
rises_one false m ms under rises = subst IsNonDecreasing (sym (append-nil ms)) rises

pub picked_rises : (p : ℕ → Bool) (m : ℕ) → IsNonDecreasing (picked p m)
picked_rises p zero = IsNonDecreasingBy-short (λ x. x) [] (omega arith)
picked_rises p (suc m) = rises_one (p m) m (picked p m) (picked_under p m) (picked_rises p m)

-- a number in its place among those picked

if_true : {A : Type 0} (b : Bool) (x y : A) → b ≡ true → (if b then x else y) ≡ x
if_true true x y e = refl
if_true false x y e = absurd (cc)

if_false : {A : Type 0} (b : Bool) (x y : A) → b ≡ false → (if b then x else y) ≡ y
if_false true x y e = absurd (cc)
if_false false x y e = refl

-- before a number above
with_number_left : (n m : ℕ) (ms : List ℕ) → n < m → with_number n (ms ++ m ∷ []) ≡ with_number n ms ++ m ∷ []
with_number_left n m [] lt = if_true (nat_lt n m) (n ∷ m ∷ []) (m ∷ n ∷ []) (grind (arith, nat_tests, lt))
with_number_left n m (k ∷ ms) lt = step (nat_lt n k) (with_number_left n m ms lt)
  where
    step : (b : Bool) → with_number n (ms ++ m ∷ []) ≡ with_number n ms ++ m ∷ [] → (if b then n ∷ k ∷ (ms ++ m ∷ []) else k ∷ with_number n (ms ++ m ∷ [])) ≡ (if b then n ∷ k ∷ ms else k ∷ with_number n ms) ++ m ∷ []
    step true e = refl
    step false e = ap (λ xs. k ∷ xs) e

-- after a number below
with_number_over : (n m : ℕ) (ms : List ℕ) → m < n → with_number n ms ≡ ms ++ n ∷ [] → with_number n (ms ++ m ∷ []) ≡ (ms ++ m ∷ []) ++ n ∷ []
with_number_over n m [] lt e = if_false (nat_lt n m) (n ∷ m ∷ []) (m ∷ n ∷ []) (grind (arith, nat_tests, lt))
with_number_over n m (k ∷ ms) lt e = step (nat_lt n k) refl e (with_number_over n m ms lt)
  where
    step : (b : Bool) → nat_lt n k ≡ b → (if b then n ∷ k ∷ ms else k ∷ with_number n ms) ≡ k ∷ (ms ++ n ∷ []) → (with_number n ms ≡ ms ++ n ∷ [] → with_number n (ms ++ m ∷ []) ≡ (ms ++ m ∷ []) ++ n ∷ []) → (if b then n ∷ k ∷ (ms ++ m ∷ []) else k ∷ with_number n (ms ++ m ∷ [])) ≡ k ∷ ((ms ++ m ∷ []) ++ n ∷ [])
    step true is same rest = absurd (let first : n ≡ k = cc in let above : n < k = grind (arith, nat_tests, is) in omega (arith, first, above))
    step false is same rest = ap (λ xs. k ∷ xs) (rest (cc))

with_number_end : (p : ℕ → Bool) (m n : ℕ) → m ≤ n → with_number n (picked p m) ≡ picked p m ++ n ∷ []
with_number_end p zero n le = refl
with_number_end p (suc m) n le = by_test (p m) (with_number_end p m n (omega (arith, le)))
  where
    by_test : (b : Bool) → with_number n (picked p m) ≡ picked p m ++ n ∷ [] → with_number n (picked p m ++ (if b then m ∷ [] else [])) ≡ (picked p m ++ (if b then m ∷ [] else [])) ++ n ∷ []
    by_test true e = with_number_over n m (picked p m) (omega (arith, le)) e
    by_test false e = ap (with_number n) (append-nil (picked p m)) ∙ (e ∙ ap (λ xs. xs ++ n ∷ []) (sym (append-nil (picked p m))))

-- Numbers picked by a test that passes one more number.
pub picked_with : (p q : ℕ → Bool) (m k : ℕ) → k < m → p k ≡ false → q k ≡ true → ((n : ℕ) → n < m → n ≢ k → q n ≡ p n) → picked q m ≡ with_number k (picked p m)
picked_with p q zero k lt out within others = absurd (omega (arith, lt))
picked_with p q (suc m) k lt out within others = elim (cases_lt k m) [
  | inl less ↦ ap₂ ◌++◌ (picked_with p q m k less out within (λ n below other. others n (omega (arith, below)) other)) (ap (λ b. if b then m ∷ [] else []) (others m (omega arith) (λ e. absurd (omega (arith, e, less))))) ∙ by_test less (p m)
  | inr more ↦ (let e : m ≡ k = omega (arith, lt, more) in
      ap₂ ◌++◌ (picked_same q p m (λ n below. others n (omega (arith, below)) (λ same. absurd (omega (arith, same, e, below))))) (ap (λ b. if b then m ∷ [] else []) (ap q e ∙ within) ∙ ap (λ n. n ∷ []) e)
      ∙ (sym (with_number_end p m k (omega (arith, e))) ∙ ap (with_number k) (sym (append-nil (picked p m)) ∙ ap (λ b. picked p m ++ (if b then m ∷ [] else [])) (sym (ap p e ∙ out)))))
]
  where
    by_test : k < m → (b : Bool) → with_number k (picked p m) ++ (if b then m ∷ [] else []) ≡ with_number k (picked p m ++ (if b then m ∷ [] else []))
    by_test less true = sym (with_number_left k m (picked p m) less)
    by_test less false = append-nil (with_number k (picked p m)) ∙ ap (with_number k) (sym (append-nil (picked p m)))

pub length_with : (n : ℕ) (ms : List ℕ) → length (with_number n ms) ≡ length ms + 1
length_with n [] = refl
length_with n (m ∷ ms) = by_test (nat_lt n m) (length_with n ms)
  where
    by_test : (b : Bool) → length (with_number n ms) ≡ length ms + 1 → length (if b then n ∷ m ∷ ms else m ∷ with_number n ms) ≡ length (m ∷ ms) + 1
    by_test true e = omega arith
    by_test false e = omega (arith, e)

-- Lists that rise and have each number as often are the same.

abbrev one_if : ℕ → ℕ → ℕ
one_if n m = if m == n then 1 else 0

times_sum : (n : ℕ) (ms : List ℕ) → times n ms ≡ sum_by (one_if n) ms
times_sum n [] = refl
times_sum n (m ∷ ms) = let e = times_sum n ms in let f = sum_by-append (one_if n) (m ∷ []) ms in omega (arith, e, f)

pub times_permuted : (n : ℕ) (xs ys : List ℕ) → IsPermutation xs ys → times n ys ≡ times n xs
times_permuted n xs ys same = times_sum n ys ∙ (sum_by-IsPermutation (one_if n) xs ys same ∙ sym (times_sum n xs))

pub times_with : (n k : ℕ) (ms : List ℕ) → times n (with_number k ms) ≡ (if k == n then 1 else 0) + times n ms
times_with n k [] = refl
times_with n k (m ∷ ms) = by_test (nat_lt k m) (times_with n k ms)
  where
    by_test : (b : Bool) → times n (with_number k ms) ≡ (if k == n then 1 else 0) + times n ms → times n (if b then k ∷ m ∷ ms else m ∷ with_number k ms) ≡ (if k == n then 1 else 0) + times n (m ∷ ms)
    by_test true e = refl
    by_test false e = omega (arith, e)

times_none : (n : ℕ) (ms : List ℕ) → ((i d : ℕ) → i < length ms → n < get_or ms i d) → times n ms ≡ 0
times_none n [] above = refl
times_none n (m ∷ ms) above =
    let first : n < m = above 0 0 (omega arith) in
    ap₂ ◌+◌ (ap (λ b. if b then 1 else 0) (ne_eqb m n (λ e. absurd (omega (arith, e, first))))) (times_none n ms (λ i d lt. above (suc i) d (omega (arith, lt))))

-- the first of one of two such lists is not below that of the other
not_above : (x y : ℕ) (xs ys : List ℕ) → IsNonDecreasing (y ∷ ys) → times x (x ∷ xs) ≡ times x (y ∷ ys) → y ≤ x
not_above x y xs ys rises same = elim (cases_lt x y) [
  | inl less ↦ absurd (let e = times_here xs x in let f = times_none x (y ∷ ys) (λ i d lt. let le : y ≤ get_or (y ∷ ys) i d = rises 0 i d (omega arith) lt in omega (arith, le, less)) in omega (arith, e, f, same))
  | inr more ↦ more
]

pub rising_same : (xs ys : List ℕ) → IsNonDecreasing xs → IsNonDecreasing ys → ((n : ℕ) → times n xs ≡ times n ys) → xs ≡ ys
rising_same [] [] left right same = refl
rising_same [] (y ∷ ys) left right same = absurd (let e = times_here ys y in let f = same y in omega (arith, e, f))
rising_same (x ∷ xs) [] left right same = absurd (let e = times_here xs x in let f = same x in omega (arith, e, f))
rising_same (x ∷ xs) (y ∷ ys) left right same =
    let low = not_above x y xs ys right (same x) in
    let high = not_above y x ys xs left (sym (same y)) in
    let first : x ≡ y = omega (arith, low, high) in
    ap₂ ◌∷◌ first (rising_same xs ys (IsNonDecreasingBy-drop (λ n. n) 1 (x ∷ xs) left) (IsNonDecreasingBy-drop (λ n. n) 1 (y ∷ ys) right)
    (λ n. let e = same n in let f = ap (one_if n) first in omega (arith, e, f)))
