-- Rows in printed order cover what they covered before.
use Rattle.std.proofs.Common.{◌≡◌, ℕ, zero, suc, ◌+◌, ◌-◌, ◌<◌, ◌≤◌, min, max, List, [], ◌∷◌, ◌++◌, map, Bool, true, false, ◌||◌, ◌&&◌, Option, Some, None, refl, ap, ap₂, sym, ◌∙◌, arith, nat_lt, nat_le, true≢false, ◌==◌, eqb-true, eq-eqb, ◌⊎◌, inl, inr, ◌≢◌}
use Rattle.std.proofs.lemmas.Bool.{and_parts, and_from, or_left, or_right, leb-true, ltb-true, cases_eq}
use Rattle.std.proofs.lemmas.Option.{cond_some}
use Rattle.std.proofs.lemmas.Bool.Decides.{nat_tests}
use Rattle.wg_rows.specs.Rows.{count_up, numbers, in_range, touch, list_eq, run_before, Sort, Spot, covers_spot, meet, joined, put_at, put, printed, any_row}

abbrev pub any : {X : Type 0} → (X → Bool) → List X → Bool
any test [] = false
any test (x ∷ xs) = test x || any test xs

pub range_union : (lo hi lo2 hi2 n : ℕ) → touch lo hi lo2 hi2 ≡ true → in_range (min lo lo2) (max hi hi2) n ≡ (in_range lo hi n || in_range lo2 hi2 n)
range_union lo hi lo2 hi2 n e = grind (arith, nat_tests)

pub any_append : {X : Type 0} (test : X → Bool) (xs ys : List X) → any test (xs ++ ys) ≡ (any test xs || any test ys)
any_append test [] ys = refl
any_append test (x ∷ xs) ys = ap (λ b. test x || b) (any_append test xs ys) ∙ by_head (test x)
  where
    by_head : (b : Bool) → (b || (any test xs || any test ys)) ≡ ((b || any test xs) || any test ys)
    by_head true = refl
    by_head false = refl

-- a number in a range is among its numbers
any_count : {X : Type 0} (test : X → Bool) (f : ℕ → X) (lo n x : ℕ) → lo ≤ x → x < lo + n → test (f x) ≡ true → any test (map f (count_up lo n)) ≡ true
any_count test f lo zero x l h e = absurd (omega arith)
any_count test f lo (suc n) x l h e = by_first (cases_eq lo x) (λ k. any_count test f (suc lo) n x k (omega arith) e)
  where
    by_first : (lo ≡ x) ⊎ (lo ≡ x → ⊥) → (suc lo ≤ x → any test (map f (count_up (suc lo) n)) ≡ true) → (test (f lo) || any test (map f (count_up (suc lo) n))) ≡ true
    by_first (inl same) rest = or_left (test (f lo)) (any test (map f (count_up (suc lo) n))) (ap (λ y. test (f y)) same ∙ e)
    by_first (inr other) rest = let ne : lo ≢ x = other in or_right (test (f lo)) (any test (map f (count_up (suc lo) n))) (rest (omega arith))

pub any_numbers : {X : Type 0} (test : X → Bool) (f : ℕ → X) (lo hi x : ℕ) → in_range lo hi x ≡ true → test (f x) ≡ true → any test (map f (numbers lo hi)) ≡ true
any_numbers test f lo hi x e t =
    let tests : (nat_le lo x ≡ true) × (nat_lt x hi ≡ true) = and_parts (nat_le lo x) (nat_lt x hi) e in
    let from_lo : lo ≤ x = leb-true lo x tests.0 in
    let below_hi : x < hi = ltb-true x hi tests.1 in
    any_count test f lo (hi - lo) x from_lo (omega arith) t

-- What a sort of runs has: a run widened over another of its line that it meets has that line and those ends.
abbrev pub Widens : {R : Type 0} → Sort R → Type 0
Widens {R} sort = (a b : R) → meet sort a b ≡ true → (sort.line (sort.widen a (min (sort.lo a) (sort.lo b)) (max (sort.hi a) (sort.hi b))) ≡ sort.line a) × (sort.lo (sort.widen a (min (sort.lo a) (sort.lo b)) (max (sort.hi a) (sort.hi b))) ≡ min (sort.lo a) (sort.lo b)) × (sort.hi (sort.widen a (min (sort.lo a) (sort.lo b)) (max (sort.hi a) (sort.hi b))) ≡ max (sort.hi a) (sort.hi b))

abbrev pub both_of : {R : Type 0} → Sort R → R → R → R
both_of sort a b = sort.widen a (min (sort.lo a) (sort.lo b)) (max (sort.hi a) (sort.hi b))

pub list_eq_true : (xs ys : List ℕ) → list_eq xs ys ≡ true → xs ≡ ys
list_eq_true [] [] e = refl
list_eq_true [] (y ∷ ys) e = absurd (true≢false (sym e))
list_eq_true (x ∷ xs) [] e = absurd (true≢false (sym e))
list_eq_true (x ∷ xs) (y ∷ ys) e = let tests : ((x == y) ≡ true) × (list_eq xs ys ≡ true) = and_parts (x == y) (list_eq xs ys) e in ap₂ ◌∷◌ (eqb-true x y tests.0) (list_eq_true xs ys tests.1)

pub list_eq_refl : (xs : List ℕ) → list_eq xs xs ≡ true
list_eq_refl [] = refl
list_eq_refl (x ∷ xs) = and_from (x == x) (list_eq xs xs) (eq-eqb x x refl) (list_eq_refl xs)

ranged : (k k2 : Bool) (lo hi lo2 hi2 n : ℕ) → k2 ≡ k → touch lo hi lo2 hi2 ≡ true → (k && in_range (min lo lo2) (max hi hi2) n) ≡ ((k && in_range lo hi n) || (k2 && in_range lo2 hi2 n))
ranged true k2 lo hi lo2 hi2 n e t = range_union lo hi lo2 hi2 n t ∙ ap (λ (b : Bool). in_range lo hi n || (b && in_range lo2 hi2 n)) (sym e)
ranged false k2 lo hi lo2 hi2 n e t = ap (λ (b : Bool). b && in_range lo2 hi2 n) (sym e)

-- A run of both covers what either covers.
pub unites : {R : Type 0} (sort : Sort R) → Widens sort → (a b : R) (spot : Spot) → meet sort a b ≡ true → covers_spot sort (both_of sort a b) spot ≡ (covers_spot sort a spot || covers_spot sort b spot)
unites sort widens a b spot e = go (widens a b e) (and_parts (list_eq (sort.line a) (sort.line b)) (touch (sort.lo a) (sort.hi a) (sort.lo b) (sort.hi b)) e)
  where
    go : (sort.line (both_of sort a b) ≡ sort.line a) × (sort.lo (both_of sort a b) ≡ min (sort.lo a) (sort.lo b)) × (sort.hi (both_of sort a b) ≡ max (sort.hi a) (sort.hi b)) → (list_eq (sort.line a) (sort.line b) ≡ true) × (touch (sort.lo a) (sort.hi a) (sort.lo b) (sort.hi b) ≡ true) → covers_spot sort (both_of sort a b) spot ≡ (covers_spot sort a spot || covers_spot sort b spot)
    go w h =
        ap₂ ◌&&◌ (ap (λ line. list_eq line spot.0) w.0) (ap₂ (λ lo hi. in_range lo hi spot.1) w.1 w.2)
        ∙ ranged (list_eq (sort.line a) spot.0) (list_eq (sort.line b) spot.0) (sort.lo a) (sort.hi a) (sort.lo b) (sort.hi b) spot.1 (ap (λ line. list_eq line spot.0) (sym (list_eq_true (sort.line a) (sort.line b) h.0))) h.1

-- What a put row adds.
pub joined_some : {R V : Type 0} (sort : Sort R) (same : V → V → Bool) (x r both : R × V) → joined sort same x r ≡ Some both → (same x.1 r.1 ≡ true) × (meet sort x.0 r.0 ≡ true) × (both.0 ≡ both_of sort x.0 r.0) × (both.1 ≡ r.1)
joined_some {R} {V} sort same x r both e =
    let joined_is : ((same x.1 r.1 && meet sort x.0 r.0) ≡ true) × (◌≡◌ {A = R × V} (both_of sort x.0 r.0, r.1) both) = cond_some (same x.1 r.1 && meet sort x.0 r.0) (both_of sort x.0 r.0, r.1) both e in
    let tests : (same x.1 r.1 ≡ true) × (meet sort x.0 r.0 ≡ true) = and_parts (same x.1 r.1) (meet sort x.0 r.0) joined_is.0 in
    (tests.0, tests.1, sym (ap (λ (p : R × V). p.0) joined_is.1), sym (ap (λ (p : R × V). p.1) joined_is.1))

-- equal values pass alike
abbrev pub Respects : {V : Type 0} → (V → V → Bool) → (V → Bool) → Type 0
Respects {V} same test = (u v : V) → same u v ≡ true → test u ≡ test v

pub put_any : {R V : Type 0} (sort : Sort R) (same : V → V → Bool) (spot : Spot) (test : V → Bool) → Widens sort → Respects same test → (r : R × V) (rows : List (R × V)) → any_row (λ run. covers_spot sort run spot) test (put sort same r rows) ≡ ((covers_spot sort r.0 spot && test r.1) || any_row (λ run. covers_spot sort run spot) test rows)
put_any sort same spot test widens respects r [] = refl
put_any {R} {V} sort same spot test widens respects r (x ∷ xs) = by_joined (joined sort same x r) refl (run_before sort r.0 x.0) (λ row. put_any sort same spot test widens respects row xs)
  where
    merged : (a b t y : Bool) → (((a || b) && t) || y) ≡ ((b && t) || ((a && t) || y))
    merged true true true y = refl
    merged true true false y = refl
    merged true false true y = refl
    merged true false false y = refl
    merged false true true y = refl
    merged false true false y = refl
    merged false false true y = refl
    merged false false false y = refl

    swapped : (a b y : Bool) → (a || (b || y)) ≡ (b || (a || y))
    swapped true true y = refl
    swapped true false y = refl
    swapped false true y = refl
    swapped false false y = refl

    of_both : (both : R × V) → (same x.1 r.1 ≡ true) × (meet sort x.0 r.0 ≡ true) × (both.0 ≡ both_of sort x.0 r.0) × (both.1 ≡ r.1) → ((covers_spot sort both.0 spot && test both.1) || any_row (λ run. covers_spot sort run spot) test xs) ≡ ((covers_spot sort r.0 spot && test r.1) || ((covers_spot sort x.0 spot && test x.1) || any_row (λ run. covers_spot sort run spot) test xs))
    of_both both h =
        ap₂ (λ (a t : Bool). (a && t) || any_row (λ run. covers_spot sort run spot) test xs) (ap (λ run. covers_spot sort run spot) h.2 ∙ unites sort widens x.0 r.0 spot h.1) (ap test h.3)
        ∙ (merged (covers_spot sort x.0 spot) (covers_spot sort r.0 spot) (test r.1) (any_row (λ run. covers_spot sort run spot) test xs)
        ∙ ap (λ (t : Bool). (covers_spot sort r.0 spot && test r.1) || ((covers_spot sort x.0 spot && t) || any_row (λ run. covers_spot sort run spot) test xs)) (sym (respects x.1 r.1 h.0)))

    by_joined : (o : Option (R × V)) → joined sort same x r ≡ o → (b : Bool) → ((row : R × V) → any_row (λ run. covers_spot sort run spot) test (put sort same row xs) ≡ ((covers_spot sort row.0 spot && test row.1) || any_row (λ run. covers_spot sort run spot) test xs)) → any_row (λ run. covers_spot sort run spot) test (put_at (λ row. put sort same row xs) r x xs b o) ≡ ((covers_spot sort r.0 spot && test r.1) || ((covers_spot sort x.0 spot && test x.1) || any_row (λ run. covers_spot sort run spot) test xs))
    by_joined (Some both) e b later = later both ∙ of_both both (joined_some sort same x r both e)
    by_joined None e true later = refl
    by_joined None e false later = ap (λ y. (covers_spot sort x.0 spot && test x.1) || y) (later r) ∙ swapped (covers_spot sort x.0 spot && test x.1) (covers_spot sort r.0 spot && test r.1) (any_row (λ run. covers_spot sort run spot) test xs)

-- Printed rows cover and pass as the rows do.
pub printed_any : {R V : Type 0} (sort : Sort R) (same : V → V → Bool) (spot : Spot) (test : V → Bool) → Widens sort → Respects same test → (rows : List (R × V)) → any_row (λ run. covers_spot sort run spot) test (printed sort same rows) ≡ any_row (λ run. covers_spot sort run spot) test rows
printed_any sort same spot test widens respects [] = refl
printed_any sort same spot test widens respects (r ∷ rows) = put_any sort same spot test widens respects r (printed sort same rows) ∙ ap (λ y. (covers_spot sort r.0 spot && test r.1) || y) (printed_any sort same spot test widens respects rows)

-- each row has this value
abbrev pub Each_value : {R V : Type 0} → V → List (R × V) → Type 0
Each_value v [] = Unit {0}
Each_value v (row ∷ rows) = (row.1 ≡ v) × Each_value v rows

pub put_const : {R V : Type 0} (sort : Sort R) (same : V → V → Bool) (v : V) (r : R × V) (rows : List (R × V)) → r.1 ≡ v → Each_value v rows → Each_value v (put sort same r rows)
put_const sort same v r [] e h = (e, tt)
put_const {R} {V} sort same v r (x ∷ xs) e h = by_joined (joined sort same x r) refl (run_before sort r.0 x.0) (λ row k. put_const sort same v row xs k h.1)
  where
    by_joined : (o : Option (R × V)) → joined sort same x r ≡ o → (b : Bool) → ((row : R × V) → row.1 ≡ v → Each_value v (put sort same row xs)) → Each_value v (put_at (λ row. put sort same row xs) r x xs b o)
    by_joined (Some both) k b later = later both ((joined_some sort same x r both k).3 ∙ e)
    by_joined None k true later = (e, h)
    by_joined None k false later = (h.0, later r e)

pub printed_value : {R V : Type 0} (sort : Sort R) (same : V → V → Bool) (v : V) (rows : List (R × V)) → Each_value v rows → Each_value v (printed sort same rows)
printed_value sort same v [] h = tt
printed_value sort same v (r ∷ rows) h = put_const sort same v r (printed sort same rows) h.0 (printed_value sort same v rows h.1)
