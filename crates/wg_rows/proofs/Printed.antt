-- Rows that are in printed order, apart from one another, and cover the same with the same values, are the same rows.
use Rattle.std.proofs.Common.{◌≡◌, ℕ, ◌<◌, ◌≤◌, min, max, List, [], ◌∷◌, Bool, true, false, ◌||◌, ◌&&◌, ◌==◌, Option, Some, None, refl, ap, ap₂, sym, ◌∙◌, ◌⊎◌, inl, inr, arith, if◌then◌else◌, true≢false, nat_le, nat_lt, eqb-true, eq-eqb, subst}
use Rattle.std.proofs.lemmas.Bool.{and_parts, and_from, or_left, or_right, or_cases, cases_order, cases_lt, le-leb, lt-ltb, leb-true, ltb-true, ltb-false, or_parts, and_cases, false_from_ne_true}
use Rattle.wg_rows.specs.Rows.{in_range, touch, list_eq, list_before, Sort, Spot, covers_spot, meet, run_before, joined, put_at, put, printed, EachRow, After, Apart, has_value, Alike, Fits, AllFit}
use Rattle.wg_rows.proofs.Put.{Widens, both_of, Respects, list_eq_true, list_eq_refl, unites, joined_some, printed_any}

-- Lines are in a total order.
pub before_not_self : (xs : List ℕ) → list_before xs xs ≡ true → ⊥
before_not_self [] e = true≢false (sym e)
before_not_self (x ∷ xs) e = by_case (or_cases (nat_lt x x) ((x == x) && list_before xs xs) e) (before_not_self xs)
  where
    by_case : (nat_lt x x ≡ true) ⊎ (((x == x) && list_before xs xs) ≡ true) → (list_before xs xs ≡ true → ⊥) → ⊥
    by_case (inl l) rest = let less_than_self : x < x = ltb-true x x l in absurd (omega arith)
    by_case (inr h) rest = rest (and_parts (x == x) (list_before xs xs) h).1

pub before_trans : (xs ys zs : List ℕ) → list_before xs ys ≡ true → list_before ys zs ≡ true → list_before xs zs ≡ true
before_trans xs ys [] e h = absurd (true≢false (sym h))
before_trans [] ys (z ∷ zs) e h = refl
before_trans (x ∷ xs) [] (z ∷ zs) e h = absurd (true≢false (sym e))
before_trans (x ∷ xs) (y ∷ ys) (z ∷ zs) e h = by_case (or_cases (nat_lt x y) ((x == y) && list_before xs ys) e) (or_cases (nat_lt y z) ((y == z) && list_before ys zs) h) (before_trans xs ys zs)
  where
    less : x < z → (nat_lt x z || ((x == z) && list_before xs zs)) ≡ true
    less l = or_left (nat_lt x z) ((x == z) && list_before xs zs) (lt-ltb x z l)

    by_case : (nat_lt x y ≡ true) ⊎ (((x == y) && list_before xs ys) ≡ true) → (nat_lt y z ≡ true) ⊎ (((y == z) && list_before ys zs) ≡ true) → (list_before xs ys ≡ true → list_before ys zs ≡ true → list_before xs zs ≡ true) → (nat_lt x z || ((x == z) && list_before xs zs)) ≡ true
    by_case (inl a) (inl b) rest = let x_below_y : x < y = ltb-true x y a in let y_below_z : y < z = ltb-true y z b in less (omega arith)
    by_case (inl a) (inr b) rest = let x_below_y : x < y = ltb-true x y a in let y_is_z : y ≡ z = eqb-true y z (and_parts (y == z) (list_before ys zs) b).0 in less (omega arith)
    by_case (inr a) (inl b) rest = let x_is_y : x ≡ y = eqb-true x y (and_parts (x == y) (list_before xs ys) a).0 in let y_below_z : y < z = ltb-true y z b in less (omega arith)
    by_case (inr a) (inr b) rest =
        let xy_tests : ((x == y) ≡ true) × (list_before xs ys ≡ true) = and_parts (x == y) (list_before xs ys) a in
        let yz_tests : ((y == z) ≡ true) × (list_before ys zs ≡ true) = and_parts (y == z) (list_before ys zs) b in
        let x_is_y : x ≡ y = eqb-true x y xy_tests.0 in
        let y_is_z : y ≡ z = eqb-true y z yz_tests.0 in
        or_right (nat_lt x z) ((x == z) && list_before xs zs) (and_from (x == z) (list_before xs zs) (eq-eqb x z (x_is_y ∙ y_is_z)) (rest xy_tests.1 yz_tests.1))

pub data Compared (xs ys : List ℕ) : Type 0 where
  Less_than : list_before xs ys ≡ true → Compared xs ys
  Same_line : xs ≡ ys → Compared xs ys
  More_than : list_before ys xs ≡ true → Compared xs ys

pub compare_lines : (xs ys : List ℕ) → Compared xs ys
compare_lines [] [] = Same_line refl
compare_lines [] (y ∷ ys) = Less_than refl
compare_lines (x ∷ xs) [] = More_than refl
compare_lines (x ∷ xs) (y ∷ ys) = by_case (cases_order x y) (compare_lines xs ys)
  where
    by_case : (x ≡ y) ⊎ ((x < y) ⊎ (y < x)) → Compared xs ys → Compared (x ∷ xs) (y ∷ ys)
    by_case (inr (inl l)) _ = Less_than (or_left (nat_lt x y) ((x == y) && list_before xs ys) (lt-ltb x y l))
    by_case (inr (inr l)) _ = More_than (or_left (nat_lt y x) ((y == x) && list_before ys xs) (lt-ltb y x l))
    by_case (inl same) (Less_than h) = Less_than (or_right (nat_lt x y) ((x == y) && list_before xs ys) (and_from (x == y) (list_before xs ys) (eq-eqb x y same) h))
    by_case (inl same) (Same_line h) = Same_line (ap₂ ◌∷◌ same h)
    by_case (inl same) (More_than h) = More_than (or_right (nat_lt y x) ((y == x) && list_before ys xs) (and_from (y == x) (list_before ys xs) (eq-eqb y x (sym same)) h))

-- What runs and values have: a run is told by its line and ends, and the test of values tells.
pub record Tells {R V : Type 0} (sort : Sort R) (same : V → V → Bool) : Type 0 where
  pub widens : Widens sort
  pub run : (a b : R) → sort.line a ≡ sort.line b → sort.lo a ≡ sort.lo b → sort.hi a ≡ sort.hi b → a ≡ b
  pub equal : (u v : V) → same u v ≡ true → u ≡ v
  pub itself : (v : V) → same v v ≡ true

abbrev Here : {R V : Type 0} → Sort R → R × V → Spot → V → Type 0
Here sort x spot v = (sort.line x.0 ≡ spot.0) × (sort.lo x.0 ≤ spot.1) × (spot.1 < sort.hi x.0) × (v ≡ x.1)

abbrev Later : {R V : Type 0} → Sort R → R × V → Spot → V → Type 0
Later sort x spot v = (list_before (sort.line x.0) spot.0 ≡ true) ⊎ ((sort.line x.0 ≡ spot.0) × (sort.hi x.0 ≤ spot.1) × (sort.hi x.0 ≡ spot.1 → x.1 ≡ v → ⊥))

here_from : {R V : Type 0} (sort : Sort R) (same : V → V → Bool) → Tells sort same → (x : R × V) (spot : Spot) (v : V) → (covers_spot sort x.0 spot && same v x.1) ≡ true → Here sort x spot v
here_from sort same tells x spot v e =
    let tests : (covers_spot sort x.0 spot ≡ true) × (same v x.1 ≡ true) = and_parts (covers_spot sort x.0 spot) (same v x.1) e in
    let line_and_range : (list_eq (sort.line x.0) spot.0 ≡ true) × (in_range (sort.lo x.0) (sort.hi x.0) spot.1 ≡ true) = and_parts (list_eq (sort.line x.0) spot.0) (in_range (sort.lo x.0) (sort.hi x.0) spot.1) tests.0 in
    let ends : (nat_le (sort.lo x.0) spot.1 ≡ true) × (nat_lt spot.1 (sort.hi x.0) ≡ true) = and_parts (nat_le (sort.lo x.0) spot.1) (nat_lt spot.1 (sort.hi x.0)) line_and_range.1 in
    (list_eq_true (sort.line x.0) spot.0 line_and_range.0, leb-true (sort.lo x.0) spot.1 ends.0, ltb-true spot.1 (sort.hi x.0) ends.1, tells.equal v x.1 tests.1)

pub covers_from : {R : Type 0} (sort : Sort R) (a : R) (spot : Spot) → sort.line a ≡ spot.0 → sort.lo a ≤ spot.1 → spot.1 < sort.hi a → covers_spot sort a spot ≡ true
covers_from sort a spot e l h = and_from (list_eq (sort.line a) spot.0) (in_range (sort.lo a) (sort.hi a) spot.1) (ap (list_eq (sort.line a)) (sym e) ∙ list_eq_refl (sort.line a)) (and_from (nat_le (sort.lo a) spot.1) (nat_lt spot.1 (sort.hi a)) (le-leb (sort.lo a) spot.1 l) (lt-ltb spot.1 (sort.hi a) h))

here_covers : {R V : Type 0} (sort : Sort R) (same : V → V → Bool) → Tells sort same → (x : R × V) (spot : Spot) (v : V) → Here sort x spot v → (covers_spot sort x.0 spot && same v x.1) ≡ true
here_covers sort same tells x spot v h = and_from (covers_spot sort x.0 spot) (same v x.1) (covers_from sort x.0 spot h.0 h.1 h.2) (ap (same v) (sym h.3) ∙ tells.itself v)

covered_later : {R V : Type 0} (sort : Sort R) (same : V → V → Bool) → Tells sort same → (x : R × V) (xs : List (R × V)) (spot : Spot) (v : V) → EachRow (After sort x) xs → has_value sort same spot v xs ≡ true → Later sort x spot v
covered_later sort same tells x [] spot v h e = absurd (true≢false (sym e))
covered_later {R} {V} sort same tells x (y ∷ ys) spot v h e = by_case (or_cases (covers_spot sort y.0 spot && same v y.1) (has_value sort same spot v ys) e) (covered_later sort same tells x ys spot v h.1)
  where
    at_y : Here sort y spot v → After sort x y → Later sort x spot v
    at_y k (inl before) = inl (ap (list_before (sort.line x.0)) (sym k.0) ∙ before)
    at_y k (inr a) = by_gap a.1
      where
        by_gap : (sort.hi x.0 < sort.lo y.0) ⊎ ((sort.hi x.0 ≡ sort.lo y.0) × (x.1 ≡ y.1 → ⊥)) → Later sort x spot v
        by_gap (inl gap) = inr (a.0 ∙ k.0, omega (arith, k.1), λ m. absurd (omega (arith, k.1)))
        by_gap (inr next) = inr (a.0 ∙ k.0, omega (arith, k.1, next.0), λ m w. next.1 (w ∙ k.3))

    by_case : ((covers_spot sort y.0 spot && same v y.1) ≡ true) ⊎ (has_value sort same spot v ys ≡ true) → (has_value sort same spot v ys ≡ true → Later sort x spot v) → Later sort x spot v
    by_case (inl k) rest = at_y (here_from sort same tells y spot v k) h.0
    by_case (inr k) rest = rest k

not_later : {R V : Type 0} (sort : Sort R) (x : R × V) (spot : Spot) (v : V) → Here sort x spot v → Later sort x spot v → ⊥
not_later sort x spot v h (inl before) = before_not_self (sort.line x.0) (ap (list_before (sort.line x.0)) h.0 ∙ before)
not_later sort x spot v h (inr k) = omega (arith, h.2, k.1)

-- what rows with x at their head have at a spot
at_head : {R V : Type 0} (sort : Sort R) (same : V → V → Bool) → Tells sort same → (x : R × V) (xs : List (R × V)) (spot : Spot) (v : V) → EachRow (After sort x) xs → has_value sort same spot v (x ∷ xs) ≡ true → Here sort x spot v ⊎ Later sort x spot v
at_head sort same tells x xs spot v h e = by_case (or_cases (covers_spot sort x.0 spot && same v x.1) (has_value sort same spot v xs) e)
  where
    by_case : ((covers_spot sort x.0 spot && same v x.1) ≡ true) ⊎ (has_value sort same spot v xs ≡ true) → Here sort x spot v ⊎ Later sort x spot v
    by_case (inl k) = inl (here_from sort same tells x spot v k)
    by_case (inr k) = inr (covered_later sort same tells x xs spot v h k)

head_has : {R V : Type 0} (sort : Sort R) (same : V → V → Bool) → Tells sort same → (x : R × V) (xs : List (R × V)) (spot : Spot) (v : V) → Here sort x spot v → has_value sort same spot v (x ∷ xs) ≡ true
head_has sort same tells x xs spot v h = or_left (covers_spot sort x.0 spot && same v x.1) (has_value sort same spot v xs) (here_covers sort same tells x spot v h)

-- The first rows begin alike,
begin_alike : {R V : Type 0} (sort : Sort R) (same : V → V → Bool) → Tells sort same → (x y : R × V) (xs ys : List (R × V)) → Apart sort (x ∷ xs) → Apart sort (y ∷ ys) → Alike sort same (x ∷ xs) (y ∷ ys) → (sort.line x.0 ≡ sort.line y.0) × (sort.lo x.0 ≡ sort.lo y.0) × (x.1 ≡ y.1)
begin_alike {R} {V} sort same tells x y xs ys a b alike = by_case (at_head sort same tells y ys (sort.line x.0, sort.lo x.0) x.1 b.1 (sym (alike (sort.line x.0, sort.lo x.0) x.1) ∙ head_has sort same tells x xs (sort.line x.0, sort.lo x.0) x.1 (refl, omega arith, omega (arith, a.0), refl))) (at_head sort same tells x xs (sort.line y.0, sort.lo y.0) y.1 a.1 (alike (sort.line y.0, sort.lo y.0) y.1 ∙ head_has sort same tells y ys (sort.line y.0, sort.lo y.0) y.1 (refl, omega arith, omega (arith, b.0), refl)))
  where
    Goal : Type 0
    Goal = (sort.line x.0 ≡ sort.line y.0) × (sort.lo x.0 ≡ sort.lo y.0) × (x.1 ≡ y.1)

    by_case : Here sort y (sort.line x.0, sort.lo x.0) x.1 ⊎ Later sort y (sort.line x.0, sort.lo x.0) x.1 → Here sort x (sort.line y.0, sort.lo y.0) y.1 ⊎ Later sort x (sort.line y.0, sort.lo y.0) y.1 → Goal
    by_case (inl h) (inl k) = (sym h.0, omega (arith, h.1, k.1), h.3)
    by_case (inl h) (inr (inl k)) = absurd (before_not_self (sort.line y.0) (ap (λ line. list_before line (sort.line y.0)) h.0 ∙ k))
    by_case (inl h) (inr (inr k)) = absurd (omega (arith, h.1, k.1, a.0))
    by_case (inr (inl h)) (inl k) = absurd (before_not_self (sort.line x.0) (ap (λ line. list_before line (sort.line x.0)) k.0 ∙ h))
    by_case (inr (inr h)) (inl k) = absurd (omega (arith, k.1, h.1, b.0))
    by_case (inr (inl h)) (inr (inl k)) = absurd (before_not_self (sort.line x.0) (before_trans (sort.line x.0) (sort.line y.0) (sort.line x.0) k h))
    by_case (inr (inl h)) (inr (inr k)) = absurd (before_not_self (sort.line x.0) (ap (λ line. list_before line (sort.line x.0)) k.0 ∙ h))
    by_case (inr (inr h)) (inr (inl k)) = absurd (before_not_self (sort.line y.0) (ap (λ line. list_before line (sort.line y.0)) h.0 ∙ k))
    by_case (inr (inr h)) (inr (inr k)) = absurd (omega (arith, h.1, k.1, a.0, b.0))

-- and end no later than the other,
end_alike : {R V : Type 0} (sort : Sort R) (same : V → V → Bool) → Tells sort same → (x y : R × V) (xs ys : List (R × V)) → Apart sort (x ∷ xs) → Alike sort same (x ∷ xs) (y ∷ ys) → (sort.line x.0 ≡ sort.line y.0) × (sort.lo x.0 ≡ sort.lo y.0) × (x.1 ≡ y.1) → sort.hi y.0 ≤ sort.hi x.0
end_alike sort same tells x y xs ys a alike h = by_order (cases_lt (sort.hi x.0) (sort.hi y.0))
  where
    spot : Spot
    spot = (sort.line x.0, sort.hi x.0)

    at_end : Here sort x spot x.1 ⊎ Later sort x spot x.1 → ⊥
    at_end (inl k) = omega (arith, k.2)
    at_end (inr (inl k)) = before_not_self (sort.line x.0) k
    at_end (inr (inr k)) = k.2 refl refl

    by_order : (sort.hi x.0 < sort.hi y.0) ⊎ (sort.hi y.0 ≤ sort.hi x.0) → sort.hi y.0 ≤ sort.hi x.0
    by_order (inl l) = absurd (at_end (at_head sort same tells x xs spot x.1 a.1 (alike spot x.1 ∙ head_has sort same tells y ys spot x.1 (sym h.0, omega (arith, h.1, a.0), l, h.2))))
    by_order (inr l) = l

-- and what is behind them is alike.
rest_alike : {R V : Type 0} (sort : Sort R) (same : V → V → Bool) → Tells sort same → (x : R × V) (xs ys : List (R × V)) → EachRow (After sort x) xs → EachRow (After sort x) ys → Alike sort same (x ∷ xs) (x ∷ ys) → Alike sort same xs ys
rest_alike {R} {V} sort same tells x xs ys a b alike spot v = by_head (covers_spot sort x.0 spot && same v x.1) refl (alike spot v)
  where
    none : (zs : List (R × V)) → EachRow (After sort x) zs → Here sort x spot v → has_value sort same spot v zs ≡ false
    none zs c h = false_from_ne_true (has_value sort same spot v zs) (λ e. not_later sort x spot v h (covered_later sort same tells x zs spot v c e))

    by_head : (b : Bool) → (covers_spot sort x.0 spot && same v x.1) ≡ b → (b || has_value sort same spot v xs) ≡ (b || has_value sort same spot v ys) → has_value sort same spot v xs ≡ has_value sort same spot v ys
    by_head true e h = none xs a (here_from sort same tells x spot v e) ∙ sym (none ys b (here_from sort same tells x spot v e))
    by_head false e h = h

pub rows_unique : {R V : Type 0} (sort : Sort R) (same : V → V → Bool) → Tells sort same → (xs ys : List (R × V)) → Apart sort xs → Apart sort ys → Alike sort same xs ys → xs ≡ ys
rows_unique sort same tells [] [] a b alike = refl
rows_unique sort same tells [] (y ∷ ys) a b alike = absurd (true≢false (sym (head_has sort same tells y ys (sort.line y.0, sort.lo y.0) y.1 (refl, omega arith, omega (arith, b.0), refl)) ∙ sym (alike (sort.line y.0, sort.lo y.0) y.1)))
rows_unique sort same tells (x ∷ xs) [] a b alike = absurd (true≢false (sym (head_has sort same tells x xs (sort.line x.0, sort.lo x.0) x.1 (refl, omega arith, omega (arith, a.0), refl)) ∙ alike (sort.line x.0, sort.lo x.0) x.1))
rows_unique {R} {V} sort same tells (x ∷ xs) (y ∷ ys) a b alike = go (begin_alike sort same tells x y xs ys a b alike) (λ h. rows_unique sort same tells xs ys a.2 b.2 (rest_alike sort same tells x xs ys a.1 (subst (λ z. EachRow (After sort z) ys) (sym h) b.1) (λ spot v. alike spot v ∙ ap (λ z. has_value sort same spot v (z ∷ ys)) (sym h))))
  where
    go : (sort.line x.0 ≡ sort.line y.0) × (sort.lo x.0 ≡ sort.lo y.0) × (x.1 ≡ y.1) → (x ≡ y → xs ≡ ys) → x ∷ xs ≡ y ∷ ys
    go h rest =
        let up : sort.hi y.0 ≤ sort.hi x.0 = end_alike sort same tells x y xs ys a alike h in
        let down : sort.hi x.0 ≤ sort.hi y.0 = end_alike sort same tells y x ys xs b (λ spot v. sym (alike spot v)) (sym h.0, sym h.1, sym h.2) in
        let run : x.0 ≡ y.0 = tells.run x.0 y.0 h.0 h.1 (omega arith) in
        let same_row : x ≡ y = ap₂ (λ (r : R) (v : V). (r, v)) run h.2 in
        ap₂ ◌∷◌ same_row (rest same_row)

abbrev NotMet : {R V : Type 0} → Sort R → R × V → R × V → Type 0
NotMet sort a b = a.1 ≡ b.1 → sort.line a.0 ≡ sort.line b.0 → sort.lo a.0 ≤ sort.hi b.0 → sort.lo b.0 ≤ sort.hi a.0 → ⊥

not_met : {R V : Type 0} (sort : Sort R) (same : V → V → Bool) → Tells sort same → (x r : R × V) → joined sort same x r ≡ None → NotMet sort x r
not_met {R} {V} sort same tells x r e v line l h =
    let joins : (same x.1 r.1 && meet sort x.0 r.0) ≡ true = and_from (same x.1 r.1) (meet sort x.0 r.0) (ap (same x.1) (sym v) ∙ tells.itself x.1) (and_from (list_eq (sort.line x.0) (sort.line r.0)) (touch (sort.lo x.0) (sort.hi x.0) (sort.lo r.0) (sort.hi r.0)) (ap (list_eq (sort.line x.0)) (sym line) ∙ list_eq_refl (sort.line x.0)) (and_from (nat_le (sort.lo x.0) (sort.hi r.0)) (nat_le (sort.lo r.0) (sort.hi x.0)) (le-leb (sort.lo x.0) (sort.hi r.0) l) (le-leb (sort.lo r.0) (sort.hi x.0) h))) in
    let some_is_none : ◌≡◌ {A = Option (R × V)} (Some (both_of sort x.0 r.0, r.1)) None = sym (ap (λ b. if b then Some (both_of sort x.0 r.0, r.1) else None) joins) ∙ e in
    absurd (cc)

after_from : {R V : Type 0} (sort : Sort R) (a b : R × V) → sort.lo a.0 < sort.hi a.0 → sort.lo b.0 < sort.hi b.0 → Fits sort a b → NotMet sort a b → (list_before (sort.line a.0) (sort.line b.0) ≡ true) ⊎ ((sort.line a.0 ≡ sort.line b.0) × (sort.lo a.0 ≤ sort.lo b.0)) → After sort a b
after_from sort a b na nb fits not (inl before) = inl before
after_from sort a b na nb fits not (inr k) = by_order (cases_order (sort.hi a.0) (sort.lo b.0))
  where
    by_order : (sort.hi a.0 ≡ sort.lo b.0) ⊎ ((sort.hi a.0 < sort.lo b.0) ⊎ (sort.lo b.0 < sort.hi a.0)) → After sort a b
    by_order (inl same) = inr (k.0, inr (same, λ v. not v k.0 (omega (arith, k.1)) (omega arith)))
    by_order (inr (inl gap)) = inr (k.0, inl gap)
    by_order (inr (inr over)) = absurd (not (fits (sort.line b.0, sort.lo b.0) (covers_from sort a.0 (sort.line b.0, sort.lo b.0) k.0 k.1 over) (covers_from sort b.0 (sort.line b.0, sort.lo b.0) refl (omega arith) nb)) k.0 (omega (arith, k.1)) (omega arith))

pub after_trans : {R V : Type 0} (sort : Sort R) (a b c : R × V) → sort.lo b.0 < sort.hi b.0 → After sort a b → After sort b c → After sort a c
after_trans sort a b c n (inl h) (inl k) = inl (before_trans (sort.line a.0) (sort.line b.0) (sort.line c.0) h k)
after_trans sort a b c n (inl h) (inr k) = inl (ap (list_before (sort.line a.0)) (sym k.0) ∙ h)
after_trans sort a b c n (inr h) (inl k) = inl (ap (λ line. list_before line (sort.line c.0)) h.0 ∙ k)
after_trans sort a b c n (inr h) (inr k) = inr (h.0 ∙ k.0, inl (gap (end_of h.1) (end_of k.1)))
  where
    end_of : {x y : ℕ} {P : Type 0} → (x < y) ⊎ ((x ≡ y) × P) → x ≤ y
    end_of (inl l) = omega arith
    end_of (inr e) = omega (arith, e.0)

    gap : sort.hi a.0 ≤ sort.lo b.0 → sort.hi b.0 ≤ sort.lo c.0 → sort.hi a.0 < sort.lo c.0
    gap l m = omega arith

pub each_row_map : {A : Type 0} (P Q : A → Type 0) → ((x : A) → P x → Q x) → (xs : List A) → EachRow P xs → EachRow Q xs
each_row_map P Q f [] h = tt
each_row_map P Q f (x ∷ xs) h = (f x h.0, each_row_map P Q f xs h.1)

-- rows of which one is behind the other do not overlap
pub no_overlap : {R V : Type 0} (sort : Sort R) (a b : R × V) (spot : Spot) → After sort a b → covers_spot sort a.0 spot ≡ true → covers_spot sort b.0 spot ≡ true → ⊥
no_overlap {R} {V} sort a b spot after e h = by_after after (place a.0 e) (place b.0 h)
  where
    place : (run : R) → covers_spot sort run spot ≡ true → (sort.line run ≡ spot.0) × (sort.lo run ≤ spot.1) × (spot.1 < sort.hi run)
    place run e =
        let line_and_range : (list_eq (sort.line run) spot.0 ≡ true) × (in_range (sort.lo run) (sort.hi run) spot.1 ≡ true) = and_parts (list_eq (sort.line run) spot.0) (in_range (sort.lo run) (sort.hi run) spot.1) e in
        let ends : (nat_le (sort.lo run) spot.1 ≡ true) × (nat_lt spot.1 (sort.hi run) ≡ true) = and_parts (nat_le (sort.lo run) spot.1) (nat_lt spot.1 (sort.hi run)) line_and_range.1 in
        (list_eq_true (sort.line run) spot.0 line_and_range.0, leb-true (sort.lo run) spot.1 ends.0, ltb-true spot.1 (sort.hi run) ends.1)

    by_after : After sort a b → (sort.line a.0 ≡ spot.0) × (sort.lo a.0 ≤ spot.1) × (spot.1 < sort.hi a.0) → (sort.line b.0 ≡ spot.0) × (sort.lo b.0 ≤ spot.1) × (spot.1 < sort.hi b.0) → ⊥
    by_after (inl before) p q = before_not_self spot.0 (ap₂ list_before (sym p.0) (sym q.0) ∙ before)
    by_after (inr (line_gap)) p q = by_gap line_gap.1
      where
        by_gap : (sort.hi a.0 < sort.lo b.0) ⊎ ((sort.hi a.0 ≡ sort.lo b.0) × (a.1 ≡ b.1 → ⊥)) → ⊥
        by_gap (inl l) = omega (arith, p.2, q.1)
        by_gap (inr k) = omega (arith, p.2, q.1, k.0)

-- what is behind z is so when joined
after_both : {R V : Type 0} (sort : Sort R) (same : V → V → Bool) → Tells sort same → (z x r both : R × V) → (same x.1 r.1 ≡ true) × (meet sort x.0 r.0 ≡ true) × (both.0 ≡ both_of sort x.0 r.0) × (both.1 ≡ r.1) → After sort z x → After sort z r → After sort z both
after_both {R} {V} sort same tells z x r both h a b = go a b (tells.widens x.0 r.0 h.1)
  where
    lines : sort.line x.0 ≡ sort.line r.0
    lines = list_eq_true (sort.line x.0) (sort.line r.0) (and_parts (list_eq (sort.line x.0) (sort.line r.0)) (touch (sort.lo x.0) (sort.hi x.0) (sort.lo r.0) (sort.hi r.0)) h.1).0

    go : After sort z x → After sort z r → (sort.line (both_of sort x.0 r.0) ≡ sort.line x.0) × (sort.lo (both_of sort x.0 r.0) ≡ min (sort.lo x.0) (sort.lo r.0)) × (sort.hi (both_of sort x.0 r.0) ≡ max (sort.hi x.0) (sort.hi r.0)) → After sort z both
    go (inl before) b w = inl (ap (list_before (sort.line z.0)) (ap sort.line h.2 ∙ w.0) ∙ before)
    go (inr p) (inl before) w = absurd (before_not_self (sort.line z.0) (ap (list_before (sort.line z.0)) (p.0 ∙ lines) ∙ before))
    go (inr p) (inr q) w = inr (p.0 ∙ sym (ap sort.line h.2 ∙ w.0), by_gap p.1 q.1)
      where
        lo_is : sort.lo both.0 ≡ min (sort.lo x.0) (sort.lo r.0)
        lo_is = ap sort.lo h.2 ∙ w.1

        differs : (v : (x.1 ≡ r.1)) → (z.1 ≡ x.1 → ⊥) → z.1 ≡ both.1 → ⊥
        differs v n e = n (e ∙ (h.3 ∙ sym v))

        by_gap : (sort.hi z.0 < sort.lo x.0) ⊎ ((sort.hi z.0 ≡ sort.lo x.0) × (z.1 ≡ x.1 → ⊥)) → (sort.hi z.0 < sort.lo r.0) ⊎ ((sort.hi z.0 ≡ sort.lo r.0) × (z.1 ≡ r.1 → ⊥)) → (sort.hi z.0 < sort.lo both.0) ⊎ ((sort.hi z.0 ≡ sort.lo both.0) × (z.1 ≡ both.1 → ⊥))
        by_gap (inl l) (inl m) = inl (omega (arith, lo_is))
        by_gap (inl l) (inr k) = inr (omega (arith, k.0, lo_is), λ e. k.1 (e ∙ h.3))
        by_gap (inr k) (inl m) = inr (omega (arith, k.0, lo_is), differs (tells.equal x.1 r.1 h.0) k.1)
        by_gap (inr k) (inr m) = inr (omega (arith, k.0, m.0, lo_is), λ e. m.1 (e ∙ h.3))

put_after : {R V : Type 0} (sort : Sort R) (same : V → V → Bool) → Tells sort same → (z r : R × V) (rows : List (R × V)) → After sort z r → EachRow (After sort z) rows → EachRow (After sort z) (put sort same r rows)
put_after sort same tells z r [] a h = (a, tt)
put_after {R} {V} sort same tells z r (x ∷ xs) a h = by_joined (joined sort same x r) refl (run_before sort r.0 x.0) (λ row b. put_after sort same tells z row xs b h.1)
  where
    by_joined : (o : Option (R × V)) → joined sort same x r ≡ o → (b : Bool) → ((row : R × V) → After sort z row → EachRow (After sort z) (put sort same row xs)) → EachRow (After sort z) (put_at (λ row. put sort same row xs) r x xs b o)
    by_joined (Some both) e b later = later both (after_both sort same tells z x r both (joined_some sort same x r both e) h.0 a)
    by_joined None e true later = (a, h)
    by_joined None e false later = (h.0, later r a)

-- A row that fits, put among rows in printed form, leaves them so.
pub put_apart : {R V : Type 0} (sort : Sort R) (same : V → V → Bool) → Tells sort same → (r : R × V) (rows : List (R × V)) → sort.lo r.0 < sort.hi r.0 → Apart sort rows → EachRow (Fits sort r) rows → Apart sort (put sort same r rows)
put_apart sort same tells r [] n a f = (n, tt, tt)
put_apart {R} {V} sort same tells r (x ∷ xs) n a f = by_joined (joined sort same x r) refl (run_before sort r.0 x.0) refl (λ row m g. put_apart sort same tells row xs m a.2 g)
  where
    Rest : Type 0
    Rest = (row : R × V) → sort.lo row.0 < sort.hi row.0 → EachRow (Fits sort row) xs → Apart sort (put sort same row xs)

    fits_both : (both : R × V) → (same x.1 r.1 ≡ true) × (meet sort x.0 r.0 ≡ true) × (both.0 ≡ both_of sort x.0 r.0) × (both.1 ≡ r.1) → (ys : List (R × V)) → EachRow (After sort x) ys → EachRow (Fits sort r) ys → EachRow (Fits sort both) ys
    fits_both both h [] b g = tt
    fits_both both h (y ∷ ys) b g = (λ spot e k. by_side spot (or_cases (covers_spot sort x.0 spot) (covers_spot sort r.0 spot) (sym (ap (λ run. covers_spot sort run spot) h.2 ∙ unites sort tells.widens x.0 r.0 spot h.1) ∙ e)) k, fits_both both h ys b.1 g.1)
      where
        by_side : (spot : Spot) → (covers_spot sort x.0 spot ≡ true) ⊎ (covers_spot sort r.0 spot ≡ true) → covers_spot sort y.0 spot ≡ true → both.1 ≡ y.1
        by_side spot (inl e) k = absurd (no_overlap sort x y spot b.0 e k)
        by_side spot (inr e) k = h.3 ∙ g.0 spot e k

    not_empty : (both : R × V) → (same x.1 r.1 ≡ true) × (meet sort x.0 r.0 ≡ true) × (both.0 ≡ both_of sort x.0 r.0) × (both.1 ≡ r.1) → sort.lo both.0 < sort.hi both.0
    not_empty both h =
        let widened : (sort.line (both_of sort x.0 r.0) ≡ sort.line x.0) × (sort.lo (both_of sort x.0 r.0) ≡ min (sort.lo x.0) (sort.lo r.0)) × (sort.hi (both_of sort x.0 r.0) ≡ max (sort.hi x.0) (sort.hi r.0)) = tells.widens x.0 r.0 h.1 in
        let lo_is : sort.lo both.0 ≡ min (sort.lo x.0) (sort.lo r.0) = ap sort.lo h.2 ∙ widened.1 in
        let hi_is : sort.hi both.0 ≡ max (sort.hi x.0) (sort.hi r.0) = ap sort.hi h.2 ∙ widened.2 in
        omega arith

    after_r : joined sort same x r ≡ None → run_before sort r.0 x.0 ≡ true → After sort r x
    after_r e b = after_from sort r x n a.0 f.0 (λ v line l h. not_met sort same tells x r e (sym v) (sym line) h l) (side (or_cases (list_before (sort.line r.0) (sort.line x.0)) (list_eq (sort.line r.0) (sort.line x.0) && nat_lt (sort.lo r.0) (sort.lo x.0)) b))
      where
        side : (list_before (sort.line r.0) (sort.line x.0) ≡ true) ⊎ ((list_eq (sort.line r.0) (sort.line x.0) && nat_lt (sort.lo r.0) (sort.lo x.0)) ≡ true) → (list_before (sort.line r.0) (sort.line x.0) ≡ true) ⊎ ((sort.line r.0 ≡ sort.line x.0) × (sort.lo r.0 ≤ sort.lo x.0))
        side (inl before) = inl before
        side (inr k) =
            let tests : (list_eq (sort.line r.0) (sort.line x.0) ≡ true) × (nat_lt (sort.lo r.0) (sort.lo x.0) ≡ true) = and_parts (list_eq (sort.line r.0) (sort.line x.0)) (nat_lt (sort.lo r.0) (sort.lo x.0)) k in
            let r_first : sort.lo r.0 < sort.lo x.0 = ltb-true (sort.lo r.0) (sort.lo x.0) tests.1 in
            inr (list_eq_true (sort.line r.0) (sort.line x.0) tests.0, omega arith)

    after_x : joined sort same x r ≡ None → run_before sort r.0 x.0 ≡ false → After sort x r
    after_x e b = after_from sort x r a.0 n (λ spot k l. sym (f.0 spot l k)) (not_met sort same tells x r e) (side (compare_lines (sort.line x.0) (sort.line r.0)))
      where
        side : Compared (sort.line x.0) (sort.line r.0) → (list_before (sort.line x.0) (sort.line r.0) ≡ true) ⊎ ((sort.line x.0 ≡ sort.line r.0) × (sort.lo x.0 ≤ sort.lo r.0))
        side (Less_than h) = inl h
        side (More_than h) = absurd (true≢false (sym h ∙ (or_parts (list_before (sort.line r.0) (sort.line x.0)) (list_eq (sort.line r.0) (sort.line x.0) && nat_lt (sort.lo r.0) (sort.lo x.0)) b).0))
        side (Same_line h) = inr (h, by_and (and_cases (list_eq (sort.line r.0) (sort.line x.0)) (nat_lt (sort.lo r.0) (sort.lo x.0)) (or_parts (list_before (sort.line r.0) (sort.line x.0)) (list_eq (sort.line r.0) (sort.line x.0) && nat_lt (sort.lo r.0) (sort.lo x.0)) b).1))
          where
            by_and : (list_eq (sort.line r.0) (sort.line x.0) ≡ false) ⊎ (nat_lt (sort.lo r.0) (sort.lo x.0) ≡ false) → sort.lo x.0 ≤ sort.lo r.0
            by_and (inl k) = absurd (true≢false (sym (ap (list_eq (sort.line r.0)) h ∙ list_eq_refl (sort.line r.0)) ∙ k))
            by_and (inr k) = ltb-false (sort.lo r.0) (sort.lo x.0) k

    by_joined : (o : Option (R × V)) → joined sort same x r ≡ o → (b : Bool) → run_before sort r.0 x.0 ≡ b → Rest → Apart sort (put_at (λ row. put sort same row xs) r x xs b o)
    by_joined (Some both) e b k rest = let joined_is : (same x.1 r.1 ≡ true) × (meet sort x.0 r.0 ≡ true) × (both.0 ≡ both_of sort x.0 r.0) × (both.1 ≡ r.1) = joined_some sort same x r both e in rest both (not_empty both joined_is) (fits_both both joined_is xs a.1 f.1)
    by_joined None e true k rest = (n, (after_r e k, each_row_map (After sort x) (After sort r) (λ y c. after_trans sort r x y a.0 (after_r e k) c) xs a.1), a)
    by_joined None e false k rest = (a.0, put_after sort same tells x r xs (after_x e k) a.1, rest r n f.1)

-- A row fits printed rows where it fits the rows.
fits_all : {R V : Type 0} (sort : Sort R) (same : V → V → Bool) → Tells sort same → (r : R × V) (rows : List (R × V)) (spot : Spot) (v : V) → EachRow (Fits sort r) rows → covers_spot sort r.0 spot ≡ true → has_value sort same spot v rows ≡ true → r.1 ≡ v
fits_all sort same tells r [] spot v f c e = absurd (true≢false (sym e))
fits_all sort same tells r (x ∷ xs) spot v f c e = by_case (or_cases (covers_spot sort x.0 spot && same v x.1) (has_value sort same spot v xs) e) (fits_all sort same tells r xs spot v f.1 c)
  where
    by_case : ((covers_spot sort x.0 spot && same v x.1) ≡ true) ⊎ (has_value sort same spot v xs ≡ true) → (has_value sort same spot v xs ≡ true → r.1 ≡ v) → r.1 ≡ v
    by_case (inl k) rest = let tests : (covers_spot sort x.0 spot ≡ true) × (same v x.1 ≡ true) = and_parts (covers_spot sort x.0 spot) (same v x.1) k in f.0 spot c tests.0 ∙ sym (tells.equal v x.1 tests.1)
    by_case (inr k) rest = rest k

fits_from : {R V : Type 0} (sort : Sort R) (same : V → V → Bool) → Tells sort same → (r : R × V) (ys : List (R × V)) → ((spot : Spot) (v : V) → covers_spot sort r.0 spot ≡ true → has_value sort same spot v ys ≡ true → r.1 ≡ v) → EachRow (Fits sort r) ys
fits_from sort same tells r [] h = tt
fits_from sort same tells r (y ∷ ys) h = (λ spot c e. h spot y.1 c (or_left (covers_spot sort y.0 spot && same y.1 y.1) (has_value sort same spot y.1 ys) (and_from (covers_spot sort y.0 spot) (same y.1 y.1) e (tells.itself y.1))), fits_from sort same tells r ys (λ spot v c e. h spot v c (or_right (covers_spot sort y.0 spot && same v y.1) (has_value sort same spot v ys) e)))

pub respects : {R V : Type 0} (sort : Sort R) (same : V → V → Bool) → Tells sort same → (w : V) → Respects same (same w)
respects sort same tells w u v e = ap (same w) (tells.equal u v e)

-- Rows that are not empty and of which two at one spot have one value are printed apart,
pub printed_apart : {R V : Type 0} (sort : Sort R) (same : V → V → Bool) → Tells sort same → (rows : List (R × V)) → AllFit sort rows → Apart sort (printed sort same rows)
printed_apart sort same tells [] h = tt
printed_apart sort same tells (r ∷ rows) h = put_apart sort same tells r (printed sort same rows) h.0 (printed_apart sort same tells rows h.2) (fits_from sort same tells r (printed sort same rows) (λ spot v c e. fits_all sort same tells r rows spot v h.1 c (sym (printed_any sort same spot (same v) tells.widens (respects sort same tells v) rows) ∙ e)))

-- and rows that are apart and have the same values everywhere are the printed ones.
pub printed_unique : {R V : Type 0} (sort : Sort R) (same : V → V → Bool) → Tells sort same → (found rows : List (R × V)) → AllFit sort rows → Apart sort found → Alike sort same found rows → found ≡ printed sort same rows
printed_unique sort same tells found rows fit apart alike = rows_unique sort same tells found (printed sort same rows) apart (printed_apart sort same tells rows fit) (λ spot v. alike spot v ∙ sym (printed_any sort same spot (same v) tells.widens (respects sort same tells v) rows))
