-- The values at a spot of rows that are cut, put, chosen, or inside a run.
use Rattle.std.proofs.Common.{◌≡◌, ℕ, ◌<◌, ◌≤◌, min, max, List, [], ◌∷◌, ◌++◌, Bool, true, false, not, ◌||◌, ◌&&◌, Option, Some, None, refl, ap, ap₂, sym, ◌∙◌, ◌⊎◌, inl, inr, arith, if◌then◌else◌, true≢false, nat_le, nat_lt}
use Rattle.std.specs.Option.{option_or, option_and_then, option_map_or}
use Rattle.std.proofs.lemmas.Bool.{ltb-true}
use Rattle.std.proofs.lemmas.Bool.Decides.{nat_tests}
use Rattle.wg_rows.specs.Rows.{in_range, list_eq, Sort, Spot, covers_spot, put, printed, EachRow, After, Apart, has_value, Fits, AllFit}
use Rattle.wg_rows.specs.Cut.{value_at, left_of, right_of, cut_row, cut, inside_row, inside, gaps, choose_one, choose, put_all, overwrite}
use Rattle.wg_rows.proofs.Put.{list_eq_true, list_eq_refl, put_any}
use Rattle.wg_rows.proofs.Printed.{Tells, put_apart, no_overlap, respects, printed_unique}
use Rattle.wg_rows.proofs.Cut.{Clips, Piece, cut_apart}

pub value_append : {R V : Type 0} (sort : Sort R) (spot : Spot) (xs ys : List (R × V)) → value_at sort spot (xs ++ ys) ≡ option_or (value_at sort spot xs) (value_at sort spot ys)
value_append sort spot [] ys = refl
value_append sort spot (x ∷ xs) ys = by_cover (covers_spot sort x.0 spot) (value_append sort spot xs ys)
  where
    by_cover : (b : Bool) → value_at sort spot (xs ++ ys) ≡ option_or (value_at sort spot xs) (value_at sort spot ys) → (if b then Some x.1 else value_at sort spot (xs ++ ys)) ≡ option_or (if b then Some x.1 else value_at sort spot xs) (value_at sort spot ys)
    by_cover true h = refl
    by_cover false h = h

below_min : (a h l n : ℕ) → in_range a (min h l) n ≡ (in_range a h n && nat_lt n l)
below_min a h l n = grind (arith, nat_tests)

above_max : (a h l n : ℕ) → in_range (max a l) h n ≡ (in_range a h n && nat_le l n)
above_max a h l n = grind (arith, nat_tests)

not_below : (a h l n : ℕ) → nat_lt a l ≡ false → (in_range a h n && nat_lt n l) ≡ false
not_below a h l n e = grind (arith, nat_tests)

not_above : (a h l n : ℕ) → nat_lt l h ≡ false → (in_range a h n && nat_le l n) ≡ false
not_above a h l n e = grind (arith, nat_tests)

outside : (l h n : ℕ) → in_range l h n ≡ (not (nat_lt n l) && not (nat_le h n))
outside l h n = grind (arith, nat_tests)

-- A piece of a row covers what its ends say.
clip_covers : {R : Type 0} (sort : Sort R) → Clips sort → (x : R) (lo hi : ℕ) (spot : Spot) → sort.lo x ≤ lo → lo < hi → hi ≤ sort.hi x → covers_spot sort (sort.widen x lo hi) spot ≡ (list_eq (sort.line x) spot.0 && in_range lo hi spot.1)
clip_covers sort clips x lo hi spot a b c =
    let widened : (sort.line (sort.widen x lo hi) ≡ sort.line x) × (sort.lo (sort.widen x lo hi) ≡ lo) × (sort.hi (sort.widen x lo hi) ≡ hi) = clips x lo hi a b c in
    ap₂ ◌&&◌ (ap (λ line. list_eq line spot.0) widened.0) (ap₂ (λ l h. in_range l h spot.1) widened.1 widened.2)

if_same : {A : Type 0} (a b : Bool) (x y : A) → a ≡ b → (if a then x else y) ≡ (if b then x else y)
if_same a b x y e = ap (λ t. if t then x else y) e

and_false : (k : Bool) → (k && false) ≡ false
and_false true = refl
and_false false = refl

left_value : {R V : Type 0} (sort : Sort R) → Clips sort → (r : R) (x : R × V) (spot : Spot) → sort.lo x.0 < sort.hi x.0 → value_at sort spot (left_of sort r x) ≡ (if list_eq (sort.line x.0) spot.0 && (in_range (sort.lo x.0) (sort.hi x.0) spot.1 && nat_lt spot.1 (sort.lo r)) then Some x.1 else None)
left_value {R} {V} sort clips r x spot n = by_test (nat_lt (sort.lo x.0) (sort.lo r)) refl
  where
    by_test : (b : Bool) → nat_lt (sort.lo x.0) (sort.lo r) ≡ b → value_at sort spot (if b then (sort.widen x.0 (sort.lo x.0) (min (sort.hi x.0) (sort.lo r)), x.1) ∷ [] else []) ≡ (if list_eq (sort.line x.0) spot.0 && (in_range (sort.lo x.0) (sort.hi x.0) spot.1 && nat_lt spot.1 (sort.lo r)) then Some x.1 else None)
    by_test true e =
        let reaches_left : sort.lo x.0 < sort.lo r = ltb-true (sort.lo x.0) (sort.lo r) e in
        if_same _ _ (Some x.1) None (clip_covers sort clips x.0 (sort.lo x.0) (min (sort.hi x.0) (sort.lo r)) spot (omega arith) (omega arith) (omega arith) ∙ ap (λ t. list_eq (sort.line x.0) spot.0 && t) (below_min (sort.lo x.0) (sort.hi x.0) (sort.lo r) spot.1))
    by_test false e = sym (if_same _ false (Some x.1) None (ap (λ t. list_eq (sort.line x.0) spot.0 && t) (not_below (sort.lo x.0) (sort.hi x.0) (sort.lo r) spot.1 e) ∙ and_false (list_eq (sort.line x.0) spot.0)))

right_value : {R V : Type 0} (sort : Sort R) → Clips sort → (r : R) (x : R × V) (spot : Spot) → sort.lo x.0 < sort.hi x.0 → value_at sort spot (right_of sort r x) ≡ (if list_eq (sort.line x.0) spot.0 && (in_range (sort.lo x.0) (sort.hi x.0) spot.1 && nat_le (sort.hi r) spot.1) then Some x.1 else None)
right_value {R} {V} sort clips r x spot n = by_test (nat_lt (sort.hi r) (sort.hi x.0)) refl
  where
    by_test : (b : Bool) → nat_lt (sort.hi r) (sort.hi x.0) ≡ b → value_at sort spot (if b then (sort.widen x.0 (max (sort.lo x.0) (sort.hi r)) (sort.hi x.0), x.1) ∷ [] else []) ≡ (if list_eq (sort.line x.0) spot.0 && (in_range (sort.lo x.0) (sort.hi x.0) spot.1 && nat_le (sort.hi r) spot.1) then Some x.1 else None)
    by_test true e =
        let reaches_right : sort.hi r < sort.hi x.0 = ltb-true (sort.hi r) (sort.hi x.0) e in
        if_same _ _ (Some x.1) None (clip_covers sort clips x.0 (max (sort.lo x.0) (sort.hi r)) (sort.hi x.0) spot (omega arith) (omega arith) (omega arith) ∙ ap (λ t. list_eq (sort.line x.0) spot.0 && t) (above_max (sort.lo x.0) (sort.hi x.0) (sort.hi r) spot.1))
    by_test false e = sym (if_same _ false (Some x.1) None (ap (λ t. list_eq (sort.line x.0) spot.0 && t) (not_above (sort.lo x.0) (sort.hi x.0) (sort.hi r) spot.1 e) ∙ and_false (list_eq (sort.line x.0) spot.0)))

both_sides : {V : Type 0} (v : V) (k x a b : Bool) → option_or (if k && (x && a) then Some v else None) (if k && (x && b) then Some v else None) ≡ (if (k && x) && not (k && (not a && not b)) then Some v else None)
both_sides v false x a b = refl
both_sides v true false a b = refl
both_sides v true true true true = refl
both_sides v true true true false = refl
both_sides v true true false true = refl
both_sides v true true false false = refl

other_line : (xs ys zs : List ℕ) (a b : Bool) → list_eq ys xs ≡ false → ((list_eq xs zs && a) && not (list_eq ys zs && b)) ≡ (list_eq xs zs && a)
other_line xs ys zs a b e = by_lines (list_eq xs zs) (list_eq ys zs) refl refl a b
  where
    by_lines : (c d : Bool) → list_eq xs zs ≡ c → list_eq ys zs ≡ d → (a b : Bool) → ((c && a) && not (d && b)) ≡ (c && a)
    by_lines false d h k a b = refl
    by_lines true true h k a b = absurd (true≢false (sym (list_eq_refl xs) ∙ (ap (λ t. list_eq t xs) (list_eq_true xs zs h ∙ sym (list_eq_true ys zs k)) ∙ e)))
    by_lines true false h k true b = refl
    by_lines true false h k false b = refl

row_value : {R V : Type 0} (sort : Sort R) → Clips sort → (r : R) (x : R × V) (spot : Spot) → sort.lo x.0 < sort.hi x.0 → value_at sort spot (cut_row sort r x) ≡ (if covers_spot sort x.0 spot && not (covers_spot sort r spot) then Some x.1 else None)
row_value {R} {V} sort clips r x spot n = by_line (list_eq (sort.line r) (sort.line x.0)) refl
  where
    by_line : (b : Bool) → list_eq (sort.line r) (sort.line x.0) ≡ b → value_at sort spot (if b then left_of sort r x ++ right_of sort r x else x ∷ []) ≡ (if covers_spot sort x.0 spot && not (covers_spot sort r spot) then Some x.1 else None)
    by_line true e =
        value_append sort spot (left_of sort r x) (right_of sort r x)
        ∙ (ap₂ option_or (left_value sort clips r x spot n) (right_value sort clips r x spot n)
        ∙ (both_sides x.1 (list_eq (sort.line x.0) spot.0) (in_range (sort.lo x.0) (sort.hi x.0) spot.1) (nat_lt spot.1 (sort.lo r)) (nat_le (sort.hi r) spot.1)
        ∙ if_same _ _ (Some x.1) None (ap₂ (λ (line : List ℕ) (t : Bool). covers_spot sort x.0 spot && not (list_eq line spot.0 && t)) (sym (list_eq_true (sort.line r) (sort.line x.0) e)) (sym (outside (sort.lo r) (sort.hi r) spot.1)))))
    by_line false e = sym (if_same _ (covers_spot sort x.0 spot) (Some x.1) None (other_line (sort.line x.0) (sort.line r) spot.0 (in_range (sort.lo x.0) (sort.hi x.0) spot.1) (in_range (sort.lo r) (sort.hi r) spot.1) e))

-- Rows with a run cut out have nothing in it, and else what they had.
pub cut_value : {R V : Type 0} (sort : Sort R) → Clips sort → (r : R) (rows : List (R × V)) (spot : Spot) → Apart sort rows → value_at sort spot (cut sort r rows) ≡ (if covers_spot sort r spot then None else value_at sort spot rows)
cut_value sort clips r [] spot a = none (covers_spot sort r spot)
  where
    none : {V : Type 0} (b : Bool) → ◌≡◌ {A = Option V} None (if b then None else None)
    none true = refl
    none false = refl
cut_value {R} {V} sort clips r (x ∷ xs) spot a = value_append sort spot (cut_row sort r x) (cut sort r xs) ∙ (ap₂ option_or (row_value sort clips r x spot a.0) (cut_value sort clips r xs spot a.2) ∙ by_covers (covers_spot sort x.0 spot) (covers_spot sort r spot))
  where
    by_covers : (c d : Bool) → option_or (if c && not d then Some x.1 else None) (if d then None else value_at sort spot xs) ≡ (if d then None else (if c then Some x.1 else value_at sort spot xs))
    by_covers true true = refl
    by_covers true false = refl
    by_covers false true = refl
    by_covers false false = refl

-- What rows have inside a run.
range_both : (a b c d n : ℕ) → in_range (max a c) (min b d) n ≡ (in_range c d n && in_range a b n)
range_both a b c d n = grind (arith, nat_tests)

range_apart : (a b c d n : ℕ) → nat_lt (max a c) (min b d) ≡ false → (in_range c d n && in_range a b n) ≡ false
range_apart a b c d n e = grind (arith, nat_tests)

inside_row_value : {R V : Type 0} (sort : Sort R) → Clips sort → (r : R) (x : R × V) (spot : Spot) → value_at sort spot (inside_row sort r x) ≡ (if covers_spot sort r spot && covers_spot sort x.0 spot then Some x.1 else None)
inside_row_value {R} {V} sort clips r x spot = by_tests (list_eq (sort.line r) (sort.line x.0)) (nat_lt (max (sort.lo x.0) (sort.lo r)) (min (sort.hi x.0) (sort.hi r))) refl refl
  where
    lo : ℕ
    lo = max (sort.lo x.0) (sort.lo r)

    hi : ℕ
    hi = min (sort.hi x.0) (sort.hi r)

    both_false : (c d a b : Bool) → (c ≡ true → d ≡ true → ⊥) → ((c && a) && (d && b)) ≡ false
    both_false true true a b h = absurd (h refl refl)
    both_false true false true b h = refl
    both_false true false false b h = refl
    both_false false d a b h = refl

    and_swap : (k a b : Bool) → ((k && a) && (k && b)) ≡ (k && (a && b))
    and_swap true a b = refl
    and_swap false a b = refl

    by_tests : (b c : Bool) → list_eq (sort.line r) (sort.line x.0) ≡ b → nat_lt (max (sort.lo x.0) (sort.lo r)) (min (sort.hi x.0) (sort.hi r)) ≡ c → value_at sort spot (if b && c then (sort.widen x.0 (max (sort.lo x.0) (sort.lo r)) (min (sort.hi x.0) (sort.hi r)), x.1) ∷ [] else []) ≡ (if covers_spot sort r spot && covers_spot sort x.0 spot then Some x.1 else None)
    by_tests false c e f = sym (if_same _ false (Some x.1) None (both_false (list_eq (sort.line r) spot.0) (list_eq (sort.line x.0) spot.0) (in_range (sort.lo r) (sort.hi r) spot.1) (in_range (sort.lo x.0) (sort.hi x.0) spot.1) (λ h k. true≢false (sym (ap (list_eq (sort.line r)) (list_eq_true (sort.line x.0) spot.0 k) ∙ h) ∙ e))))
    by_tests true true e f =
        let overlaps : max (sort.lo x.0) (sort.lo r) < min (sort.hi x.0) (sort.hi r) = ltb-true (max (sort.lo x.0) (sort.lo r)) (min (sort.hi x.0) (sort.hi r)) f in
        if_same _ _ (Some x.1) None (clip_covers sort clips x.0 (max (sort.lo x.0) (sort.lo r)) (min (sort.hi x.0) (sort.hi r)) spot (omega arith) overlaps (omega arith) ∙ (ap (λ t. list_eq (sort.line x.0) spot.0 && t) (range_both (sort.lo x.0) (sort.hi x.0) (sort.lo r) (sort.hi r) spot.1) ∙ (sym (and_swap (list_eq (sort.line x.0) spot.0) (in_range (sort.lo r) (sort.hi r) spot.1) (in_range (sort.lo x.0) (sort.hi x.0) spot.1)) ∙ ap (λ line. (list_eq line spot.0 && in_range (sort.lo r) (sort.hi r) spot.1) && covers_spot sort x.0 spot) (sym (list_eq_true (sort.line r) (sort.line x.0) e)))))
    by_tests true false e f = sym (if_same _ false (Some x.1) None (ap (λ line. (list_eq line spot.0 && in_range (sort.lo r) (sort.hi r) spot.1) && covers_spot sort x.0 spot) (list_eq_true (sort.line r) (sort.line x.0) e) ∙ (and_swap (list_eq (sort.line x.0) spot.0) (in_range (sort.lo r) (sort.hi r) spot.1) (in_range (sort.lo x.0) (sort.hi x.0) spot.1) ∙ (ap (λ t. list_eq (sort.line x.0) spot.0 && t) (range_apart (sort.lo x.0) (sort.hi x.0) (sort.lo r) (sort.hi r) spot.1 f) ∙ and_false (list_eq (sort.line x.0) spot.0)))))

pub inside_value : {R V : Type 0} (sort : Sort R) → Clips sort → (r : R) (rows : List (R × V)) (spot : Spot) → value_at sort spot (inside sort r rows) ≡ (if covers_spot sort r spot then value_at sort spot rows else None)
inside_value sort clips r [] spot = none (covers_spot sort r spot)
  where
    none : {V : Type 0} (b : Bool) → ◌≡◌ {A = Option V} None (if b then None else None)
    none true = refl
    none false = refl
inside_value {R} {V} sort clips r (x ∷ xs) spot = value_append sort spot (inside_row sort r x) (inside sort r xs) ∙ (ap₂ option_or (inside_row_value sort clips r x spot) (inside_value sort clips r xs spot) ∙ by_covers (covers_spot sort r spot) (covers_spot sort x.0 spot))
  where
    by_covers : (d c : Bool) → option_or (if d && c then Some x.1 else None) (if d then value_at sort spot xs else None) ≡ (if d then (if c then Some x.1 else value_at sort spot xs) else None)
    by_covers true true = refl
    by_covers true false = refl
    by_covers false c = refl

inside_pieces : {R V : Type 0} (sort : Sort R) → Clips sort → (r : R) (x : R × V) → EachRow (Piece sort x) (inside_row sort r x)
inside_pieces {R} {V} sort clips r x = by_test (list_eq (sort.line r) (sort.line x.0)) (nat_lt (max (sort.lo x.0) (sort.lo r)) (min (sort.hi x.0) (sort.hi r))) refl
  where
    by_test : (b c : Bool) → nat_lt (max (sort.lo x.0) (sort.lo r)) (min (sort.hi x.0) (sort.hi r)) ≡ c → EachRow (Piece sort x) (if b && c then (sort.widen x.0 (max (sort.lo x.0) (sort.lo r)) (min (sort.hi x.0) (sort.hi r)), x.1) ∷ [] else [])
    by_test false c f = tt
    by_test true false f = tt
    by_test true true f =
        let overlaps : max (sort.lo x.0) (sort.lo r) < min (sort.hi x.0) (sort.hi r) = ltb-true (max (sort.lo x.0) (sort.lo r)) (min (sort.hi x.0) (sort.hi r)) f in
        let widened : (sort.line (sort.widen x.0 (max (sort.lo x.0) (sort.lo r)) (min (sort.hi x.0) (sort.hi r))) ≡ sort.line x.0) × (sort.lo (sort.widen x.0 (max (sort.lo x.0) (sort.lo r)) (min (sort.hi x.0) (sort.hi r))) ≡ max (sort.lo x.0) (sort.lo r)) × (sort.hi (sort.widen x.0 (max (sort.lo x.0) (sort.lo r)) (min (sort.hi x.0) (sort.hi r))) ≡ min (sort.hi x.0) (sort.hi r)) = clips x.0 (max (sort.lo x.0) (sort.lo r)) (min (sort.hi x.0) (sort.hi r)) (omega arith) overlaps (omega arith) in
        (record { line = widened.0; from = omega (arith, widened.1); full = omega (arith, widened.1, widened.2); upto = omega (arith, widened.2); value = refl }, tt)

-- Rows of which no two cover one spot, and none is empty.
abbrev pub Loose : {R V : Type 0} → Sort R → List (R × V) → Type 0
Loose sort [] = Unit {0}
Loose sort (p ∷ ps) = (sort.lo p.0 < sort.hi p.0) × ((spot : Spot) → covers_spot sort p.0 spot ≡ true → value_at sort spot ps ≡ None) × Loose sort ps

none_after : {R V : Type 0} (sort : Sort R) (x : R × V) (ys : List (R × V)) (spot : Spot) → EachRow (After sort x) ys → covers_spot sort x.0 spot ≡ true → value_at sort spot ys ≡ None
none_after sort x [] spot h e = refl
none_after {R} {V} sort x (y ∷ ys) spot h e = by_cover (covers_spot sort y.0 spot) refl (none_after sort x ys spot h.1 e)
  where
    by_cover : (b : Bool) → covers_spot sort y.0 spot ≡ b → value_at sort spot ys ≡ None → (if b then Some y.1 else value_at sort spot ys) ≡ None
    by_cover true k rest = absurd (no_overlap sort x y spot h.0 e k)
    by_cover false k rest = rest

pub apart_loose : {R V : Type 0} (sort : Sort R) (rows : List (R × V)) → Apart sort rows → Loose sort rows
apart_loose sort [] a = tt
apart_loose sort (x ∷ xs) a = (a.0, λ spot e. none_after sort x xs spot a.1 e, apart_loose sort xs a.2)

pub loose_append : {R V : Type 0} (sort : Sort R) (xs ys : List (R × V)) → Loose sort xs → Loose sort ys → ((spot : Spot) (v : V) → value_at sort spot xs ≡ Some v → value_at sort spot ys ≡ None) → Loose sort (xs ++ ys)
loose_append sort [] ys a b h = b
loose_append {R} {V} sort (x ∷ xs) ys a b h = (a.0, λ spot e. value_append sort spot xs ys ∙ ap₂ option_or (a.1 spot e) (h spot x.1 (ap (λ b. if b then Some x.1 else value_at sort spot xs) e)), loose_append sort xs ys a.2 b (λ spot v e. rest spot v e (covers_spot sort x.0 spot) refl))
  where
    rest : (spot : Spot) (v : V) → value_at sort spot xs ≡ Some v → (c : Bool) → covers_spot sort x.0 spot ≡ c → value_at sort spot ys ≡ None
    rest spot v e true k = let none_is_some : None ≡ Some v = sym (a.1 spot k) ∙ e in absurd (cc)
    rest spot v e false k = h spot v (ap (λ b. if b then Some x.1 else value_at sort spot xs) k ∙ e)

inside_row_loose : {R V : Type 0} (sort : Sort R) → Clips sort → (r : R) (x : R × V) → Loose sort (inside_row sort r x)
inside_row_loose {R} {V} sort clips r x = by_test (list_eq (sort.line r) (sort.line x.0) && nat_lt (max (sort.lo x.0) (sort.lo r)) (min (sort.hi x.0) (sort.hi r))) (inside_pieces sort clips r x)
  where
    by_test : (b : Bool) → EachRow (Piece sort x) (if b then (sort.widen x.0 (max (sort.lo x.0) (sort.lo r)) (min (sort.hi x.0) (sort.hi r)), x.1) ∷ [] else []) → Loose sort (if b then (sort.widen x.0 (max (sort.lo x.0) (sort.lo r)) (min (sort.hi x.0) (sort.hi r)), x.1) ∷ [] else [])
    by_test true h = (h.0.full, λ spot e. refl, tt)
    by_test false h = tt

pub inside_loose : {R V : Type 0} (sort : Sort R) → Clips sort → (r : R) (rows : List (R × V)) → Loose sort rows → Loose sort (inside sort r rows)
inside_loose sort clips r [] a = tt
inside_loose {R} {V} sort clips r (x ∷ xs) a = loose_append sort (inside_row sort r x) (inside sort r xs) (inside_row_loose sort clips r x) (inside_loose sort clips r xs a.2) (λ spot v e. by_covers spot v (covers_spot sort r spot) (covers_spot sort x.0 spot) refl (sym (inside_row_value sort clips r x spot) ∙ e) (inside_value sort clips r xs spot))
  where
    by_covers : (spot : Spot) (v : V) (d c : Bool) → covers_spot sort x.0 spot ≡ c → (if d && c then Some x.1 else None) ≡ Some v → value_at sort spot (inside sort r xs) ≡ (if d then value_at sort spot xs else None) → value_at sort spot (inside sort r xs) ≡ None
    by_covers spot v true true k e h = h ∙ a.1 spot k
    by_covers spot v true false k e h = absurd (cc)
    by_covers spot v false c k e h = h

-- Values of chosen rows.
pub choose_value : {R V W : Type 0} (sort : Sort R) (f : V → Option W) (rows : List (R × V)) (spot : Spot) → Loose sort rows → value_at sort spot (choose f rows) ≡ option_and_then f (value_at sort spot rows)
choose_value sort f [] spot a = refl
choose_value {R} {V} {W} sort f (x ∷ xs) spot a = value_append sort spot (choose_one x.0 (f x.1)) (choose f xs) ∙ (ap (option_or (value_at sort spot (choose_one x.0 (f x.1)))) (choose_value sort f xs spot a.2) ∙ by_cover (covers_spot sort x.0 spot) refl (f x.1) refl)
  where
    by_cover : (b : Bool) → covers_spot sort x.0 spot ≡ b → (o : Option W) → f x.1 ≡ o → option_or (value_at sort spot (choose_one x.0 o)) (option_and_then f (value_at sort spot xs)) ≡ option_and_then f (if b then Some x.1 else value_at sort spot xs)
    by_cover true k (Some w) e = ap (λ b. option_or (if b then Some w else None) (option_and_then f (value_at sort spot xs))) k ∙ sym e
    by_cover true k None e = ap (option_and_then f) (a.1 spot k) ∙ sym e
    by_cover false k (Some w) e = ap (λ b. option_or (if b then Some w else None) (option_and_then f (value_at sort spot xs))) k
    by_cover false k None e = refl

pub choose_loose : {R V W : Type 0} (sort : Sort R) (f : V → Option W) (rows : List (R × V)) → Loose sort rows → Loose sort (choose f rows)
choose_loose sort f [] a = tt
choose_loose {R} {V} {W} sort f (x ∷ xs) a = by_choice (f x.1) (choose_loose sort f xs a.2)
  where
    by_choice : (o : Option W) → Loose sort (choose f xs) → Loose sort (choose_one x.0 o ++ choose f xs)
    by_choice (Some w) rest = (a.0, λ spot e. choose_value sort f xs spot a.2 ∙ ap (option_and_then f) (a.1 spot e), rest)
    by_choice None rest = rest

-- Apart rows have a value at a spot where their value there is it.
pub has_at : {R V : Type 0} (sort : Sort R) (same : V → V → Bool) (spot : Spot) (v : V) (rows : List (R × V)) → Loose sort rows → has_value sort same spot v rows ≡ option_map_or (same v) (value_at sort spot rows) false
has_at sort same spot v [] a = refl
has_at {R} {V} sort same spot v (x ∷ xs) a = by_cover (covers_spot sort x.0 spot) refl (has_at sort same spot v xs a.2)
  where
    or_none : (b : Bool) → (b || false) ≡ b
    or_none true = refl
    or_none false = refl

    by_cover : (b : Bool) → covers_spot sort x.0 spot ≡ b → has_value sort same spot v xs ≡ option_map_or (same v) (value_at sort spot xs) false → ((b && same v x.1) || has_value sort same spot v xs) ≡ option_map_or (same v) (if b then Some x.1 else value_at sort spot xs) false
    by_cover true k h = ap (λ t. same v x.1 || t) (h ∙ ap (λ (o : Option V). option_map_or (same v) o false) (a.1 spot k)) ∙ or_none (same v x.1)
    by_cover false k h = h

value_from_has : {R V : Type 0} (sort : Sort R) (same : V → V → Bool) → Tells sort same → (o p : Option V) → ((v : V) → option_map_or (same v) o false ≡ option_map_or (same v) p false) → o ≡ p
value_from_has sort same tells None None h = refl
value_from_has sort same tells None (Some y) h = absurd (true≢false (sym (tells.itself y) ∙ sym (h y)))
value_from_has sort same tells (Some x) None h = absurd (true≢false (sym (tells.itself x) ∙ h x))
value_from_has sort same tells (Some x) (Some y) h = ap Some (tells.equal x y (sym (h x) ∙ tells.itself x))

-- Nothing of the rows lies in the run.
abbrev pub IsFree : {R V : Type 0} → Sort R → R → List (R × V) → Type 0
IsFree sort r rows = (spot : Spot) → covers_spot sort r spot ≡ true → value_at sort spot rows ≡ None

pub free_fits : {R V : Type 0} (sort : Sort R) (r : R × V) (rows : List (R × V)) → IsFree sort r.0 rows → EachRow (Fits sort r) rows
free_fits sort r [] h = tt
free_fits {R} {V} sort r (y ∷ ys) h = (λ spot e k. fit spot (h spot e) k, free_fits sort r ys (λ spot e. rest spot (covers_spot sort y.0 spot) (h spot e)))
  where
    fit : (spot : Spot) → value_at sort spot (y ∷ ys) ≡ None → covers_spot sort y.0 spot ≡ true → r.1 ≡ y.1
    fit spot n k = let some_is_none : Some y.1 ≡ None = sym (ap (λ b. if b then Some y.1 else value_at sort spot ys) k) ∙ n in absurd (cc)

    rest : (spot : Spot) (b : Bool) → (if b then Some y.1 else value_at sort spot ys) ≡ None → value_at sort spot ys ≡ None
    rest spot true n = absurd (cc)
    rest spot false n = n

pub put_free_apart : {R V : Type 0} (sort : Sort R) (same : V → V → Bool) → Tells sort same → (r : R × V) (rows : List (R × V)) → sort.lo r.0 < sort.hi r.0 → Apart sort rows → IsFree sort r.0 rows → Apart sort (put sort same r rows)
put_free_apart sort same tells r rows n a free = put_apart sort same tells r rows n a (free_fits sort r rows free)

pub put_value : {R V : Type 0} (sort : Sort R) (same : V → V → Bool) → Tells sort same → (r : R × V) (rows : List (R × V)) (spot : Spot) → sort.lo r.0 < sort.hi r.0 → Apart sort rows → IsFree sort r.0 rows → value_at sort spot (put sort same r rows) ≡ (if covers_spot sort r.0 spot then Some r.1 else value_at sort spot rows)
put_value {R} {V} sort same tells r rows spot n a free = value_from_has sort same tells (value_at sort spot (put sort same r rows)) (if covers_spot sort r.0 spot then Some r.1 else value_at sort spot rows) (λ v. sym (has_at sort same spot v (put sort same r rows) (apart_loose sort (put sort same r rows) (put_free_apart sort same tells r rows n a free))) ∙ (put_any sort same spot (same v) tells.widens (respects sort same tells v) r rows ∙ by_cover v (covers_spot sort r.0 spot) refl))
  where
    or_none : (b : Bool) → (b || false) ≡ b
    or_none true = refl
    or_none false = refl

    by_cover : (v : V) (b : Bool) → covers_spot sort r.0 spot ≡ b → ((b && same v r.1) || has_value sort same spot v rows) ≡ option_map_or (same v) (if b then Some r.1 else value_at sort spot rows) false
    by_cover v true e = ap (λ t. same v r.1 || t) (has_at sort same spot v rows (apart_loose sort rows a) ∙ ap (λ (o : Option V). option_map_or (same v) o false) (free spot e)) ∙ or_none (same v r.1)
    by_cover v false e = has_at sort same spot v rows (apart_loose sort rows a)

-- Overwritten rows.
cut_free : {R V : Type 0} (sort : Sort R) → Clips sort → (r : R) (rows : List (R × V)) → Apart sort rows → IsFree sort r (cut sort r rows)
cut_free sort clips r rows a spot e = cut_value sort clips r rows spot a ∙ ap (λ b. if b then None else value_at sort spot rows) e

pub overwrite_apart : {R V : Type 0} (sort : Sort R) (same : V → V → Bool) → Tells sort same → Clips sort → (r : R × V) (rows : List (R × V)) → sort.lo r.0 < sort.hi r.0 → Apart sort rows → Apart sort (overwrite sort same r rows)
overwrite_apart sort same tells clips r rows n a = put_free_apart sort same tells r (cut sort r.0 rows) n (cut_apart sort clips r.0 rows n a) (cut_free sort clips r.0 rows a)

pub overwrite_value : {R V : Type 0} (sort : Sort R) (same : V → V → Bool) → Tells sort same → Clips sort → (r : R × V) (rows : List (R × V)) (spot : Spot) → sort.lo r.0 < sort.hi r.0 → Apart sort rows → value_at sort spot (overwrite sort same r rows) ≡ (if covers_spot sort r.0 spot then Some r.1 else value_at sort spot rows)
overwrite_value {R} {V} sort same tells clips r rows spot n a = put_value sort same tells r (cut sort r.0 rows) spot n (cut_apart sort clips r.0 rows n a) (cut_free sort clips r.0 rows a) ∙ (ap (λ (o : Option V). if covers_spot sort r.0 spot then Some r.1 else o) (cut_value sort clips r.0 rows spot a) ∙ twice (covers_spot sort r.0 spot))
  where
    twice : (b : Bool) → (if b then Some r.1 else (if b then None else value_at sort spot rows)) ≡ (if b then Some r.1 else value_at sort spot rows)
    twice true = refl
    twice false = refl

-- Rows put one after another.
abbrev pub AreFree : {R V W : Type 0} → Sort R → List (R × W) → List (R × V) → Type 0
AreFree {R} {V} {W} sort ps rows = (spot : Spot) (w : W) → value_at sort spot ps ≡ Some w → value_at sort spot rows ≡ None

abbrev PutAll : {R V : Type 0} → Sort R → (V → V → Bool) → List (R × V) → List (R × V) → Type 0
PutAll sort same ps rows = Apart sort (put_all sort same ps rows) × ((spot : Spot) → value_at sort spot (put_all sort same ps rows) ≡ option_or (value_at sort spot ps) (value_at sort spot rows))

pub all_put : {R V : Type 0} (sort : Sort R) (same : V → V → Bool) → Tells sort same → (ps rows : List (R × V)) → Loose sort ps → Apart sort rows → AreFree sort ps rows → PutAll sort same ps rows
all_put sort same tells [] rows l a free = (a, λ spot. refl)
all_put {R} {V} sort same tells (p ∷ ps) rows l a free = go (all_put sort same tells ps (put sort same p rows) l.2 (put_free_apart sort same tells p rows l.0 a p_free) (λ spot w e. still_free spot w e (covers_spot sort p.0 spot) refl))
  where
    p_free : IsFree sort p.0 rows
    p_free spot e = free spot p.1 (ap (λ b. if b then Some p.1 else value_at sort spot ps) e)

    one : (spot : Spot) → value_at sort spot (put sort same p rows) ≡ (if covers_spot sort p.0 spot then Some p.1 else value_at sort spot rows)
    one spot = put_value sort same tells p rows spot l.0 a p_free

    still_free : (spot : Spot) (w : V) → value_at sort spot ps ≡ Some w → (b : Bool) → covers_spot sort p.0 spot ≡ b → value_at sort spot (put sort same p rows) ≡ None
    still_free spot w e true k = let none_is_some : None ≡ Some w = sym (l.1 spot k) ∙ e in absurd (cc)
    still_free spot w e false k = one spot ∙ (ap (λ b. if b then Some p.1 else value_at sort spot rows) k ∙ free spot w (ap (λ b. if b then Some p.1 else value_at sort spot ps) k ∙ e))

    by_cover : (spot : Spot) (b : Bool) → covers_spot sort p.0 spot ≡ b → option_or (value_at sort spot ps) (if b then Some p.1 else value_at sort spot rows) ≡ option_or (if b then Some p.1 else value_at sort spot ps) (value_at sort spot rows)
    by_cover spot true k = ap (λ o. option_or o (Some p.1)) (l.1 spot k)
    by_cover spot false k = refl

    go : PutAll sort same ps (put sort same p rows) → PutAll sort same (p ∷ ps) rows
    go h = (h.0, λ spot. h.1 spot ∙ (ap (option_or (value_at sort spot ps)) (one spot) ∙ by_cover spot (covers_spot sort p.0 spot) refl))

-- What is left where other rows are.
abbrev pub GapsAre : {R V W : Type 0} → Sort R → List (R × W) → List (R × V) → Type 0
GapsAre {R} {V} {W} sort left rows = Apart sort (gaps sort left rows) × ((spot : Spot) → value_at sort spot (gaps sort left rows) ≡ option_map_or (λ (v : V). None) (value_at sort spot rows) (value_at sort spot left))

pub gaps_are : {R V W : Type 0} (sort : Sort R) → Clips sort → (left : List (R × W)) (rows : List (R × V)) → Apart sort left → Loose sort rows → GapsAre sort left rows
gaps_are sort clips left [] a l = (a, λ spot. refl)
gaps_are {R} {V} {W} sort clips left (x ∷ xs) a l = go (gaps_are sort clips (cut sort x.0 left) xs (cut_apart sort clips x.0 left l.0 a) l.2)
  where
    by_cover : (b : Bool) (o : Option V) (p : Option W) → option_map_or (λ (v : V). None) o (if b then None else p) ≡ option_map_or (λ (v : V). None) (if b then Some x.1 else o) p
    by_cover true None p = refl
    by_cover true (Some v) p = refl
    by_cover false o p = refl

    go : GapsAre sort (cut sort x.0 left) xs → GapsAre sort left (x ∷ xs)
    go h = (h.0, λ spot. h.1 spot ∙ (ap (λ (o : Option W). option_map_or (λ (v : V). None) (value_at sort spot xs) o) (cut_value sort clips x.0 left spot a) ∙ by_cover (covers_spot sort x.0 spot) (value_at sort spot xs) (value_at sort spot left)))

-- Rows that are apart and have the values of rows that fit are these as printed.
fit_at : {R V : Type 0} (sort : Sort R) (same : V → V → Bool) → Tells sort same → (spot : Spot) (v : V) (rows : List (R × V)) → AllFit sort rows → has_value sort same spot v rows ≡ option_map_or (same v) (value_at sort spot rows) false
fit_at sort same tells spot v [] a = refl
fit_at {R} {V} sort same tells spot v (x ∷ xs) a = by_cover (covers_spot sort x.0 spot) refl (fit_at sort same tells spot v xs a.2)
  where
    or_itself : (b : Bool) → (b || b) ≡ b
    or_itself true = refl
    or_itself false = refl

    or_none : (b : Bool) → (b || false) ≡ b
    or_none true = refl
    or_none false = refl

    found : (ys : List (R × V)) → EachRow (Fits sort x) ys → covers_spot sort x.0 spot ≡ true → (value_at sort spot ys ≡ None) ⊎ (value_at sort spot ys ≡ Some x.1)
    found [] f e = inl refl
    found (y ∷ ys) f e = by_y (covers_spot sort y.0 spot) refl (found ys f.1 e)
      where
        by_y : (b : Bool) → covers_spot sort y.0 spot ≡ b → (value_at sort spot ys ≡ None) ⊎ (value_at sort spot ys ≡ Some x.1) → ((if b then Some y.1 else value_at sort spot ys) ≡ None) ⊎ ((if b then Some y.1 else value_at sort spot ys) ≡ Some x.1)
        by_y true k rest = inr (ap Some (sym (f.0 spot e k)))
        by_y false k rest = rest

    by_found : (value_at sort spot xs ≡ None) ⊎ (value_at sort spot xs ≡ Some x.1) → (same v x.1 || option_map_or (same v) (value_at sort spot xs) false) ≡ same v x.1
    by_found (inl n) = ap (λ (o : Option V). same v x.1 || option_map_or (same v) o false) n ∙ or_none (same v x.1)
    by_found (inr s) = ap (λ (o : Option V). same v x.1 || option_map_or (same v) o false) s ∙ or_itself (same v x.1)

    by_cover : (b : Bool) → covers_spot sort x.0 spot ≡ b → has_value sort same spot v xs ≡ option_map_or (same v) (value_at sort spot xs) false → ((b && same v x.1) || has_value sort same spot v xs) ≡ option_map_or (same v) (if b then Some x.1 else value_at sort spot xs) false
    by_cover true k h = ap (λ t. same v x.1 || t) h ∙ by_found (found xs a.1 k)
    by_cover false k h = h

pub printed_by_values : {R V : Type 0} (sort : Sort R) (same : V → V → Bool) → Tells sort same → (found rows : List (R × V)) → AllFit sort rows → Apart sort found → ((spot : Spot) → value_at sort spot found ≡ value_at sort spot rows) → found ≡ printed sort same rows
printed_by_values {R} {V} sort same tells found rows fit apart h = printed_unique sort same tells found rows fit apart (λ spot v. has_at sort same spot v found (apart_loose sort found apart) ∙ (ap (λ (o : Option V). option_map_or (same v) o false) (h spot) ∙ sym (fit_at sort same tells spot v rows fit)))
