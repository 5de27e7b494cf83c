-- Rows with a run cut out, what they have inside it, and rows put.
use Rattle.std.proofs.Common.{◌≡◌, ℕ, ◌<◌, ◌≤◌, min, max, List, [], ◌∷◌, ◌++◌, Bool, true, false, refl, ap₂, sym, ◌∙◌, ◌⊎◌, inl, inr, arith, if◌then◌else◌, nat_lt}
use Rattle.std.proofs.lemmas.Bool.{cases_order, ltb-true}
use Rattle.wg_rows.specs.Rows.{list_eq, list_before, Sort, EachRow, After, Apart}
use Rattle.wg_rows.specs.Cut.{left_of, right_of, cut_row, cut}
use Rattle.wg_rows.proofs.Printed.{each_row_map}

-- A run of a line is made narrower by widen, too.
abbrev pub Clips : {R : Type 0} → Sort R → Type 0
Clips {R} sort = (x : R) (lo hi : ℕ) → sort.lo x ≤ lo → lo < hi → hi ≤ sort.hi x → (sort.line (sort.widen x lo hi) ≡ sort.line x) × (sort.lo (sort.widen x lo hi) ≡ lo) × (sort.hi (sort.widen x lo hi) ≡ hi)

-- A piece of a row: in its line, within its ends, not empty, and with its value.
pub record Piece {R V : Type 0} (sort : Sort R) (x p : R × V) : Type 0 where
  pub line : sort.line p.0 ≡ sort.line x.0
  pub from : sort.lo x.0 ≤ sort.lo p.0
  pub full : sort.lo p.0 < sort.hi p.0
  pub upto : sort.hi p.0 ≤ sort.hi x.0
  pub value : p.1 ≡ x.1

clip_piece : {R V : Type 0} (sort : Sort R) → Clips sort → (x : R × V) (lo hi : ℕ) → sort.lo x.0 ≤ lo → lo < hi → hi ≤ sort.hi x.0 → Piece sort x (sort.widen x.0 lo hi, x.1)
clip_piece sort clips x lo hi a b c =
    let widened : (sort.line (sort.widen x.0 lo hi) ≡ sort.line x.0) × (sort.lo (sort.widen x.0 lo hi) ≡ lo) × (sort.hi (sort.widen x.0 lo hi) ≡ hi) = clips x.0 lo hi a b c in
    record { line = widened.0; from = omega (arith, widened.1); full = omega (arith, widened.1, widened.2); upto = omega (arith, widened.2); value = refl }

left_pieces : {R V : Type 0} (sort : Sort R) → Clips sort → (r : R) (x : R × V) → sort.lo x.0 < sort.hi x.0 → EachRow (Piece sort x) (left_of sort r x)
left_pieces {R} {V} sort clips r x n = by_test (nat_lt (sort.lo x.0) (sort.lo r)) refl
  where
    by_test : (b : Bool) → nat_lt (sort.lo x.0) (sort.lo r) ≡ b → EachRow (Piece sort x) (if b then (sort.widen x.0 (sort.lo x.0) (min (sort.hi x.0) (sort.lo r)), x.1) ∷ [] else [])
    by_test true e = let reaches_left : sort.lo x.0 < sort.lo r = ltb-true (sort.lo x.0) (sort.lo r) e in (clip_piece sort clips x (sort.lo x.0) (min (sort.hi x.0) (sort.lo r)) (omega arith) (omega arith) (omega arith), tt)
    by_test false e = tt

right_pieces : {R V : Type 0} (sort : Sort R) → Clips sort → (r : R) (x : R × V) → sort.lo x.0 < sort.hi x.0 → EachRow (Piece sort x) (right_of sort r x)
right_pieces {R} {V} sort clips r x n = by_test (nat_lt (sort.hi r) (sort.hi x.0)) refl
  where
    by_test : (b : Bool) → nat_lt (sort.hi r) (sort.hi x.0) ≡ b → EachRow (Piece sort x) (if b then (sort.widen x.0 (max (sort.lo x.0) (sort.hi r)) (sort.hi x.0), x.1) ∷ [] else [])
    by_test true e = let reaches_right : sort.hi r < sort.hi x.0 = ltb-true (sort.hi r) (sort.hi x.0) e in (clip_piece sort clips x (max (sort.lo x.0) (sort.hi r)) (sort.hi x.0) (omega arith) (omega arith) (omega arith), tt)
    by_test false e = tt

pub each_append : {A : Type 0} (P : A → Type 0) (xs ys : List A) → EachRow P xs → EachRow P ys → EachRow P (xs ++ ys)
each_append P [] ys h k = k
each_append P (x ∷ xs) ys h k = (h.0, each_append P xs ys h.1 k)

self_piece : {R V : Type 0} (sort : Sort R) (x : R × V) → sort.lo x.0 < sort.hi x.0 → Piece sort x x
self_piece sort x n = record { line = refl; from = omega arith; full = n; upto = omega arith; value = refl }

pub cut_pieces : {R V : Type 0} (sort : Sort R) → Clips sort → (r : R) (x : R × V) → sort.lo x.0 < sort.hi x.0 → EachRow (Piece sort x) (cut_row sort r x)
cut_pieces {R} {V} sort clips r x n = by_line (list_eq (sort.line r) (sort.line x.0))
  where
    by_line : (b : Bool) → EachRow (Piece sort x) (if b then left_of sort r x ++ right_of sort r x else x ∷ [])
    by_line true = each_append (Piece sort x) (left_of sort r x) (right_of sort r x) (left_pieces sort clips r x n) (right_pieces sort clips r x n)
    by_line false = (self_piece sort x n, tt)

-- What holds of the pieces of each row holds of the rows cut.
pub each_cut : {R V : Type 0} (sort : Sort R) (r : R) (P Q : R × V → Type 0) → ((x : R × V) → P x → EachRow Q (cut_row sort r x)) → (xs : List (R × V)) → EachRow P xs → EachRow Q (cut sort r xs)
each_cut sort r P Q f [] h = tt
each_cut sort r P Q f (x ∷ xs) h = each_append Q (cut_row sort r x) (cut sort r xs) (f x h.0) (each_cut sort r P Q f xs h.1)

-- Pieces of rows stand as the rows do.
pub after_pieces : {R V : Type 0} (sort : Sort R) (x y p q : R × V) → Piece sort x p → Piece sort y q → After sort x y → After sort p q
after_pieces sort x y p q a b (inl before) = inl (ap₂ list_before a.line b.line ∙ before)
after_pieces sort x y p q a b (inr h) = inr (a.line ∙ (h.0 ∙ sym b.line), by_gap h.1 (cases_order (sort.hi p.0) (sort.lo q.0)))
  where
    by_gap : (sort.hi x.0 < sort.lo y.0) ⊎ ((sort.hi x.0 ≡ sort.lo y.0) × (x.1 ≡ y.1 → ⊥)) → (sort.hi p.0 ≡ sort.lo q.0) ⊎ ((sort.hi p.0 < sort.lo q.0) ⊎ (sort.lo q.0 < sort.hi p.0)) → (sort.hi p.0 < sort.lo q.0) ⊎ ((sort.hi p.0 ≡ sort.lo q.0) × (p.1 ≡ q.1 → ⊥))
    by_gap (inl gap) o = inl (omega (arith, a.upto, b.from))
    by_gap (inr k) (inl same) = inr (same, λ v. k.1 (sym a.value ∙ (v ∙ b.value)))
    by_gap (inr k) (inr (inl less)) = inl less
    by_gap (inr k) (inr (inr more)) = absurd (omega (arith, a.upto, b.from, k.0))

pub apart_append : {R V : Type 0} (sort : Sort R) (xs ys : List (R × V)) → Apart sort xs → Apart sort ys → EachRow (λ x. EachRow (After sort x) ys) xs → Apart sort (xs ++ ys)
apart_append sort [] ys a b h = b
apart_append sort (x ∷ xs) ys a b h = (a.0, each_append (After sort x) xs ys a.1 h.0, apart_append sort xs ys a.2 b h.1)

sides_apart : {R V : Type 0} (sort : Sort R) → Clips sort → (r : R) (x : R × V) → sort.lo r < sort.hi r → sort.lo x.0 < sort.hi x.0 → Apart sort (left_of sort r x ++ right_of sort r x)
sides_apart {R} {V} sort clips r x nr nx = by_tests (nat_lt (sort.lo x.0) (sort.lo r)) (nat_lt (sort.hi r) (sort.hi x.0)) refl refl
  where
    by_tests : (b c : Bool) → nat_lt (sort.lo x.0) (sort.lo r) ≡ b → nat_lt (sort.hi r) (sort.hi x.0) ≡ c → Apart sort ((if b then (sort.widen x.0 (sort.lo x.0) (min (sort.hi x.0) (sort.lo r)), x.1) ∷ [] else []) ++ (if c then (sort.widen x.0 (max (sort.lo x.0) (sort.hi r)) (sort.hi x.0), x.1) ∷ [] else []))
    by_tests true true e f =
        let reaches_left : sort.lo x.0 < sort.lo r = ltb-true (sort.lo x.0) (sort.lo r) e in
        let reaches_right : sort.hi r < sort.hi x.0 = ltb-true (sort.hi r) (sort.hi x.0) f in
        let left_ends : (sort.line (sort.widen x.0 (sort.lo x.0) (min (sort.hi x.0) (sort.lo r))) ≡ sort.line x.0) × (sort.lo (sort.widen x.0 (sort.lo x.0) (min (sort.hi x.0) (sort.lo r))) ≡ sort.lo x.0) × (sort.hi (sort.widen x.0 (sort.lo x.0) (min (sort.hi x.0) (sort.lo r))) ≡ min (sort.hi x.0) (sort.lo r)) = clips x.0 (sort.lo x.0) (min (sort.hi x.0) (sort.lo r)) (omega arith) (omega arith) (omega arith) in
        let right_ends : (sort.line (sort.widen x.0 (max (sort.lo x.0) (sort.hi r)) (sort.hi x.0)) ≡ sort.line x.0) × (sort.lo (sort.widen x.0 (max (sort.lo x.0) (sort.hi r)) (sort.hi x.0)) ≡ max (sort.lo x.0) (sort.hi r)) × (sort.hi (sort.widen x.0 (max (sort.lo x.0) (sort.hi r)) (sort.hi x.0)) ≡ sort.hi x.0) = clips x.0 (max (sort.lo x.0) (sort.hi r)) (sort.hi x.0) (omega arith) (omega arith) (omega arith) in
        (omega (arith, left_ends.1, left_ends.2), (inr (left_ends.0 ∙ sym right_ends.0, inl (omega (arith, left_ends.2, right_ends.1))), tt), (omega (arith, right_ends.1, right_ends.2), tt, tt))
    by_tests true false e f =
        let reaches_left : sort.lo x.0 < sort.lo r = ltb-true (sort.lo x.0) (sort.lo r) e in
        let piece : Piece sort x (sort.widen x.0 (sort.lo x.0) (min (sort.hi x.0) (sort.lo r)), x.1) = clip_piece sort clips x (sort.lo x.0) (min (sort.hi x.0) (sort.lo r)) (omega arith) (omega arith) (omega arith) in
        (piece.full, tt, tt)
    by_tests false true e f =
        let reaches_right : sort.hi r < sort.hi x.0 = ltb-true (sort.hi r) (sort.hi x.0) f in
        let piece : Piece sort x (sort.widen x.0 (max (sort.lo x.0) (sort.hi r)) (sort.hi x.0), x.1) = clip_piece sort clips x (max (sort.lo x.0) (sort.hi r)) (sort.hi x.0) (omega arith) (omega arith) (omega arith) in
        (piece.full, tt, tt)
    by_tests false false e f = tt

-- Rows that are apart are so with a run cut out.
pub cut_apart : {R V : Type 0} (sort : Sort R) → Clips sort → (r : R) (rows : List (R × V)) → sort.lo r < sort.hi r → Apart sort rows → Apart sort (cut sort r rows)
cut_apart sort clips r [] n a = tt
cut_apart {R} {V} sort clips r (x ∷ xs) n a = apart_append sort (cut_row sort r x) (cut sort r xs) (by_line (list_eq (sort.line r) (sort.line x.0))) (cut_apart sort clips r xs n a.2) (each_row_map (Piece sort x) (λ p. EachRow (After sort p) (cut sort r xs)) (λ p k. each_cut sort r (λ y. (sort.lo y.0 < sort.hi y.0) × After sort x y) (After sort p) (λ y h. each_row_map (Piece sort y) (After sort p) (λ q g. after_pieces sort x y p q k g h.1) (cut_row sort r y) (cut_pieces sort clips r y h.0)) xs (full_after xs a.1 a.2)) (cut_row sort r x) (cut_pieces sort clips r x a.0))
  where
    by_line : (b : Bool) → Apart sort (if b then left_of sort r x ++ right_of sort r x else x ∷ [])
    by_line true = sides_apart sort clips r x n a.0
    by_line false = (a.0, tt, tt)

    full_after : (ys : List (R × V)) → EachRow (After sort x) ys → Apart sort ys → EachRow (λ y. (sort.lo y.0 < sort.hi y.0) × After sort x y) ys
    full_after [] h b = tt
    full_after (y ∷ ys) h b = ((b.0, h.0), full_after ys h.1 b.2)
