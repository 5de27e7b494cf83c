-- A run covers a cell exactly where the cell's key lies between the keys of its ends.
use Rattle.std.proofs.Common.{◌≡◌, ℕ, ◌<◌, ◌≤◌, List, [], ◌∷◌, Bool, true, false, not, ◌&&◌, ◌||◌, ◌==◌, nat_lt, nat_le, refl, ap, sym, ◌∙◌, ◌⊎◌, inl, inr, arith}
use Rattle.std.proofs.lemmas.Bool.{cases_lt, cases_order, lt-ltb, le-ltb, le-leb, lt-leb, eq-eqb, ne_eqb}
use Rattle.wg_rows.specs.Rows.{list_before, in_range}
use Rattle.wg_rows.specs.Runs.{Cell, Byte, Texels, Slice, Query, Cells, Bytes, Layers, Slices, Queries, covers, aspect_number}
use Rattle.wg_check.specs.declared.events.CellDeed.{CellDeed}
use Rattle.wg_check.specs.Segments.{numbers, lies_in}
use Rattle.wg_check.specs.Keys.{key, cell_key, run_event}

-- A number in front of three keys: they differ at once, or as before.
abbrev pub Between : List ℕ → List ℕ → List ℕ → Bool
Between k lo hi = not (list_before k lo) && list_before k hi

pub more : (x y : ℕ) (k lo hi : List ℕ) → Between (x ∷ k) (y ∷ lo) (y ∷ hi) ≡ ((y == x) && Between k lo hi)
more x y k lo hi = by_order (cases_order x y)
  where
    by_order : (x ≡ y) ⊎ ((x < y) ⊎ (y < x)) → (not (nat_lt x y || ((x == y) && list_before k lo)) && (nat_lt x y || ((x == y) && list_before k hi))) ≡ ((y == x) && Between k lo hi)
    by_order (inl same) = rw (le-ltb x y (omega arith), eq-eqb x y same, eq-eqb y x (sym same)) refl
    by_order (inr (inl less)) = rw (lt-ltb x y less, ne_eqb y x (λ e. omega (arith, e))) refl
    by_order (inr (inr more)) = rw (le-ltb x y (omega arith), ne_eqb x y (λ e. omega (arith, e)), ne_eqb y x (λ e. omega (arith, e))) refl

-- the last number
last : (x lo hi : ℕ) → Between (x ∷ []) (lo ∷ []) (hi ∷ []) ≡ in_range lo hi x
last x lo hi = by_order (cases_lt x lo) (cases_lt x hi)
  where
    by_order : (x < lo) ⊎ (lo ≤ x) → (x < hi) ⊎ (hi ≤ x) → (not (nat_lt x lo || ((x == lo) && false)) && (nat_lt x hi || ((x == hi) && false))) ≡ (nat_le lo x && nat_lt x hi)
    by_order a b = by_tests (nat_lt x lo) (nat_lt x hi) (x == lo) (x == hi) (nat_le lo x) (opposite a)
      where
        opposite : (x < lo) ⊎ (lo ≤ x) → nat_le lo x ≡ not (nat_lt x lo)
        opposite (inl less) = rw (lt-leb lo x less, lt-ltb x lo less) refl
        opposite (inr more) = rw (le-leb lo x more, le-ltb x lo more) refl

        by_tests : (p q s t u : Bool) → u ≡ not p → (not (p || (s && false)) && (q || (t && false))) ≡ (u && q)
        by_tests true q true t u e = rw e refl
        by_tests true q false t u e = rw e refl
        by_tests false true true true u e = rw e refl
        by_tests false true true false u e = rw e refl
        by_tests false true false true u e = rw e refl
        by_tests false true false false u e = rw e refl
        by_tests false false true true u e = rw e refl
        by_tests false false true false u e = rw e refl
        by_tests false false false true u e = rw e refl
        by_tests false false false false u e = rw e refl

-- keys of one line
pub key_between : (o s a m x o2 s2 a2 m2 lo hi : ℕ) → Between (numbers (key o s a m x)) (numbers (key o2 s2 a2 m2 lo)) (numbers (key o2 s2 a2 m2 hi)) ≡ ((o2 == o) && ((s2 == s) && ((a2 == a) && ((m2 == m) && in_range lo hi x))))
key_between o s a m x o2 s2 a2 m2 lo hi =
    more o o2 (s ∷ (a ∷ (m ∷ (x ∷ [])))) (s2 ∷ (a2 ∷ (m2 ∷ (lo ∷ [])))) (s2 ∷ (a2 ∷ (m2 ∷ (hi ∷ [])))) ∙ ap (λ (b : Bool). (o2 == o) && b) (more s s2 (a ∷ (m ∷ (x ∷ []))) (a2 ∷ (m2 ∷ (lo ∷ []))) (a2 ∷ (m2 ∷ (hi ∷ []))) ∙ ap (λ (b : Bool). (s2 == s) && b) (more a a2 (m ∷ (x ∷ [])) (m2 ∷ (lo ∷ [])) (m2 ∷ (hi ∷ [])) ∙ ap (λ (b : Bool). (a2 == a) && b) (more m m2 (x ∷ []) (lo ∷ []) (hi ∷ []) ∙ ap (λ (b : Bool). (m2 == m) && b) (last x lo hi))))

pub two_left : (p b : Bool) → (p && false) ≡ ((p && false) && b)
two_left true b = refl
two_left false b = refl

pub two : (p r : Bool) → (p && r) ≡ ((p && true) && r)
two true r = refl
two false r = refl

three : (p m r : Bool) → (p && (m && r)) ≡ ((p && (m && true)) && r)
three true true r = refl
three true false r = refl
three false m r = refl

pub four : (p a m r : Bool) → (p && (a && (m && r))) ≡ ((p && (a && (m && true))) && r)
four true true true r = refl
four true true false r = refl
four true false m r = refl
four false a m r = refl

-- A run covers exactly the cells whose keys lie between its ends.
pub run_covers : (run : Cells) (c : Cell) (deed : CellDeed) → lies_in (cell_key c) (run_event run deed) ≡ covers run c
unfolding covers
run_covers (Bytes q lo hi) (Byte o x) deed = key_between o 0 0 0 x q 0 0 0 lo hi ∙ two (q == o) (in_range lo hi x)
run_covers (Bytes q lo hi) (Query o x) deed = key_between o 1 0 0 x q 0 0 0 lo hi ∙ two_left (q == o) (in_range lo hi x)
run_covers (Bytes q lo hi) (Texels o a m x) deed = key_between o 2 (aspect_number a) m x q 0 0 0 lo hi ∙ two_left (q == o) (in_range lo hi x)
run_covers (Bytes q lo hi) (Slice o m x) deed = key_between o 3 0 m x q 0 0 0 lo hi ∙ two_left (q == o) (in_range lo hi x)
run_covers (Queries q lo hi) (Byte o x) deed = key_between o 0 0 0 x q 1 0 0 lo hi ∙ two_left (q == o) (in_range lo hi x)
run_covers (Queries q lo hi) (Query o x) deed = key_between o 1 0 0 x q 1 0 0 lo hi ∙ two (q == o) (in_range lo hi x)
run_covers (Queries q lo hi) (Texels o a m x) deed = key_between o 2 (aspect_number a) m x q 1 0 0 lo hi ∙ two_left (q == o) (in_range lo hi x)
run_covers (Queries q lo hi) (Slice o m x) deed = key_between o 3 0 m x q 1 0 0 lo hi ∙ two_left (q == o) (in_range lo hi x)
run_covers (Layers q b n lo hi) (Byte o x) deed = key_between o 0 0 0 x q 2 (aspect_number b) n lo hi ∙ two_left (q == o) (in_range lo hi x)
run_covers (Layers q b n lo hi) (Query o x) deed = key_between o 1 0 0 x q 2 (aspect_number b) n lo hi ∙ two_left (q == o) (in_range lo hi x)
run_covers (Layers q b n lo hi) (Texels o a m x) deed = key_between o 2 (aspect_number a) m x q 2 (aspect_number b) n lo hi ∙ four (q == o) (aspect_number b == aspect_number a) (n == m) (in_range lo hi x)
run_covers (Layers q b n lo hi) (Slice o m x) deed = key_between o 3 0 m x q 2 (aspect_number b) n lo hi ∙ two_left (q == o) (in_range lo hi x)
run_covers (Slices q n lo hi) (Byte o x) deed = key_between o 0 0 0 x q 3 0 n lo hi ∙ two_left (q == o) (in_range lo hi x)
run_covers (Slices q n lo hi) (Query o x) deed = key_between o 1 0 0 x q 3 0 n lo hi ∙ two_left (q == o) (in_range lo hi x)
run_covers (Slices q n lo hi) (Texels o a m x) deed = key_between o 2 (aspect_number a) m x q 3 0 n lo hi ∙ two_left (q == o) (in_range lo hi x)
run_covers (Slices q n lo hi) (Slice o m x) deed = key_between o 3 0 m x q 3 0 n lo hi ∙ three (q == o) (n == m) (in_range lo hi x)
