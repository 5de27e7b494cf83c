-- A barrier's events fence exactly the cells of its parts.
use Rattle.std.proofs.Common.{◌≡◌, ℕ, suc, ◌<◌, List, [], ◌∷◌, ◌++◌, Bool, true, false, not, ◌&&◌, ◌||◌, ◌==◌, nat_lt, nat_le, refl, ap, ap₂, sym, ◌∙◌, ◌≢◌, ◌⊎◌, inl, inr, arith, if◌then◌else◌}
use Rattle.std.proofs.lemmas.Bool.{cases_order, lt-ltb, le-ltb, le-leb, lt-leb, eq-eqb, ne_eqb, cases_eq}
use Rattle.wg_rows.specs.Rows.{in_range}
use Rattle.wg_rows.specs.Runs.{PartRun, BufferPart, LayerParts, QueryPart, Cell, Byte, Texels, Slice, Query, covers_part, part_of, aspect_number}
use Rattle.wg_check.specs.declared.stories.Access.{Access}
use Rattle.wg_check.specs.declared.events.CellDeed.TheVariants.{Fence}
use Rattle.wg_check.specs.Segments.{Key, KeyEvent, lies_in, key_story}
use Rattle.wg_check.specs.Keys.{key, cell_key, event, bar_events}
use Rattle.wg_check.proofs.Between.{Between, more, two_left, two, four, key_between}

-- all places of one mip
wide : (m x n : ℕ) → Between (m ∷ (x ∷ [])) (n ∷ (0 ∷ [])) (suc n ∷ (0 ∷ [])) ≡ (n == m)
wide m x n = by_order (cases_order m n) (x == 0)
  where
    low : nat_lt x 0 ≡ false
    low = le-ltb x 0 (omega arith)

    by_order : (m ≡ n) ⊎ ((m < n) ⊎ (n < m)) → (s : Bool) → (not (nat_lt m n || ((m == n) && (nat_lt x 0 || (s && false)))) && (nat_lt m (suc n) || ((m == suc n) && (nat_lt x 0 || (s && false))))) ≡ (n == m)
    by_order (inl same) true = rw (le-ltb m n (omega arith), eq-eqb m n same, low, lt-ltb m (suc n) (omega arith), eq-eqb n m (sym same)) refl
    by_order (inl same) false = rw (le-ltb m n (omega arith), eq-eqb m n same, low, lt-ltb m (suc n) (omega arith), eq-eqb n m (sym same)) refl
    by_order (inr (inl less)) s = rw (lt-ltb m n less, ne_eqb n m (λ e. omega (arith, e))) refl
    by_order (inr (inr above)) true = rw (le-ltb m n (omega arith), ne_eqb m n (λ e. omega (arith, e)), low, le-ltb m (suc n) (omega arith), ne_eqb n m (λ e. omega (arith, e))) (last (m == suc n))
      where
        last : (t : Bool) → (t && false) ≡ false
        last true = refl
        last false = refl
    by_order (inr (inr above)) false = rw (le-ltb m n (omega arith), ne_eqb m n (λ e. omega (arith, e)), low, le-ltb m (suc n) (omega arith), ne_eqb n m (λ e. omega (arith, e))) (last (m == suc n))
      where
        last : (t : Bool) → (t && false) ≡ false
        last true = refl
        last false = refl

whole : (o s a m x q t b n : ℕ) → lies_in (key o s a m x) (event (key q t b n 0) (key q t b (suc n) 0) Fence) ≡ ((q == o) && ((t == s) && ((b == a) && (n == m))))
whole o s a m x q t b n =
    more o q (s ∷ (a ∷ (m ∷ (x ∷ [])))) (t ∷ (b ∷ (n ∷ (0 ∷ [])))) (t ∷ (b ∷ (suc n ∷ (0 ∷ []))))
    ∙ ap (λ (c : Bool). (q == o) && c) (more s t (a ∷ (m ∷ (x ∷ []))) (b ∷ (n ∷ (0 ∷ []))) (b ∷ (suc n ∷ (0 ∷ []))) ∙ ap (λ (c : Bool). (t == s) && c) (more a b (m ∷ (x ∷ [])) (n ∷ (0 ∷ [])) (suc n ∷ (0 ∷ [])) ∙ ap (λ (c : Bool). (b == a) && c) (wide m x n)))

-- the story behind a fence, or not
abbrev pub fenced : Key → ℕ → List KeyEvent → Bool → List Access
fenced k e rest b = if b then key_story k (suc e) rest else key_story k e rest

one : (k lo hi : Key) (e : ℕ) (rest : List KeyEvent) (b : Bool) → lies_in k (event lo hi Fence) ≡ b → key_story k e (event lo hi Fence ∷ rest) ≡ fenced k e rest b
one k lo hi e rest b h = ap (fenced k e rest) h

maybe : (k lo hi : Key) (e : ℕ) (rest : List KeyEvent) (there : Bool) (b : Bool) → (there && lies_in k (event lo hi Fence)) ≡ b → key_story k e ((if there then event lo hi Fence ∷ [] else []) ++ rest) ≡ fenced k e rest b
maybe k lo hi e rest true b h = ap (fenced k e rest) h
maybe k lo hi e rest false b h = ap (fenced k e rest) h

none : (t p : Bool) → (t && (p && false)) ≡ false
none true true = refl
none true false = refl
none false p = refl

out : (p r : Bool) → false ≡ ((p && false) && r)
out true r = refl
out false r = refl

off : (p : Bool) → (p && false) ≡ false
off true = refl
off false = refl

least_zero : (lo : ℕ) → nat_le lo 0 ≡ (lo == 0)
least_zero lo = by_zero (cases_eq lo 0)
  where
    by_zero : (lo ≡ 0) ⊎ (lo ≡ 0 → ⊥) → nat_le lo 0 ≡ (lo == 0)
    by_zero (inl same) = le-leb lo 0 (omega arith) ∙ sym (eq-eqb lo 0 same)
    by_zero (inr other) = let ne : lo ≢ 0 = other in lt-leb lo 0 (omega arith) ∙ sym (ne_eqb lo 0 other)

slice_tests : (p b n l h : Bool) → ((b && (l && h)) && (p && n)) ≡ ((p && (b && (n && true))) && (l && h))
slice_tests true true true true h = by_last h
  where
    by_last : (h : Bool) → (h && true) ≡ h
    by_last true = refl
    by_last false = refl
slice_tests true true true false h = refl
slice_tests true true false true true = refl
slice_tests true true false true false = refl
slice_tests true true false false h = refl
slice_tests true false n l h = refl
slice_tests false true n true true = refl
slice_tests false true n true false = refl
slice_tests false true n false h = refl
slice_tests false false n l h = refl

abbrev slices_too : ℕ → ℕ → ℕ → ℕ → ℕ → List KeyEvent
slices_too q b n lo hi = if (b == 0) && ((lo == 0) && nat_lt 0 hi) then event (key q 3 0 n 0) (key q 3 0 (suc n) 0) Fence ∷ [] else []

-- the slices' fence is not on cells of another sort
no_second : (q b n lo hi o s a m x e : ℕ) (rest : List KeyEvent) → lies_in (key o s a m x) (event (key q 3 0 n 0) (key q 3 0 (suc n) 0) Fence) ≡ ((q == o) && false) → key_story (key o s a m x) e (slices_too q b n lo hi ++ rest) ≡ key_story (key o s a m x) e rest
no_second q b n lo hi o s a m x e rest h = maybe (key o s a m x) (key q 3 0 n 0) (key q 3 0 (suc n) 0) e rest ((b == 0) && ((lo == 0) && nat_lt 0 hi)) false (ap (λ (t : Bool). ((b == 0) && ((lo == 0) && nat_lt 0 hi)) && t) h ∙ none ((b == 0) && ((lo == 0) && nat_lt 0 hi)) (q == o))

first_off : (k lo hi : Key) (e : ℕ) (tail : List KeyEvent) (to : List Access) → lies_in k (event lo hi Fence) ≡ false → key_story k e tail ≡ to → key_story k e (event lo hi Fence ∷ tail) ≡ to
first_off k lo hi e tail to h g = ap (λ (t : Bool). if t then key_story k (suc e) tail else key_story k e tail) h ∙ g

pub bar_on : (parts : PartRun) (c : Cell) (e : ℕ) (rest : List KeyEvent) → key_story (cell_key c) e (bar_events parts ++ rest) ≡ fenced (cell_key c) e rest (covers_part parts (part_of c))
unfolding covers_part
bar_on (BufferPart q) (Byte o x) e rest = one (cell_key (Byte o x)) (key q 0 0 0 0) (key q 0 0 1 0) e rest _ (whole o 0 0 0 x q 0 0 0 ∙ two (q == o) true)
bar_on (BufferPart q) (Query o x) e rest = one (cell_key (Query o x)) (key q 0 0 0 0) (key q 0 0 1 0) e rest _ (whole o 1 0 0 x q 0 0 0 ∙ two_left (q == o) true)
bar_on (BufferPart q) (Texels o a m x) e rest = one (cell_key (Texels o a m x)) (key q 0 0 0 0) (key q 0 0 1 0) e rest _ (whole o 2 (aspect_number a) m x q 0 0 0 ∙ two_left (q == o) (in_range 0 1 x))
bar_on (BufferPart q) (Slice o m x) e rest = one (cell_key (Slice o m x)) (key q 0 0 0 0) (key q 0 0 1 0) e rest _ (whole o 3 0 m x q 0 0 0 ∙ two_left (q == o) true)
bar_on (QueryPart q) (Byte o x) e rest = one (cell_key (Byte o x)) (key q 1 0 0 0) (key q 1 0 1 0) e rest _ (whole o 0 0 0 x q 1 0 0 ∙ two_left (q == o) true)
bar_on (QueryPart q) (Query o x) e rest = one (cell_key (Query o x)) (key q 1 0 0 0) (key q 1 0 1 0) e rest _ (whole o 1 0 0 x q 1 0 0 ∙ two (q == o) true)
bar_on (QueryPart q) (Texels o a m x) e rest = one (cell_key (Texels o a m x)) (key q 1 0 0 0) (key q 1 0 1 0) e rest _ (whole o 2 (aspect_number a) m x q 1 0 0 ∙ two_left (q == o) (in_range 0 1 x))
bar_on (QueryPart q) (Slice o m x) e rest = one (cell_key (Slice o m x)) (key q 1 0 0 0) (key q 1 0 1 0) e rest _ (whole o 3 0 m x q 1 0 0 ∙ two_left (q == o) true)
bar_on (LayerParts q b n lo hi) (Byte o x) e rest = first_off (cell_key (Byte o x)) (key q 2 (aspect_number b) n lo) (key q 2 (aspect_number b) n hi) e (slices_too q (aspect_number b) n lo hi ++ rest) _ (key_between o 0 0 0 x q 2 (aspect_number b) n lo hi ∙ off (q == o)) (no_second q (aspect_number b) n lo hi o 0 0 0 x e rest (whole o 0 0 0 x q 3 0 n) ∙ ap (fenced (cell_key (Byte o x)) e rest) (out (q == o) (in_range lo hi 0)))
bar_on (LayerParts q b n lo hi) (Query o x) e rest = first_off (cell_key (Query o x)) (key q 2 (aspect_number b) n lo) (key q 2 (aspect_number b) n hi) e (slices_too q (aspect_number b) n lo hi ++ rest) _ (key_between o 1 0 0 x q 2 (aspect_number b) n lo hi ∙ off (q == o)) (no_second q (aspect_number b) n lo hi o 1 0 0 x e rest (whole o 1 0 0 x q 3 0 n) ∙ ap (fenced (cell_key (Query o x)) e rest) (out (q == o) (in_range lo hi 0)))
bar_on (LayerParts q b n lo hi) (Texels o a m x) e rest =
    ap (λ (t : Bool). if t then key_story (key o 2 (aspect_number a) m x) (suc e) (slices_too q (aspect_number b) n lo hi ++ rest) else key_story (key o 2 (aspect_number a) m x) e (slices_too q (aspect_number b) n lo hi ++ rest)) (key_between o 2 (aspect_number a) m x q 2 (aspect_number b) n lo hi ∙ four (q == o) (aspect_number b == aspect_number a) (n == m) (in_range lo hi x))
    ∙ ap₂ (λ (y z : List Access). if (((q == o) && ((aspect_number b == aspect_number a) && ((n == m) && true))) && in_range lo hi x) then y else z) (no_second q (aspect_number b) n lo hi o 2 (aspect_number a) m x (suc e) rest (whole o 2 (aspect_number a) m x q 3 0 n)) (no_second q (aspect_number b) n lo hi o 2 (aspect_number a) m x e rest (whole o 2 (aspect_number a) m x q 3 0 n))
bar_on (LayerParts q b n lo hi) (Slice o m x) e rest =
    first_off (cell_key (Slice o m x)) (key q 2 (aspect_number b) n lo) (key q 2 (aspect_number b) n hi) e (slices_too q (aspect_number b) n lo hi ++ rest) _ (key_between o 3 0 m x q 2 (aspect_number b) n lo hi ∙ off (q == o))
    (maybe (cell_key (Slice o m x)) (key q 3 0 n 0) (key q 3 0 (suc n) 0) e rest ((aspect_number b == 0) && ((lo == 0) && nat_lt 0 hi)) (((q == o) && ((aspect_number b == 0) && ((n == m) && true))) && (nat_le lo 0 && nat_lt 0 hi))
    (ap (λ (t : Bool). ((aspect_number b == 0) && ((lo == 0) && nat_lt 0 hi)) && t) (whole o 3 0 m x q 3 0 n) ∙ (slice_tests (q == o) (aspect_number b == 0) (n == m) (lo == 0) (nat_lt 0 hi) ∙ ap (λ (l : Bool). ((q == o) && ((aspect_number b == 0) && ((n == m) && true))) && (l && nat_lt 0 hi)) (sym (least_zero lo)))))
