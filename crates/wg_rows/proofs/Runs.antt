-- Runs of parts and cells.
use Rattle.std.proofs.Common.{◌≡◌, ℕ, ◌+◌, ◌<◌, ◌≤◌, List, [], ◌∷◌, Bool, true, false, ◌&&◌, refl, ap, sym, arith, true≢false, nat_le, nat_lt, eqb-true, eq-eqb}
use Rattle.std.proofs.lemmas.Bool.{and_parts, and_from, or_left, le-leb, lt-ltb, leb-true, ltb-true}
use Rattle.wg_rows.specs.Rows.{in_range, list_eq, Sort, Spot, covers_spot, printed, any_row}
use Rattle.wg_rows.specs.Runs.{Aspect, Color, Depth, Stencil, aspect_number, Part, Buffer, Subresource, QuerySet, Cell, Byte, Texels, Slice, Query, PartRun, BufferPart, LayerParts, QueryPart, Cells, Bytes, Layers, Slices, Queries, covers_part, covers, parts_in, cells_in, part_run, cell_run, part_sort, cell_sort, part_spot, cell_spot}
use Rattle.wg_rows.specs.Uses.{Usages, same_set}
use Rattle.wg_rows.proofs.Put.{any, any_numbers, Widens, Respects, list_eq_true, list_eq_refl, printed_any}

-- An aspect is told by its number.
pub aspect_told : (a b : Aspect) → aspect_number a ≡ aspect_number b → a ≡ b
aspect_told Color Color e = refl
aspect_told Depth Depth e = refl
aspect_told Stencil Stencil e = refl
aspect_told a b e = absurd (cc)

-- A set of usages is told by its number.
pub set_told : (a b : Usages) → same_set a b ≡ true → a ≡ b
set_told a b e = ap (λ n. record { 0 = n }) (eqb-true a.0 b.0 e)

pub set_itself : (a : Usages) → same_set a a ≡ true
set_itself a = eq-eqb a.0 a.0 refl

-- Lines with different tags are not one.
pub tags_differ : (b t : Bool) → ((b && false) && t) ≡ true → ⊥
tags_differ true t e = true≢false (sym e)
tags_differ false t e = true≢false (sym e)

pub part_widens : Widens part_sort
part_widens (BufferPart a) (BufferPart x) e = (refl, refl, refl)
part_widens (LayerParts a b c lo hi) (LayerParts x y z lo2 hi2) e = (refl, refl, refl)
part_widens (QueryPart a) (QueryPart x) e = (refl, refl, refl)
part_widens a b e = absurd (tags_differ _ _ e)

pub cell_widens : Widens cell_sort
cell_widens (Bytes a lo hi) b e = (refl, refl, refl)
cell_widens (Layers a x y lo hi) b e = (refl, refl, refl)
cell_widens (Slices a x lo hi) b e = (refl, refl, refl)
cell_widens (Queries a lo hi) b e = (refl, refl, refl)

-- Printed rows cover parts and cells as the rows do.
pub printed_parts_any : {V : Type 0} (same : V → V → Bool) (p : Part) (test : V → Bool) → Respects same test → (rows : List (PartRun × V)) → any_row (λ run. covers_part run p) test (printed part_sort same rows) ≡ any_row (λ run. covers_part run p) test rows
unfolding covers_part
printed_parts_any same p test respects rows = printed_any part_sort same (part_spot p) test part_widens respects rows

pub printed_cells_any : {V : Type 0} (same : V → V → Bool) (c : Cell) (test : V → Bool) → Respects same test → (rows : List (Cells × V)) → any_row (λ run. covers run c) test (printed cell_sort same rows) ≡ any_row (λ run. covers run c) test rows
unfolding covers
printed_cells_any same c test respects rows = printed_any cell_sort same (cell_spot c) test cell_widens respects rows

-- A run of one covers that one, and no other.
alone : (n : ℕ) → in_range n (n + 1) n ≡ true
alone n = and_from (nat_le n n) (nat_lt n (n + 1)) (le-leb n n (omega arith)) (lt-ltb n (n + 1) (omega arith))

alone_is : (n m : ℕ) → in_range n (n + 1) m ≡ true → n ≡ m
alone_is n m e =
    let tests : (nat_le n m ≡ true) × (nat_lt m (n + 1) ≡ true) = and_parts (nat_le n m) (nat_lt m (n + 1)) e in
    let at_least : n ≤ m = leb-true n m tests.0 in
    let below_next : m < n + 1 = ltb-true m (n + 1) tests.1 in
    omega arith

at_spot : {R : Type 0} (sort : Sort R) (run : R) (spot : Spot) → covers_spot sort run spot ≡ true → (sort.line run ≡ spot.0) × (in_range (sort.lo run) (sort.hi run) spot.1 ≡ true)
at_spot sort run spot e =
    let line_and_range : (list_eq (sort.line run) spot.0 ≡ true) × (in_range (sort.lo run) (sort.hi run) spot.1 ≡ true) = and_parts (list_eq (sort.line run) spot.0) (in_range (sort.lo run) (sort.hi run) spot.1) e in
    (list_eq_true (sort.line run) spot.0 line_and_range.0, line_and_range.1)

pub part_self : (p : Part) → covers_part (part_run p) p ≡ true
unfolding covers_part
part_self (Buffer a) = and_from (list_eq (a ∷ (0 ∷ [])) (a ∷ (0 ∷ []))) true (list_eq_refl (a ∷ (0 ∷ []))) refl
part_self (Subresource a b c n) = and_from (list_eq (a ∷ (2 ∷ (aspect_number b ∷ (c ∷ [])))) (a ∷ (2 ∷ (aspect_number b ∷ (c ∷ []))))) (in_range n (n + 1) n) (list_eq_refl (a ∷ (2 ∷ (aspect_number b ∷ (c ∷ []))))) (alone n)
part_self (QuerySet a) = and_from (list_eq (a ∷ (1 ∷ [])) (a ∷ (1 ∷ []))) true (list_eq_refl (a ∷ (1 ∷ []))) refl

pub single_part : (q p : Part) → covers_part (part_run q) p ≡ true → q ≡ p
unfolding covers_part
single_part (Buffer a) (Buffer s) e = let same_line : a ∷ (0 ∷ []) ≡ s ∷ (0 ∷ []) = (at_spot part_sort (BufferPart a) (part_spot (Buffer s)) e).0 in cc
single_part (Subresource a b c n) (Subresource s t u m) e =
    let found : (a ∷ (2 ∷ (aspect_number b ∷ (c ∷ []))) ≡ s ∷ (2 ∷ (aspect_number t ∷ (u ∷ [])))) × (in_range n (n + 1) m ≡ true) = at_spot part_sort (LayerParts a b c n (n + 1)) (part_spot (Subresource s t u m)) e in
    let same_place : n ≡ m = alone_is n m found.1 in
    let same_line : a ∷ (2 ∷ (aspect_number b ∷ (c ∷ []))) ≡ s ∷ (2 ∷ (aspect_number t ∷ (u ∷ []))) = found.0 in
    let aspects : b ≡ t = aspect_told b t (cc) in
    cc
single_part (QuerySet a) (QuerySet s) e = let same_line : a ∷ (1 ∷ []) ≡ s ∷ (1 ∷ []) = (at_spot part_sort (QueryPart a) (part_spot (QuerySet s)) e).0 in cc
single_part q p e = absurd (tags_differ _ _ e)

pub cell_self : (c : Cell) → covers (cell_run c) c ≡ true
unfolding covers
cell_self (Byte a n) = and_from (list_eq (a ∷ (0 ∷ [])) (a ∷ (0 ∷ []))) (in_range n (n + 1) n) (list_eq_refl (a ∷ (0 ∷ []))) (alone n)
cell_self (Texels a b c n) = and_from (list_eq (a ∷ (2 ∷ (aspect_number b ∷ (c ∷ [])))) (a ∷ (2 ∷ (aspect_number b ∷ (c ∷ []))))) (in_range n (n + 1) n) (list_eq_refl (a ∷ (2 ∷ (aspect_number b ∷ (c ∷ []))))) (alone n)
cell_self (Slice a b n) = and_from (list_eq (a ∷ (3 ∷ (b ∷ []))) (a ∷ (3 ∷ (b ∷ [])))) (in_range n (n + 1) n) (list_eq_refl (a ∷ (3 ∷ (b ∷ [])))) (alone n)
cell_self (Query a n) = and_from (list_eq (a ∷ (1 ∷ [])) (a ∷ (1 ∷ []))) (in_range n (n + 1) n) (list_eq_refl (a ∷ (1 ∷ []))) (alone n)

pub single_cell : (d c : Cell) → covers (cell_run d) c ≡ true → d ≡ c
unfolding covers
single_cell (Byte a n) (Byte s m) e =
    let found : (a ∷ (0 ∷ []) ≡ s ∷ (0 ∷ [])) × (in_range n (n + 1) m ≡ true) = at_spot cell_sort (Bytes a n (n + 1)) (cell_spot (Byte s m)) e in
    let same_place : n ≡ m = alone_is n m found.1 in
    let same_line : a ∷ (0 ∷ []) ≡ s ∷ (0 ∷ []) = found.0 in
    cc
single_cell (Texels a b c n) (Texels s t u m) e =
    let found : (a ∷ (2 ∷ (aspect_number b ∷ (c ∷ []))) ≡ s ∷ (2 ∷ (aspect_number t ∷ (u ∷ [])))) × (in_range n (n + 1) m ≡ true) = at_spot cell_sort (Layers a b c n (n + 1)) (cell_spot (Texels s t u m)) e in
    let same_place : n ≡ m = alone_is n m found.1 in
    let same_line : a ∷ (2 ∷ (aspect_number b ∷ (c ∷ []))) ≡ s ∷ (2 ∷ (aspect_number t ∷ (u ∷ []))) = found.0 in
    let aspects : b ≡ t = aspect_told b t (cc) in
    cc
single_cell (Slice a b n) (Slice s t m) e =
    let found : (a ∷ (3 ∷ (b ∷ [])) ≡ s ∷ (3 ∷ (t ∷ []))) × (in_range n (n + 1) m ≡ true) = at_spot cell_sort (Slices a b n (n + 1)) (cell_spot (Slice s t m)) e in
    let same_place : n ≡ m = alone_is n m found.1 in
    let same_line : a ∷ (3 ∷ (b ∷ [])) ≡ s ∷ (3 ∷ (t ∷ [])) = found.0 in
    cc
single_cell (Query a n) (Query s m) e =
    let found : (a ∷ (1 ∷ []) ≡ s ∷ (1 ∷ [])) × (in_range n (n + 1) m ≡ true) = at_spot cell_sort (Queries a n (n + 1)) (cell_spot (Query s m)) e in
    let same_place : n ≡ m = alone_is n m found.1 in
    let same_line : a ∷ (1 ∷ []) ≡ s ∷ (1 ∷ []) = found.0 in
    cc
single_cell d c e = absurd (tags_differ _ _ e)

-- What a run covers is among what is in it.
pub part_in : (run : PartRun) (p : Part) → covers_part run p ≡ true → any (λ q. covers_part (part_run q) p) (parts_in run) ≡ true
unfolding covers_part
part_in (BufferPart a) p e = or_left (covers_spot part_sort (BufferPart a) (part_spot p)) false e
part_in (LayerParts a b c lo hi) (Subresource s t u n) e =
    let line_and_range : (list_eq (a ∷ (2 ∷ (aspect_number b ∷ (c ∷ [])))) (s ∷ (2 ∷ (aspect_number t ∷ (u ∷ [])))) ≡ true) × (in_range lo hi n ≡ true) = and_parts (list_eq (a ∷ (2 ∷ (aspect_number b ∷ (c ∷ [])))) (s ∷ (2 ∷ (aspect_number t ∷ (u ∷ []))))) (in_range lo hi n) e in
    any_numbers (λ q. covers_spot part_sort (part_run q) (part_spot (Subresource s t u n))) (Subresource a b c) lo hi n line_and_range.1 (and_from (list_eq (a ∷ (2 ∷ (aspect_number b ∷ (c ∷ [])))) (s ∷ (2 ∷ (aspect_number t ∷ (u ∷ []))))) (in_range n (n + 1) n) line_and_range.0 (alone n))
part_in (QueryPart a) p e = or_left (covers_spot part_sort (QueryPart a) (part_spot p)) false e
part_in run p e = absurd (tags_differ _ _ e)

pub cell_in : (run : Cells) (c : Cell) → covers run c ≡ true → any (λ d. covers (cell_run d) c) (cells_in run) ≡ true
unfolding covers
cell_in (Bytes a lo hi) (Byte s n) e =
    let line_and_range : (list_eq (a ∷ (0 ∷ [])) (s ∷ (0 ∷ [])) ≡ true) × (in_range lo hi n ≡ true) = and_parts (list_eq (a ∷ (0 ∷ [])) (s ∷ (0 ∷ []))) (in_range lo hi n) e in
    any_numbers (λ d. covers_spot cell_sort (cell_run d) (cell_spot (Byte s n))) (Byte a) lo hi n line_and_range.1 (and_from (list_eq (a ∷ (0 ∷ [])) (s ∷ (0 ∷ []))) (in_range n (n + 1) n) line_and_range.0 (alone n))
cell_in (Layers a b c lo hi) (Texels s t u n) e =
    let line_and_range : (list_eq (a ∷ (2 ∷ (aspect_number b ∷ (c ∷ [])))) (s ∷ (2 ∷ (aspect_number t ∷ (u ∷ [])))) ≡ true) × (in_range lo hi n ≡ true) = and_parts (list_eq (a ∷ (2 ∷ (aspect_number b ∷ (c ∷ [])))) (s ∷ (2 ∷ (aspect_number t ∷ (u ∷ []))))) (in_range lo hi n) e in
    any_numbers (λ d. covers_spot cell_sort (cell_run d) (cell_spot (Texels s t u n))) (Texels a b c) lo hi n line_and_range.1 (and_from (list_eq (a ∷ (2 ∷ (aspect_number b ∷ (c ∷ [])))) (s ∷ (2 ∷ (aspect_number t ∷ (u ∷ []))))) (in_range n (n + 1) n) line_and_range.0 (alone n))
cell_in (Slices a b lo hi) (Slice s t n) e =
    let line_and_range : (list_eq (a ∷ (3 ∷ (b ∷ []))) (s ∷ (3 ∷ (t ∷ []))) ≡ true) × (in_range lo hi n ≡ true) = and_parts (list_eq (a ∷ (3 ∷ (b ∷ []))) (s ∷ (3 ∷ (t ∷ [])))) (in_range lo hi n) e in
    any_numbers (λ d. covers_spot cell_sort (cell_run d) (cell_spot (Slice s t n))) (Slice a b) lo hi n line_and_range.1 (and_from (list_eq (a ∷ (3 ∷ (b ∷ []))) (s ∷ (3 ∷ (t ∷ [])))) (in_range n (n + 1) n) line_and_range.0 (alone n))
cell_in (Queries a lo hi) (Query s n) e =
    let line_and_range : (list_eq (a ∷ (1 ∷ [])) (s ∷ (1 ∷ [])) ≡ true) × (in_range lo hi n ≡ true) = and_parts (list_eq (a ∷ (1 ∷ [])) (s ∷ (1 ∷ []))) (in_range lo hi n) e in
    any_numbers (λ d. covers_spot cell_sort (cell_run d) (cell_spot (Query s n))) (Query a) lo hi n line_and_range.1 (and_from (list_eq (a ∷ (1 ∷ [])) (s ∷ (1 ∷ []))) (in_range n (n + 1) n) line_and_range.0 (alone n))
cell_in run c e = absurd (tags_differ _ _ e)
