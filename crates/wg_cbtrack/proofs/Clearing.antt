-- The accesses of a clear tell its uses, and what it clears is what steps need.
use Rattle.std.proofs.Common.{◌≡◌, ℕ, ◌<◌, ◌≤◌, List, [], ◌∷◌, ◌++◌, map, flat_map, Bool, true, false, not, ◌&&◌, ◌||◌, Option, Some, None, refl, ap, ap₂, sym, ◌∙◌, ◌⊎◌, inl, inr, arith, true≢false, nat_le, nat_lt, append-nil}
use Rattle.std.proofs.lemmas.Bool.{or_cases, or_left, or_right, and_parts, and_from, le-leb, lt-ltb}
use Rattle.wg_rows.specs.Rows.{Sort, Spot, covers_spot, in_range, list_eq, printed, EachRow, Apart, has_value, Alike, Fits, AllFit, put, put_at, joined, run_before}
use Rattle.wg_rows.specs.Runs.{Color, aspect_number, Part, Buffer, Subresource, QuerySet, PartRun, BufferPart, LayerParts, QueryPart, Cells, Bytes, Layers, Slices, Queries, Cell, Byte, Texels, Slice, Query, part_of, part_run, cell_run, cells_in, part_sort, cell_sort, part_spot, cell_spot, part_lo, part_hi, cell_lo, cell_hi, covers_part, covers, run_part}
use Rattle.wg_rows.specs.Uses.{AccessKind, Write, Usages, clear_usage, same_set, same_kind, printed_accesses}
use Rattle.wg_orders.specs.Steps.{Step, StepPlace, reads, writes}
use Rattle.wg_orders.specs.Trace.{Item, is_unset, steps_of, needs, cells_of, to_clear, clear_of}
use Rattle.wg_cbtrack.specs.Cleared.{uses_of, written}
use Rattle.wg_rows.proofs.Put.{any, any_append, Each_value, printed_any, printed_value, list_eq_refl}
use Rattle.wg_rows.proofs.Runs.{aspect_told, cell_widens, part_widens, cell_self, part_self, single_cell, single_part}
use Rattle.wg_rows.proofs.Printed.{printed_apart, respects}
use Rattle.wg_rows.proofs.Told.{accesses_tell, uses_tell, uses_printed}
use Rattle.wg_orders.proofs.Clears.{has_cell, write_rows, clear_rows, each_write}
use Rattle.wg_orders.proofs.Built.{step_read_among}
use Rattle.wg_rows.proofs.Sets.{covered, part_at}
use Rattle.wg_init.proofs.UnsetCells.{write_has, write_fit, filter_has}

-- A run of cells that covers a cell lies in a run of parts that covers its part.
part_covers : (run : Cells) (c : Cell) → covers_spot cell_sort run (cell_spot c) ≡ true → covers_spot part_sort (run_part run) (part_spot (part_of c)) ≡ true
part_covers (Bytes o lo hi) (Byte a n) e = and_from (list_eq (o ∷ (0 ∷ [])) (a ∷ (0 ∷ []))) true (and_parts (list_eq (o ∷ (0 ∷ [])) (a ∷ (0 ∷ []))) (in_range lo hi n) e).0 refl
part_covers (Layers o x m lo hi) (Texels a b d n) e = e
part_covers (Slices o m lo hi) (Slice a d n) e = let h : (o ∷ (3 ∷ (m ∷ [])) ≡ a ∷ (3 ∷ (d ∷ []))) × (lo ≤ n) × (n < hi) = covered cell_sort (Slices o m lo hi) (cell_spot (Slice a d n)) e in same_slice o m a d (cc) (cc)
  where
    same_slice : (o m a d : ℕ) → o ≡ a → m ≡ d → covers_spot part_sort (LayerParts o Color m 0 1) (part_spot (Subresource a Color d 0)) ≡ true
    same_slice o m a d p q = ap₂ (λ x y. covers_spot part_sort (LayerParts o Color m 0 1) (part_spot (Subresource x Color y 0))) (sym p) (sym q) ∙ and_from (list_eq (o ∷ (2 ∷ (0 ∷ (m ∷ [])))) (o ∷ (2 ∷ (0 ∷ (m ∷ []))))) true (list_eq_refl (o ∷ (2 ∷ (0 ∷ (m ∷ []))))) refl
part_covers (Queries o lo hi) (Query a n) e = and_from (list_eq (o ∷ (1 ∷ [])) (a ∷ (1 ∷ []))) true (and_parts (list_eq (o ∷ (1 ∷ [])) (a ∷ (1 ∷ []))) (in_range lo hi n) e).0 refl
part_covers run c e = absurd (tags _ _ e)
  where
    tags : (b t : Bool) → ((b && false) && t) ≡ true → ⊥
    tags true t e = true≢false (sym e)
    tags false t e = true≢false (sym e)

-- A part that the parts of a run cover has a cell in the run.
record Witness (run : Cells) (p : Part) : Type 0 where
  cell : Cell
  inside : covers_spot cell_sort run (cell_spot cell) ≡ true
  part : part_of cell ≡ p

in_line : (line other : List ℕ) (lo hi n : ℕ) → line ≡ other → lo ≤ n → n < hi → (list_eq line other && in_range lo hi n) ≡ true
in_line line other lo hi n e l h = and_from (list_eq line other) (in_range lo hi n) (ap (list_eq line) (sym e) ∙ list_eq_refl line) (and_from (nat_le lo n) (nat_lt n hi) (le-leb lo n l) (lt-ltb n hi h))

witness : (run : Cells) (p : Part) → cell_lo run < cell_hi run → covers_spot part_sort (run_part run) (part_spot p) ≡ true → Witness run p
witness (Bytes o lo hi) (Buffer a) full e = let h : (o ∷ (0 ∷ []) ≡ a ∷ (0 ∷ [])) × (0 ≤ 0) × (0 < 1) = covered part_sort (BufferPart o) (part_spot (Buffer a)) e in record { cell = Byte o lo; inside = in_line (o ∷ (0 ∷ [])) (o ∷ (0 ∷ [])) lo hi lo refl (omega arith) full; part = cc }
witness (Layers o x m lo hi) (Subresource a b d n) full e = record { cell = Texels a b d n; inside = e; part = refl }
witness (Slices o m lo hi) (Subresource a b d n) full e = let h : (o ∷ (2 ∷ (0 ∷ (m ∷ []))) ≡ a ∷ (2 ∷ (aspect_number b ∷ (d ∷ [])))) × (0 ≤ n) × (n < 1) = covered part_sort (LayerParts o Color m 0 1) (part_spot (Subresource a b d n)) e in let z : 0 ≡ n = omega (arith, h.2) in let aspects : Color ≡ b = aspect_told Color b (cc) in record { cell = Slice o m lo; inside = in_line (o ∷ (3 ∷ (m ∷ []))) (o ∷ (3 ∷ (m ∷ []))) lo hi lo refl (omega arith) full; part = cc }
witness (Queries o lo hi) (QuerySet a) full e = let h : (o ∷ (1 ∷ []) ≡ a ∷ (1 ∷ [])) × (0 ≤ 0) × (0 < 1) = covered part_sort (QueryPart o) (part_spot (QuerySet a)) e in record { cell = Query o lo; inside = in_line (o ∷ (1 ∷ [])) (o ∷ (1 ∷ [])) lo hi lo refl (omega arith) full; part = cc }
witness run p full e = absurd (tags _ _ e)
  where
    tags : (b t : Bool) → ((b && false) && t) ≡ true → ⊥
    tags true t e = true≢false (sym e)
    tags false t e = true≢false (sym e)

abbrev has_part : Part → List (Cells × AccessKind) → Bool
has_part p rows = any (λ row. covers_spot part_sort (run_part row.0) (part_spot p)) rows

abbrev has_at : Cell → List (Cells × AccessKind) → Bool
has_at c rows = any (λ row. covers_spot cell_sort row.0 (cell_spot c)) rows

part_from : (rows : List (Cells × AccessKind)) (c : Cell) → has_at c rows ≡ true → has_part (part_of c) rows ≡ true
part_from [] c e = absurd (true≢false (sym e))
part_from (x ∷ xs) c e = by_case (or_cases (covers_spot cell_sort x.0 (cell_spot c)) (has_at c xs) e) (part_from xs c)
  where
    by_case : (covers_spot cell_sort x.0 (cell_spot c) ≡ true) ⊎ (has_at c xs ≡ true) → (has_at c xs ≡ true → has_part (part_of c) xs ≡ true) → (covers_spot part_sort (run_part x.0) (part_spot (part_of c)) || has_part (part_of c) xs) ≡ true
    by_case (inl k) rest = or_left (covers_spot part_sort (run_part x.0) (part_spot (part_of c))) (has_part (part_of c) xs) (part_covers x.0 c k)
    by_case (inr k) rest = or_right (covers_spot part_sort (run_part x.0) (part_spot (part_of c))) (has_part (part_of c) xs) (rest k)

record Found (p : Part) (rows : List (Cells × AccessKind)) : Type 0 where
  cell : Cell
  inside : has_at cell rows ≡ true
  part : part_of cell ≡ p

found_from : (rows : List (Cells × AccessKind)) (p : Part) → Apart cell_sort rows → has_part p rows ≡ true → Found p rows
found_from [] p a e = absurd (true≢false (sym e))
found_from (x ∷ xs) p a e = by_case (or_cases (covers_spot part_sort (run_part x.0) (part_spot p)) (has_part p xs) e) (found_from xs p a.2)
  where
    by_case : (covers_spot part_sort (run_part x.0) (part_spot p) ≡ true) ⊎ (has_part p xs ≡ true) → (has_part p xs ≡ true → Found p xs) → Found p (x ∷ xs)
    by_case (inl k) rest = let w : Witness x.0 p = witness x.0 p a.0 k in record { cell = w.cell; inside = or_left (covers_spot cell_sort x.0 (cell_spot w.cell)) (has_at w.cell xs) w.inside; part = w.part }
    by_case (inr k) rest = let f : Found p xs = rest k in record { cell = f.cell; inside = or_right (covers_spot cell_sort x.0 (cell_spot f.cell)) (has_at f.cell xs) f.inside; part = f.part }

-- The rows of a clear have its cells.
written_at : (c : Cell) (rows : List (Cells × AccessKind)) → Each_value Write rows → has_at c rows ≡ has_value cell_sort same_kind (cell_spot c) Write rows
written_at c [] h = refl
written_at c (x ∷ xs) h = ap₂ ◌||◌ (sym (ap (λ k. covers_spot cell_sort x.0 (cell_spot c) && same_kind Write k) h.0 ∙ and_true (covers_spot cell_sort x.0 (cell_spot c)))) (written_at c xs h.1)
  where
    and_true : (b : Bool) → (b && true) ≡ b
    and_true true = refl
    and_true false = refl

rows_have : (cells : List Cell) (c : Cell) → has_at c (printed_accesses (write_rows cells)) ≡ has_cell c cells
rows_have cells c =
    written_at c (printed_accesses (write_rows cells)) (printed_value cell_sort same_kind Write (write_rows cells) (each_write cells))
    ∙ (printed_any cell_sort same_kind (cell_spot c) (same_kind Write) cell_widens (respects cell_sort same_kind accesses_tell Write) (write_rows cells)
    ∙ (write_has cells c Write ∙ and_true (has_cell c cells)))
  where
    and_true : (b : Bool) → (b && true) ≡ b
    and_true true = refl
    and_true false = refl

-- whether a part has one of the cells
abbrev in_parts : Part → List Cell → Bool
in_parts p cells = any (λ c. covers_spot part_sort (part_run (part_of c)) (part_spot p)) cells

parts_of : (cells : List Cell) (c : Cell) → has_cell c cells ≡ true → in_parts (part_of c) cells ≡ true
unfolding covers_part
parts_of [] c e = absurd (true≢false (sym e))
parts_of (d ∷ cells) c e = by_case (or_cases (covers (cell_run d) c) (has_cell c cells) e) (parts_of cells c)
  where
    by_case : (covers (cell_run d) c ≡ true) ⊎ (has_cell c cells ≡ true) → (has_cell c cells ≡ true → in_parts (part_of c) cells ≡ true) → (covers_spot part_sort (part_run (part_of d)) (part_spot (part_of c)) || in_parts (part_of c) cells) ≡ true
    by_case (inl k) rest = or_left (covers_spot part_sort (part_run (part_of d)) (part_spot (part_of c))) (in_parts (part_of c) cells) (ap (λ x. covers_spot part_sort (part_run (part_of x)) (part_spot (part_of c))) (single_cell d c k) ∙ part_self (part_of c))
    by_case (inr k) rest = or_right (covers_spot part_sort (part_run (part_of d)) (part_spot (part_of c))) (in_parts (part_of c) cells) (rest k)

record Cell_in (p : Part) (cells : List Cell) : Type 0 where
  cell : Cell
  inside : has_cell cell cells ≡ true
  part : part_of cell ≡ p

cell_of : (cells : List Cell) (p : Part) → in_parts p cells ≡ true → Cell_in p cells
unfolding covers_part
cell_of [] p e = absurd (true≢false (sym e))
cell_of (d ∷ cells) p e = by_case (or_cases (covers_spot part_sort (part_run (part_of d)) (part_spot p)) (in_parts p cells) e) (cell_of cells p)
  where
    by_case : (covers_spot part_sort (part_run (part_of d)) (part_spot p) ≡ true) ⊎ (in_parts p cells ≡ true) → (in_parts p cells ≡ true → Cell_in p cells) → Cell_in p (d ∷ cells)
    by_case (inl k) rest = record { cell = d; inside = or_left (covers (cell_run d) d) (has_cell d cells) (cell_self d); part = single_part (part_of d) p k }
    by_case (inr k) rest = let f : Cell_in p cells = rest k in record { cell = f.cell; inside = or_right (covers (cell_run d) f.cell) (has_cell f.cell cells) f.inside; part = f.part }

both_ways : (a b : Bool) → (a ≡ true → b ≡ true) → (b ≡ true → a ≡ true) → a ≡ b
both_ways true b f g = sym (f refl)
both_ways false true f g = g refl
both_ways false false f g = refl

same_parts : (cells : List Cell) (p : Part) → has_part p (printed_accesses (write_rows cells)) ≡ in_parts p cells
same_parts cells p = both_ways (has_part p (printed_accesses (write_rows cells))) (in_parts p cells) (λ e. go (found_from (printed_accesses (write_rows cells)) p (printed_apart cell_sort same_kind accesses_tell (write_rows cells) (write_fit cells)) e)) (λ e. back (cell_of cells p e))
  where
    go : Found p (printed_accesses (write_rows cells)) → in_parts p cells ≡ true
    go f = ap (λ q. in_parts q cells) (sym f.part) ∙ parts_of cells f.cell (sym (rows_have cells f.cell) ∙ f.inside)

    back : Cell_in p cells → has_part p (printed_accesses (write_rows cells)) ≡ true
    back f = ap (λ q. has_part q (printed_accesses (write_rows cells))) (sym f.part) ∙ part_from (printed_accesses (write_rows cells)) f.cell (rows_have cells f.cell ∙ f.inside)

-- Rows of one value.
one_value : {A : Type 0} (run : A → PartRun) (xs : List A) (spot : Spot) (v : Usages) → has_value part_sort same_set spot v (map (λ x. (run x, clear_usage)) xs) ≡ (any (λ x. covers_spot part_sort (run x) spot) xs && (same_set v clear_usage))
one_value run [] spot v = refl
one_value run (x ∷ xs) spot v = ap (λ t. (covers_spot part_sort (run x) spot && (same_set v clear_usage)) || t) (one_value run xs spot v) ∙ share (covers_spot part_sort (run x) spot) (any (λ x. covers_spot part_sort (run x) spot) xs) (same_set v clear_usage)
  where
    share : (a b c : Bool) → ((a && c) || (b && c)) ≡ ((a || b) && c)
    share true b true = refl
    share true true false = refl
    share true false false = refl
    share false b c = refl

one_fit : {A : Type 0} (run : A → PartRun) (xs : List A) → EachRow (λ x. part_lo (run x) < part_hi (run x)) xs → AllFit part_sort (map (λ x. (run x, clear_usage)) xs)
one_fit run [] h = tt
one_fit {A} run (x ∷ xs) h = (h.0, fits xs, one_fit run xs h.1)
  where
    fits : (ys : List A) → EachRow (Fits part_sort (run x, clear_usage)) (map (λ x. (run x, clear_usage)) ys)
    fits [] = tt
    fits (y ∷ ys) = (λ spot e k. refl, fits ys)

full_parts : (rows : List (Cells × AccessKind)) → Apart cell_sort rows → EachRow (λ row. part_lo (run_part row.0) < part_hi (run_part row.0)) rows
full_parts [] a = tt
full_parts (x ∷ xs) a = (one x.0 a.0, full_parts xs a.2)
  where
    one : (run : Cells) → cell_lo run < cell_hi run → part_lo (run_part run) < part_hi (run_part run)
    one (Bytes o lo hi) l = omega arith
    one (Layers o x m lo hi) l = l
    one (Slices o m lo hi) l = omega arith
    one (Queries o lo hi) l = omega arith

full_cells : (cells : List Cell) → EachRow (λ c. part_lo (part_run (part_of c)) < part_hi (part_run (part_of c))) cells
full_cells [] = tt
full_cells (c ∷ cells) = (one (part_of c), full_cells cells)
  where
    one : (p : Part) → part_lo (part_run p) < part_hi (part_run p)
    one (Buffer a) = omega arith
    one (Subresource a b d n) = omega arith
    one (QuerySet a) = omega arith

alike_at_parts : (xs ys : List (PartRun × Usages)) → ((p : Part) (v : Usages) → has_value part_sort same_set (part_spot p) v xs ≡ has_value part_sort same_set (part_spot p) v ys) → Alike part_sort same_set xs ys
alike_at_parts xs ys h spot v = by_values (has_value part_sort same_set spot v xs) (has_value part_sort same_set spot v ys) refl refl
  where
    spot_of : (rows : List (PartRun × Usages)) → has_value part_sort same_set spot v rows ≡ true → (p : Part) × (part_spot p ≡ spot)
    spot_of [] e = absurd (true≢false (sym e))
    spot_of (x ∷ xs) e = by_case (or_cases (covers_spot part_sort x.0 spot && (same_set v x.1)) (has_value part_sort same_set spot v xs) e) (spot_of xs)
      where
        by_case : ((covers_spot part_sort x.0 spot && (same_set v x.1)) ≡ true) ⊎ (has_value part_sort same_set spot v xs ≡ true) → (has_value part_sort same_set spot v xs ≡ true → (p : Part) × (part_spot p ≡ spot)) → (p : Part) × (part_spot p ≡ spot)
        by_case (inl k) rest = part_at x.0 spot (and_parts (covers_spot part_sort x.0 spot) (same_set v x.1) k).0
        by_case (inr k) rest = rest k

    at_part : (p : Part) × (part_spot p ≡ spot) → has_value part_sort same_set spot v xs ≡ has_value part_sort same_set spot v ys
    at_part found = ap (λ s. has_value part_sort same_set s v xs) (sym found.1) ∙ (h found.0 v ∙ ap (λ s. has_value part_sort same_set s v ys) found.1)

    by_values : (a b : Bool) → has_value part_sort same_set spot v xs ≡ a → has_value part_sort same_set spot v ys ≡ b → has_value part_sort same_set spot v xs ≡ has_value part_sort same_set spot v ys
    by_values true b e f = at_part (spot_of xs e)
    by_values false true e f = at_part (spot_of ys f)
    by_values false false e f = e ∙ sym f

-- The uses of a clear are those of its accesses.
pub clear_uses : (place : StepPlace) (cells : List Cell) → uses_of (clear_of place cells).accesses ≡ (clear_of place cells).uses
clear_uses place cells = uses_printed (printed part_sort same_set (map (λ row. (run_part row.0, clear_usage)) (printed_accesses (write_rows cells)))) (clear_rows cells) (one_fit (λ c. part_run (part_of c)) cells (full_cells cells)) (printed_apart part_sort same_set uses_tell (map (λ row. (run_part row.0, clear_usage)) (printed_accesses (write_rows cells))) (one_fit (λ row. run_part row.0) (printed_accesses (write_rows cells)) (full_parts (printed_accesses (write_rows cells)) (printed_apart cell_sort same_kind accesses_tell (write_rows cells) (write_fit cells))))) (alike_at_parts (printed part_sort same_set (map (λ row. (run_part row.0, clear_usage)) (printed_accesses (write_rows cells)))) (clear_rows cells) (λ p v. printed_any part_sort same_set (part_spot p) (same_set v) part_widens (respects part_sort same_set uses_tell v) (map (λ row. (run_part row.0, clear_usage)) (printed_accesses (write_rows cells))) ∙ (one_value (λ row. run_part row.0) (printed_accesses (write_rows cells)) (part_spot p) v ∙ (ap (λ t. t && (same_set v clear_usage)) (same_parts cells p) ∙ sym (one_value (λ c. part_run (part_of c)) cells (part_spot p) v)))))

-- What steps need is among their cells.
needs_among : (steps : List Step) (c : Cell) → needs steps c ≡ true → has_cell c (cells_of steps) ≡ true
needs_among [] c e = absurd (true≢false (sym e))
needs_among (s ∷ steps) c e = any_append (λ d. covers (cell_run d) c) (flat_map (λ row. cells_in row.0) s.accesses) (cells_of steps) ∙ by_case (or_cases (reads s c) (not (writes s c) && needs steps c) e) (needs_among steps c)
  where
    by_case : (reads s c ≡ true) ⊎ ((not (writes s c) && needs steps c) ≡ true) → (needs steps c ≡ true → has_cell c (cells_of steps) ≡ true) → (has_cell c (flat_map (λ row. cells_in row.0) s.accesses) || has_cell c (cells_of steps)) ≡ true
    by_case (inl r) rest = or_left (has_cell c (flat_map (λ row. cells_in row.0) s.accesses)) (has_cell c (cells_of steps)) (ap (has_cell c) (sym (append-nil (flat_map (λ row. cells_in row.0) s.accesses))) ∙ step_read_among s c r)
    by_case (inr n) rest = or_right (has_cell c (flat_map (λ row. cells_in row.0) s.accesses)) (has_cell c (cells_of steps)) (rest (and_parts (not (writes s c)) (needs steps c) n).1)

-- What a clear clears: the cells that are needed and unset.
pub to_clear_needs : (trace : List Item) (steps : List Step) (c : Cell) → has_cell c (to_clear trace steps) ≡ (needs steps c && is_unset (steps_of trace) c)
to_clear_needs trace steps c = filter_has (λ c. needs steps c && is_unset (steps_of trace) c) (cells_of steps) c ∙ by_needs (needs steps c) refl
  where
    and_true : (b : Bool) → (b && true) ≡ b
    and_true true = refl
    and_true false = refl

    by_needs : (n : Bool) → needs steps c ≡ n → ((n && is_unset (steps_of trace) c) && has_cell c (cells_of steps)) ≡ (n && is_unset (steps_of trace) c)
    by_needs true e = ap (λ b. is_unset (steps_of trace) c && b) (needs_among steps c e) ∙ and_true (is_unset (steps_of trace) c)
    by_needs false e = refl

-- What steps write and need, with one more.
pub written_more : (c : Cell) (steps : List Step) (s : Step) → written (steps ++ s ∷ []) c ≡ (writes s c || written steps c)
written_more c [] s = refl
written_more c (t ∷ steps) s = ap (λ b. writes t c || b) (written_more c steps s) ∙ swap (writes t c) (writes s c) (written steps c)
  where
    swap : (a b d : Bool) → (a || (b || d)) ≡ (b || (a || d))
    swap true true d = refl
    swap true false d = refl
    swap false b d = refl

pub needs_more : (c : Cell) (steps : List Step) (s : Step) → needs (steps ++ s ∷ []) c ≡ (needs steps c || (not (written steps c) && reads s c))
needs_more c [] s = by_tests (reads s c) (writes s c)
  where
    by_tests : (r w : Bool) → (r || (not w && false)) ≡ r
    by_tests true w = refl
    by_tests false true = refl
    by_tests false false = refl
needs_more c (t ∷ steps) s = ap (λ b. reads t c || (not (writes t c) && b)) (needs_more c steps s) ∙ by_tests (reads t c) (writes t c) (needs steps c) (written steps c) (reads s c)
  where
    by_tests : (r w n x y : Bool) → (r || (not w && (n || (not x && y)))) ≡ ((r || (not w && n)) || (not (w || x) && y))
    by_tests true w n x y = refl
    by_tests false true n x y = refl
    by_tests false false n x y = refl

-- Rows with one more are some.
put_some : {R V : Type 0} (sort : Sort R) (same : V → V → Bool) (r : R × V) (rows : List (R × V)) → put sort same r rows ≡ [] → ⊥
put_some sort same r [] e = absurd (cc)
put_some {R} {V} sort same r (x ∷ xs) e = by_joined (joined sort same x r) (run_before sort r.0 x.0) (λ row. put_some sort same row xs) e
  where
    by_joined : (o : Option (R × V)) (b : Bool) → ((row : R × V) → put sort same row xs ≡ [] → ⊥) → put_at (λ row. put sort same row xs) r x xs b o ≡ [] → ⊥
    by_joined (Some both) b later e = later both e
    by_joined None true later e = absurd (cc)
    by_joined None false later e = absurd (cc)

-- A clear without accesses clears no cells.
pub none_cleared : (place : StepPlace) (cells : List Cell) → (clear_of place cells).accesses ≡ [] → cells ≡ []
none_cleared place [] e = refl
none_cleared place (c ∷ cells) e = absurd (put_some cell_sort same_kind (cell_run c, Write) (printed_accesses (write_rows cells)) e)
