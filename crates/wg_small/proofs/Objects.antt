-- The numbers of the objects of parts and cells, of operations and of entries.
use Rattle.std.proofs.Common.{◌≡◌, ℕ, ◌+◌, ◌<◌, ◌≤◌, ◌==◌, List, [], ◌∷◌, map, Bool, true, false, nat_lt, nat_le, refl, sym, ◌∙◌, subst, arith, if◌then◌else◌, length}
use Rattle.std.proofs.lemmas.Bool.{and_parts, and_from, lt-ltb, le-leb, eq-eqb, eqb-true}
use Rattle.std.proofs.lemmas.Bool.Decides.{nat_tests}
use Rattle.wg_trace.specs.declared.parts.Aspect.{Aspect}
use Rattle.wg_rows.specs.Rows.{EachRow, list_eq, in_range, numbers}
use Rattle.wg_rows.specs.Runs.{Part, Buffer, QuerySet, Subresource, PartRun, BufferPart, LayerParts, QueryPart, Cell, Byte, Texels, Slice, Query, Cells, Bytes, Layers, Slices, Queries, part_run, parts_in, cells_in, part_sort, cell_sort, part_line, run_object, object_of, covers_part}
use Rattle.wg_rows.proofs.Put.{both_of}
use Rattle.wg_readback.specs.Shapes.{HasPart}
use Rattle.wg_history.specs.Entries.{Past}
use Rattle.wg_history.specs.Objects.{is_making, count}
use Rattle.wg_history.specs.Operations.{is_queued, issued}
use Rattle.wg_small.specs.Small.{IsPlaceWithin, IsPartWithin, AreCellsWithin, IsObjectWithin}
use Rattle.wg_small.proofs.Tracing.{CellHas, IsClosed, Said}
use Rattle.wg_small.proofs.Doings.{IsTold}

abbrev pub within : ℕ → Said
within most = record { place = IsPlaceWithin most; part = IsPartWithin most; cells = AreCellsWithin most; object = IsObjectWithin most }

-- objects of single parts and cells
map_parts : (most object : ℕ) (aspect : Aspect) (mip : ℕ) (layers : List ℕ) → object < most → EachRow (λ (p : Part). IsPartWithin most (part_run p)) (map (Subresource object aspect mip) layers)
map_parts most object aspect mip [] h = tt
map_parts most object aspect mip (layer ∷ layers) h = (h, map_parts most object aspect mip layers h)

parts_within : (most : ℕ) (run : PartRun) → IsPartWithin most run → EachRow (λ (p : Part). IsPartWithin most (part_run p)) (parts_in run)
parts_within most (BufferPart object) h = (h, tt)
parts_within most (QueryPart object) h = (h, tt)
parts_within most (LayerParts object aspect mip lo hi) h = map_parts most object aspect mip (numbers lo hi) h

map_cells : (most : ℕ) (cell : ℕ → Cell) (places : List ℕ) → ((k : ℕ) → CellHas (IsPartWithin most) (AreCellsWithin most) (cell k)) → EachRow (CellHas (IsPartWithin most) (AreCellsWithin most)) (map cell places)
map_cells most cell [] h = tt
map_cells most cell (k ∷ places) h = (h k, map_cells most cell places h)

cells_within : (most : ℕ) (run : Cells) → AreCellsWithin most run → EachRow (CellHas (IsPartWithin most) (AreCellsWithin most)) (cells_in run)
cells_within most (Bytes object lo hi) h = map_cells most (Byte object) (numbers lo hi) (λ k. (h, h))
cells_within most (Layers object aspect mip lo hi) h = map_cells most (Texels object aspect mip) (numbers lo hi) (λ k. (h, h))
cells_within most (Slices object mip lo hi) h = map_cells most (Slice object mip) (numbers lo hi) (λ k. (h, h))
cells_within most (Queries object lo hi) h = map_cells most (Query object) (numbers lo hi) (λ k. (h, h))

part_joins : (most : ℕ) (x r : PartRun) → IsPartWithin most x → IsPartWithin most (both_of part_sort x r)
part_joins most (BufferPart object) r h = h
part_joins most (LayerParts object aspect mip lo hi) r h = h
part_joins most (QueryPart object) r h = h

cells_join : (most : ℕ) (x r : Cells) → AreCellsWithin most x → AreCellsWithin most (both_of cell_sort x r)
cells_join most (Bytes object lo hi) r h = h
cells_join most (Layers object aspect mip lo hi) r h = h
cells_join most (Slices object mip lo hi) r h = h
cells_join most (Queries object lo hi) r h = h

pub within_closed : (most : ℕ) → IsClosed (IsPartWithin most) (AreCellsWithin most)
within_closed most = record {
  parts = parts_within most;
  part_joined = λ x r met p q. part_joins most x r p;
  singles = cells_within most;
  cells_joined = λ x r met p q. cells_join most x r p;
}

-- the part at which a run begins
abbrev pub first_part : PartRun → Part
first_part (BufferPart object) = Buffer object
first_part (QueryPart object) = QuerySet object
first_part (LayerParts object aspect mip lo hi) = Subresource object aspect mip lo

pub first_object : (run : PartRun) → object_of (first_part run) ≡ run_object run
first_object (BufferPart object) = refl
first_object (QueryPart object) = refl
first_object (LayerParts object aspect mip lo hi) = refl

-- the object of a part that a run covers
covered_object : (run : PartRun) (p : Part) → covers_part run p ≡ true → run_object run ≡ object_of p
unfolding covers_part
covered_object (BufferPart object) (Buffer other) e = eqb-true object other (and_parts _ _ (and_parts _ _ e).0).0
covered_object (BufferPart object) (QuerySet other) e = eqb-true object other (and_parts _ _ (and_parts _ _ e).0).0
covered_object (BufferPart object) (Subresource other aspect mip layer) e = eqb-true object other (and_parts _ _ (and_parts _ _ e).0).0
covered_object (QueryPart object) (Buffer other) e = eqb-true object other (and_parts _ _ (and_parts _ _ e).0).0
covered_object (QueryPart object) (QuerySet other) e = eqb-true object other (and_parts _ _ (and_parts _ _ e).0).0
covered_object (QueryPart object) (Subresource other aspect mip layer) e = eqb-true object other (and_parts _ _ (and_parts _ _ e).0).0
covered_object (LayerParts object aspect mip lo hi) (Buffer other) e = eqb-true object other (and_parts _ _ (and_parts _ _ e).0).0
covered_object (LayerParts object aspect mip lo hi) (QuerySet other) e = eqb-true object other (and_parts _ _ (and_parts _ _ e).0).0
covered_object (LayerParts object aspect mip lo hi) (Subresource other aspect2 mip2 layer) e = eqb-true object other (and_parts _ _ (and_parts _ _ e).0).0

run_of_part : (p : Part) → run_object (part_run p) ≡ object_of p
run_of_part (Buffer object) = refl
run_of_part (QuerySet object) = refl
run_of_part (Subresource object aspect mip layer) = refl

pub line_same : (xs : List ℕ) → list_eq xs xs ≡ true
line_same [] = refl
line_same (x ∷ xs) = and_from (x == x) (list_eq xs xs) (eq-eqb x x refl) (line_same xs)

pub first_covered : (run : PartRun) → HasPart run → covers_part run (first_part run) ≡ true
unfolding covers_part
first_covered (BufferPart object) h = and_from (list_eq (object ∷ (0 ∷ [])) (object ∷ (0 ∷ []))) true (line_same (object ∷ (0 ∷ []))) refl
first_covered (QueryPart object) h = and_from (list_eq (object ∷ (1 ∷ [])) (object ∷ (1 ∷ []))) true (line_same (object ∷ (1 ∷ []))) refl
first_covered (LayerParts object aspect mip lo hi) h =
    and_from (list_eq (part_line (LayerParts object aspect mip lo hi)) (part_line (LayerParts object aspect mip lo hi))) (in_range lo hi lo) (line_same (part_line (LayerParts object aspect mip lo hi)))
    (and_from (nat_le lo lo) (nat_lt lo hi) (le-leb lo lo (omega arith)) (lt-ltb lo hi h))

pub within_told : (most : ℕ) → IsTold (IsPartWithin most)
within_told most = record {
  each = λ run h p c. subst (λ (n : ℕ). n < most) (covered_object run p c ∙ sym (run_of_part p)) h;
  whole = λ run full h. subst (λ (n : ℕ). n < most) (run_of_part (first_part run) ∙ first_object run) (h (first_part run) (first_covered run full));
}

-- There are no more objects and no more operations than entries.
pub count_le : (past : Past) → count past ≤ length past
count_le [] = omega arith
count_le (entry ∷ older) = by_making (is_making entry.event) (count_le older)
  where
    by_making : (b : Bool) → count older ≤ length older → (if b then count older + 1 else count older) ≤ length (entry ∷ older)
    by_making true h = omega (arith, h)
    by_making false h = omega (arith, h)

pub issued_le : (past : Past) → issued past ≤ length past
issued_le [] = omega arith
issued_le (entry ∷ older) = by_queued (is_queued entry.reply.answer) (issued_le older)
  where
    by_queued : (b : Bool) → issued older ≤ length older → (if b then issued older + 1 else issued older) ≤ length (entry ∷ older)
    by_queued true h = omega (arith, h)
    by_queued false h = omega (arith, h)

pub not_less : (a b : ℕ) → nat_lt a b ≡ false → b ≤ a
not_less a b e = grind (arith, nat_tests, e)
