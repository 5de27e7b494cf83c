-- Ranges of parts and cells are small in a trace where they are in its steps.
use Rattle.std.proofs.Common.{◌≡◌, ℕ, zero, suc, ◌+◌, ◌-◌, ◌<◌, ◌≤◌, map, true, refl, arith}
use Rattle.wg_rows.specs.Rows.{EachRow, meet, count_up, numbers}
use Rattle.wg_rows.specs.Runs.{Part, Subresource, PartRun, BufferPart, LayerParts, QueryPart, Byte, Texels, Slice, Query, Cells, Bytes, Layers, Slices, Queries, part_run, parts_in, cells_in, part_sort, cell_sort}
use Rattle.wg_rows.proofs.Put.{both_of}
use Rattle.wg_rows.proofs.Runs.{tags_differ}
use Rattle.wg_readtrace.specs.Forms.{most_32}
use Rattle.wg_small.specs.Small.{IsSmallRange, HaveSmallRange, IsAnyPlace, IsAnyObject}
use Rattle.wg_small.proofs.Tracing.{CellHas, IsClosed, Said}

abbrev pub ranges : Said
ranges = record { place = IsAnyPlace; part = IsSmallRange; cells = HaveSmallRange; object = IsAnyObject }

-- It holds of all numbers from one on and below another.
counted : {A : Type 0} (P : A → Type 0) (f : ℕ → A) (lo n : ℕ) → ((k : ℕ) → k < lo + n → P (f k)) → EachRow P (map f (count_up lo n))
counted P f lo zero h = tt
counted P f lo (suc n) h = (h lo (omega arith), counted P f (suc lo) n (λ k lt. h k (omega (arith, lt))))

pub ranged : {A : Type 0} (P : A → Type 0) (f : ℕ → A) (lo hi : ℕ) → ((k : ℕ) → k < hi → P (f k)) → EachRow P (map f (numbers lo hi))
ranged P f lo hi h = by_order (hi - lo) refl
  where
    by_order : (n : ℕ) → hi - lo ≡ n → EachRow P (map f (count_up lo n))
    by_order zero e = tt
    by_order (suc n) e = counted P f lo (suc n) (λ k lt. h k (omega (arith, lt, e)))

part_pieces : (run : PartRun) → IsSmallRange run → EachRow (λ (p : Part). IsSmallRange (part_run p)) (parts_in run)
part_pieces (BufferPart object) h = (tt, tt)
part_pieces (QueryPart object) h = (tt, tt)
part_pieces (LayerParts object aspect mip lo hi) h = ranged (λ (p : Part). IsSmallRange (part_run p)) (Subresource object aspect mip) lo hi (λ k lt. (h.0, let most = h.1 in omega (arith, lt, most)))

part_joins : (x r : PartRun) → IsSmallRange x → IsSmallRange r → meet part_sort x r ≡ true → IsSmallRange (both_of part_sort x r)
part_joins (BufferPart object) r h k e = tt
part_joins (QueryPart object) r h k e = tt
part_joins (LayerParts object aspect mip lo hi) (LayerParts other of level lo2 hi2) h k e = (h.0, let a = h.1 in let b = k.1 in omega (arith, a, b))
part_joins (LayerParts object aspect mip lo hi) (BufferPart other) h k e = absurd (tags_differ _ _ e)
part_joins (LayerParts object aspect mip lo hi) (QueryPart other) h k e = absurd (tags_differ _ _ e)

cell_pieces : (run : Cells) → HaveSmallRange run → EachRow (CellHas IsSmallRange HaveSmallRange) (cells_in run)
cell_pieces (Bytes object lo hi) h = ranged (CellHas IsSmallRange HaveSmallRange) (Byte object) lo hi (λ k lt. (omega (arith, lt, h), tt))
cell_pieces (Queries object lo hi) h = ranged (CellHas IsSmallRange HaveSmallRange) (Query object) lo hi (λ k lt. (omega (arith, lt, h), tt))
cell_pieces (Layers object aspect mip lo hi) h =
    ranged (CellHas IsSmallRange HaveSmallRange) (Texels object aspect mip) lo hi (λ k lt. let most = h.1 in let one : k + 1 ≤ most_32 = omega (arith, lt, most) in ((h.0, one), (h.0, one)))
cell_pieces (Slices object mip lo hi) h =
    ranged (CellHas IsSmallRange HaveSmallRange) (Slice object mip) lo hi (λ k lt. let most = h.1 in let one : k + 1 ≤ most_32 = omega (arith, lt, most) in ((h.0, one), (h.0, omega arith)))

cells_join : (x r : Cells) → HaveSmallRange x → HaveSmallRange r → meet cell_sort x r ≡ true → HaveSmallRange (both_of cell_sort x r)
cells_join (Bytes object lo hi) (Bytes other lo2 hi2) h k e = omega (arith, h, k)
cells_join (Queries object lo hi) (Queries other lo2 hi2) h k e = omega (arith, h, k)
cells_join (Layers object aspect mip lo hi) (Layers other of level lo2 hi2) h k e = (h.0, let a = h.1 in let b = k.1 in omega (arith, a, b))
cells_join (Slices object mip lo hi) (Slices other level lo2 hi2) h k e = (h.0, let a = h.1 in let b = k.1 in omega (arith, a, b))
cells_join _ _ h k e = absurd (tags_differ _ _ e)

pub ranges_closed : IsClosed IsSmallRange HaveSmallRange
ranges_closed = record {
  parts = part_pieces;
  part_joined = λ x r met p q. part_joins x r p q met;
  singles = cell_pieces;
  cells_joined = λ x r met p q. cells_join x r p q met;
}
