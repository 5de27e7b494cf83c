-- The cells that stand at keys.
use Rattle.std.specs.Prelude.{ℕ, zero, suc, slice_get, ◌+◌, ◌&&◌, ◌==◌, List, [], ◌∷◌, Option, Some, None, if◌then◌else◌}
use Rattle.std.specs.Option.{option_or, option_map, option_and_then}
use Rattle.wg_rows.specs.Rows.{in_range}
use Rattle.wg_rows.specs.Runs.{Cells, Bytes, Layers, Slices, Queries, aspect_number}
use Rattle.wg_rows.specs.Uses.{AccessKind}
use Rattle.wg_orders.specs.Trace.{Item, Bar, StepItem, Free}
use Rattle.wg_check.specs.declared.segments.Spotted.{Spotted}
use Rattle.wg_check.specs.declared.clashes.Clash.{Clash}
use Rattle.wg_check.specs.Segments.{Key}

-- the place of a key, if it stands in this line from lo up to but not including hi
abbrev pub place_in : Key → ℕ → ℕ → ℕ → ℕ → ℕ → ℕ → Option ℕ
place_in k object sort aspect mip lo hi = if (object == k.object) && ((sort == k.sort) && ((aspect == k.aspect) && ((mip == k.mip) && in_range lo hi k.at))) then Some k.at else None

-- the cell of a run that stands at a key
abbrev pub cell_in : Cells → Key → Option Cells
cell_in (Bytes object lo hi) k = option_map (λ x. Bytes object x (x + 1)) (place_in k object 0 0 0 lo hi)
cell_in (Queries object lo hi) k = option_map (λ x. Queries object x (x + 1)) (place_in k object 1 0 0 lo hi)
cell_in (Layers object aspect mip lo hi) k = option_map (λ x. Layers object aspect mip x (x + 1)) (place_in k object 2 (aspect_number aspect) mip lo hi)
cell_in (Slices object mip lo hi) k = option_map (λ x. Slices object mip x (x + 1)) (place_in k object 3 0 mip lo hi)

-- the first cell of a step's accesses that stands at a key, if one does
abbrev pub row_cell : Key → List (Cells × AccessKind) → Option Cells
row_cell k [] = None
row_cell k (row ∷ rows) = option_or (cell_in row.0 k) (row_cell k rows)

-- the first cell that stands at a key among the accesses of a step, behind n steps
abbrev pub cell_from : ℕ → ℕ → Key → List Item → Option Cells
cell_from n step k [] = None
cell_from n step k (Bar parts from to ∷ items) = cell_from n step k items
cell_from n step k (StepItem s ∷ items) = if n == step then row_cell k s.accesses else cell_from (suc n) step k items
cell_from n step k (Free object sort ∷ items) = cell_from n step k items

-- the end that begins a segment
abbrev pub end_at : List Key → ℕ → Option Key
end_at ends zero = None
end_at ends (suc i) = slice_get ends i

-- a clash of what was spotted, with its cell
abbrev pub with_cell : Spotted → Option Cells → Option Clash
with_cell s None = None
with_cell s (Some cell) = Some (record { reader = s.reader; writer = s.writer; cell = cell })

-- what was spotted, with the first cell of its segment
abbrev pub clash_of : List Item → List Key → Option Spotted → Option Clash
clash_of items ends None = None
clash_of items ends (Some s) = with_cell s (option_and_then (λ k. cell_from 0 s.writer k items) (end_at ends s.segment))
