-- The cells that are set, kept in runs by object and row.
use Rattle.std.specs.Prelude.{ℕ, ◌≡◌, Bool, not, List, [], ◌∷◌, if◌then◌else◌}
use Rattle.wg_init.specs.declared.cell_row.CellRow.{CellRow}
use Rattle.wg_init.specs.declared.cell_row.CellRow.TheVariants.{Buffer as BufferRow, Queries as QueryRow, Layers as LayerRow, Slices as SliceRow}
use Rattle.wg_num.specs.Runs.{Runs, is_in, AreApart}
use Rattle.wg_rows.specs.Rows.{line_object, list_eq, Spot}
use Rattle.wg_rows.specs.Runs.{aspect_number, Cells, Bytes, Layers, Slices, Queries, Cell, cell_spot}
use Rattle.wg_orders.specs.Steps.{Step}
use Rattle.wg_orders.specs.Trace.{is_unset}
use Rattle.wg_bars.specs.Kept.{rows_in}

-- the line of a row, which is that of its cells
abbrev pub row_line : CellRow → List ℕ
row_line (BufferRow object) = object ∷ (0 ∷ [])
row_line (QueryRow object) = object ∷ (1 ∷ [])
row_line (LayerRow object aspect mip) = object ∷ (2 ∷ (aspect_number aspect ∷ (mip ∷ [])))
row_line (SliceRow object mip) = object ∷ (3 ∷ (mip ∷ []))

-- the row in which a run of cells is kept
abbrev pub row_of : Cells → CellRow
row_of (Bytes object lo hi) = BufferRow object
row_of (Queries object lo hi) = QueryRow object
row_of (Layers object aspect mip lo hi) = LayerRow object aspect mip
row_of (Slices object mip lo hi) = SliceRow object mip

-- the object of a row of cells
abbrev pub row_object : CellRow → ℕ
row_object (BufferRow object) = object
row_object (QueryRow object) = object
row_object (LayerRow object aspect mip) = object
row_object (SliceRow object mip) = object

-- A row with the runs of its cells that are set.
abbrev pub SetRow : Type 0
SetRow = CellRow × Runs

-- Rows of each object, by its number.
abbrev pub SetRows : Type 0
SetRows = List (List SetRow)

-- the runs of a line
abbrev pub runs_in : List SetRow → List ℕ → Runs
runs_in [] line = []
runs_in (x ∷ xs) line = if list_eq (row_line x.0) line then x.1 else runs_in xs line

-- whether the cell at a spot is kept
abbrev pub set_at : SetRows → Spot → Bool
set_at kept spot = is_in (runs_in (rows_in kept (line_object spot.0)) spot.0) spot.1

-- Rows stand for steps where they keep exactly the cells that are not unset.
abbrev pub KeepsSet : SetRows → List Step → Type 0
KeepsSet kept steps = (c : Cell) → set_at kept (cell_spot c) ≡ not (is_unset steps c)

-- The runs of each row are apart.
abbrev pub RunsApart : SetRows → Type 0
RunsApart kept = (object : ℕ) (line : List ℕ) → AreApart 0 (runs_in (rows_in kept object) line)
