-- The cells that steps leave and those that they want from before them, in printed form, found step by step.
use Rattle.std.specs.Prelude.{◌≡◌, true, ◌&&◌, List, [], ◌∷◌, map, Option, Some, None, if◌then◌else◌}
use Rattle.wg_rows.specs.Rows.{Apart, EachRow}
use Rattle.wg_rows.specs.Cut.{value_at, inside, gaps, choose, put_all, overwrite}
use Rattle.wg_rows.specs.Runs.{Cells, Cell, cell_sort, cell_spot}
use Rattle.wg_rows.specs.Uses.{AccessKind, Read, Write, Drop, kind_reads, kind_writes, kind_unsets, same_kind}
use Rattle.wg_init.specs.Effects.{is_full}
use Rattle.wg_cbtrack.specs.declared.cells.Pieces.{Pieces}
use Rattle.wg_cbtrack.specs.declared.cells.Pieces.TheVariants.{Unset, Unwritten}

-- what an access leaves of a cell that it writes: a write, or a cell that is unset
abbrev pub left_kind : AccessKind → AccessKind
left_kind kind = if kind_unsets kind then Drop else Write

-- what accesses leave of cells, each of which overwrites what was there
abbrev pub left_after : List (Cells × AccessKind) → List (Cells × AccessKind) → List (Cells × AccessKind)
left_after [] rows = rows
left_after (x ∷ xs) rows = left_after xs (if kind_writes x.1 && is_full x.0 then overwrite cell_sort same_kind (x.0, left_kind x.1) rows else rows)

-- the pieces of the runs that accesses read, put among rows
abbrev pub with_pieces : (Cells → List (Cells × AccessKind)) → List (Cells × AccessKind) → List (Cells × AccessKind) → List (Cells × AccessKind)
with_pieces pieces [] rows = rows
with_pieces pieces (x ∷ xs) rows = if kind_reads x.1 && is_full x.0 then put_all cell_sort same_kind (pieces x.0) (with_pieces pieces xs rows) else with_pieces pieces xs rows

-- what clears what is left unset
abbrev pub cleared_kind : AccessKind → Option AccessKind
cleared_kind kind = if kind_unsets kind then Some Write else None

-- what of a run is left unset, as it is cleared
abbrev pub unset_pieces : List (Cells × AccessKind) → Cells → List (Cells × AccessKind)
unset_pieces leaves run = choose cleared_kind (inside cell_sort run leaves)

-- what of a run is not written
abbrev pub unwritten_pieces : List (Cells × AccessKind) → Cells → List (Cells × AccessKind)
unwritten_pieces leaves run = gaps cell_sort ((run, Read) ∷ []) leaves

-- the pieces that count
abbrev pub pieces_of : Pieces → List (Cells × AccessKind) → Cells → List (Cells × AccessKind)
pieces_of Unset leaves run = unset_pieces leaves run
pieces_of Unwritten leaves run = unwritten_pieces leaves run

-- cells as reads
abbrev pub as_reads : List Cells → List (Cells × AccessKind)
as_reads cells = map (λ run. (run, Read)) cells

-- Rows are in printed form and have one value.
abbrev pub AllOf : AccessKind → List (Cells × AccessKind) → Type 0
AllOf kind rows = EachRow (λ row. row.1 ≡ kind) rows × Apart cell_sort rows

-- What is wanted and what is left are in printed form: reads, and what was written.
pub record AreTidy (wants leaves : List (Cells × AccessKind)) : Type 0 where
  pub reads : AllOf Read wants
  pub left : Apart cell_sort leaves
  pub written : (c : Cell) (kind : AccessKind) → value_at cell_sort (cell_spot c) leaves ≡ Some kind → kind_writes kind ≡ true
