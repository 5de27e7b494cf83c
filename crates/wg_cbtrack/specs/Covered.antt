-- Runs of cells in which rows have one kind.
use Rattle.std.specs.Prelude.{◌≡◌, true, List, Some}
use Rattle.wg_rows.specs.Rows.{Spot, covers_spot}
use Rattle.wg_rows.specs.Cut.{value_at}
use Rattle.wg_rows.specs.Runs.{Cells, cell_sort}
use Rattle.wg_rows.specs.Uses.{AccessKind}

-- Rows have a kind in all of a run.
abbrev pub CoveredBy : List (Cells × AccessKind) → Cells → AccessKind → Type 0
CoveredBy rows run kind = (spot : Spot) → covers_spot cell_sort run spot ≡ true → value_at cell_sort spot rows ≡ Some kind
