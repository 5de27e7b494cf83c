-- The cells that a step reads and that are unset.
use Rattle.std.specs.Prelude.{◌&&◌, min, List, [], ◌∷◌, if◌then◌else◌}
use Rattle.wg_num.specs.Runs.{Runs, missing_runs}
use Rattle.wg_rows.specs.Cut.{put_all}
use Rattle.wg_rows.specs.Runs.{Cells, cell_sort, cell_line, cell_lo, cell_hi, cell_widen}
use Rattle.wg_rows.specs.Uses.{AccessKind, Write, kind_reads, same_kind}
use Rattle.wg_orders.specs.Steps.{Step}
use Rattle.wg_orders.specs.Trace.{Item, to_clear, clear_of}
use Rattle.wg_bars.specs.Kept.{rows_in}
use Rattle.wg_init.specs.Rows.{row_of, row_object, SetRows, runs_in}
use Rattle.wg_init.specs.Effects.{is_full}

-- cells that are written
abbrev pub written : Cells → Cells × AccessKind
written cells = (cells, Write)

-- The accesses, as they are printed, of the clear of the cells that a step reads and that are unset in a trace.
abbrev pub cleared : List Item → Step → List (Cells × AccessKind)
cleared trace step = (clear_of step.place (to_clear trace (step ∷ []))).accesses

-- runs as cells of the row of a run, each written
abbrev pub cells_at : Cells → Runs → List (Cells × AccessKind)
cells_at run [] = []
cells_at run (x ∷ xs) = written (cell_widen run (min x.0 (cell_hi run)) (min x.1 (cell_hi run))) ∷ cells_at run xs

-- what of a run is not set
abbrev pub unset_in : SetRows → Cells → List (Cells × AccessKind)
unset_in kept run = cells_at run (missing_runs (cell_lo run) (cell_hi run) (runs_in (rows_in kept (row_object (row_of run))) (cell_line run)))

-- the cells that accesses read and that are not set, in printed form
abbrev pub unset_rows : SetRows → List (Cells × AccessKind) → List (Cells × AccessKind)
unset_rows kept [] = []
unset_rows kept (x ∷ xs) = if kind_reads x.1 && is_full x.0 then put_all cell_sort same_kind (unset_in kept x.0) (unset_rows kept xs) else unset_rows kept xs
