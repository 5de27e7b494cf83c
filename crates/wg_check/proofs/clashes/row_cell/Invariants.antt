use Rattle.std.proofs.Common.{◌≡◌, drop}
use Rattle.wg_check.specs.Cells.{row_cell}
use Rattle.wg_check.proofs.clashes.row_cell.Given as goal

abbrev pub invariant-loop-row : goal.invariant-loop-row
invariant-loop-row l = row_cell l.key (drop l.row-index l.rows) ≡ row_cell l.key l.rows
