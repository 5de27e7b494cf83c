use Rattle.std.proofs.Common.{◌≡◌, ◌++◌, drop}
use Rattle.wg_rows.specs.Cut.{choose}
use Rattle.wg_cbtrack.specs.Leaves.{cleared_kind}
use Rattle.wg_cbtrack.proofs.cells.cleared.Given as goal

abbrev pub invariant-loop-row : goal.invariant-loop-row
invariant-loop-row l = l.out.items ++ choose cleared_kind (drop l.row-index l.rows) ≡ choose cleared_kind l.rows
