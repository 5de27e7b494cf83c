use Rattle.std.proofs.Common.{◌≡◌, ◌≤◌, drop, length}
use Rattle.wg_rows.specs.Cut.{put_all}
use Rattle.wg_rows.specs.Runs.{cell_sort}
use Rattle.wg_rows.specs.Uses.{same_kind}
use Rattle.wg_cbtrack.specs.Leaves.{with_pieces, pieces_of}
use Rattle.wg_cbtrack.proofs.cells.pieces_over.Given as goal

abbrev pub invariant-loop-i : goal.invariant-loop-i
invariant-loop-i l = (l.i ≤ length l.accesses) × (put_all cell_sort same_kind l.found.items l.rows ≡ with_pieces (pieces_of l.pieces l.leaves) (drop l.i l.accesses) l.rows)

abbrev pub decreases-loop-i : goal.decreases-loop-i
decreases-loop-i l = l.i
