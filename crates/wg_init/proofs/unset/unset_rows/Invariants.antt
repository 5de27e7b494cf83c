use Rattle.std.proofs.Common.{◌≡◌, ◌≤◌, [], drop, length}
use Rattle.wg_rows.specs.Cut.{put_all}
use Rattle.wg_rows.specs.Runs.{cell_sort}
use Rattle.wg_rows.specs.Uses.{same_kind}
use Rattle.wg_bars.specs.Kept.{with_notes}
use Rattle.wg_init.specs.Unset.{unset_rows}
use Rattle.wg_init.proofs.unset.unset_rows.Given as goal

abbrev pub invariant-loop-i : goal.invariant-loop-i
invariant-loop-i l = (l.i ≤ length l.accesses) × (put_all cell_sort same_kind l.cells.items [] ≡ unset_rows (with_notes l.kept.items l.fresh) (drop l.i l.accesses))

abbrev pub decreases-loop-i : goal.decreases-loop-i
decreases-loop-i l = l.i
