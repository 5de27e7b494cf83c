use Rattle.std.proofs.Common.{◌≡◌, drop}
use Rattle.wg_cbtrack.specs.Leaves.{left_after}
use Rattle.wg_cbtrack.proofs.cells.left_after.Given as goal

abbrev pub invariant-loop-access : goal.invariant-loop-access
invariant-loop-access l = left_after (drop l.access-index l.accesses) l.out.items ≡ left_after l.accesses l.fn.leaves.items
