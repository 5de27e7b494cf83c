use Rattle.std.proofs.Common.{◌≤◌, ◌-◌, length}
use Rattle.wg_check.specs.Segments.{rank}
use Rattle.wg_check.proofs.ends.rank.Given as goal

abbrev pub invariant-loop-lo : goal.invariant-loop-lo
invariant-loop-lo l = (l.lo ≤ rank l.ends l.key) × (rank l.ends l.key ≤ l.hi) × (l.lo ≤ l.hi) × (l.hi ≤ length l.ends)

abbrev pub decreases-loop-lo : goal.decreases-loop-lo
decreases-loop-lo l = l.hi - l.lo
