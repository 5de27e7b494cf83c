use Rattle.std.proofs.Common.{◌≤◌, ◌-◌, length}
use Rattle.std.specs.Prelude.{max}
use Rattle.wg_bars.specs.Kept.{AreBegun}
use Rattle.wg_bars.proofs.kept.begin_to.Given as goal

abbrev pub invariant-loop-next : goal.invariant-loop-next
invariant-loop-next g l = AreBegun l.kept l.next l.fresh × (length l.kept.items ≤ l.next) × (l.next ≤ max l.end (length l.kept.items))

abbrev pub decreases-loop-next : goal.decreases-loop-next
decreases-loop-next g l = l.end - l.next
