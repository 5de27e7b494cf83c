use Rattle.std.proofs.Common.{◌≡◌, ◌≤◌, ◌-◌, ◌++◌, [], drop, length}
use Rattle.wg_init.proofs.state.CellState.copy.Given as goal

abbrev pub invariant-loop-object : goal.invariant-loop-object
invariant-loop-object l =
    (l.kept.items ++ drop l.object l.self.items ≡ l.self.items)
    × (l.kept.gone ≡ [])
    × (l.object ≤ length l.self.items)

abbrev pub decreases-loop-object : goal.decreases-loop-object
decreases-loop-object l = length l.self.items - l.object
