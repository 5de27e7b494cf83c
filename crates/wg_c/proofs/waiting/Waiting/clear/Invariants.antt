use Rattle.std.proofs.Common.{◌≡◌, ◌+◌, ◌-◌, ◌^◌, ◌≤◌, length, min}
use Rattle.wg_c.proofs.waiting.Waiting.clear.Given as goal

abbrev pub invariant-loop-settlement : goal.invariant-loop-settlement
invariant-loop-settlement l = (min (l.count + length l.self.left) (2 ^ 64 - 1) ≡ min (length l.fn.self.left) (2 ^ 64 - 1)) × (l.count ≤ 2 ^ 64 - 1)

abbrev pub decreases-loop-settlement : goal.decreases-loop-settlement
decreases-loop-settlement l = length l.self.left
