use Rattle.std.proofs.Common.{◌≡◌, ◌++◌, drop}
use Rattle.std.specs.VecDeque.{deque_len}
use Rattle.wg_c.specs.Waits.{all_of}
use Rattle.wg_c.proofs.waiting.Waiting.next.Given as goal

abbrev pub invariant-loop-settlement : goal.invariant-loop-settlement
invariant-loop-settlement l = drop l.self-inside.at l.self-inside.current ++ all_of l.self-inside.later.items ≡ l.fn.self.left

abbrev pub decreases-loop-settlement : goal.decreases-loop-settlement
decreases-loop-settlement l = deque_len l.self-inside.later
