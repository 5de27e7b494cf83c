use Rattle.std.proofs.Common.{◌≡◌, ℕ, ◌≤◌, length}
use Rattle.std.specs.HashMap.{spare}
use Rattle.std.specs.VecDeque.{deque_len, deque_capacity}
use Rattle.wg_maps.specs.Waits.{waiting, IsWithin, IsSettling}
use Rattle.wg_maps.proofs.waits.settle_due.Given as goal

abbrev pub decreases-loop-wait : goal.decreases-loop-wait
decreases-loop-wait l = length l.listed.items

abbrev pub invariant-loop-wait : goal.invariant-loop-wait
invariant-loop-wait l = record {
  settling : IsSettling l.completed (waiting l.initial.promises.entries l.initial.listed.items) l.initial.mapped l.promises.entries l.listed.items l.mapped;
  within : (newest : ℕ) → IsWithin newest l.initial.listed.items → IsWithin newest l.listed.items;
  len : deque_len l.listed ≤ deque_len l.initial.listed;
  capacity : deque_capacity l.listed ≡ deque_capacity l.initial.listed;
  spare : spare l.initial.promises ≤ spare l.promises;
}
