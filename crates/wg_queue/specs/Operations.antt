-- What a device keeps of its operations, and of the promises that wait for them (WebGPU, "Queues" and "onSubmittedWorkDone").
use Rattle.std.specs.Prelude.{ℕ, Bool, ◌||◌, ◌==◌, nat_le, nat_lt, List}
use Rattle.wg_trace.specs.declared.replies.Waiting.{Waiting}

-- what is kept of the queue: whether the device is lost, and which operations were issued and are complete
pub record QueueValue : Type 0 where
  -- whether the device is lost
  pub lost : Bool
  -- how many operations were issued, which is the number of the last
  pub issued : ℕ
  -- up to which operation all are complete
  pub completed : ℕ
  -- the promises that are not settled, in the order in which they were made
  pub waiting : List Waiting
  -- for how many more promises there is room
  pub spare : ℕ

-- whether a number is complete already, or was not issued
abbrev pub is_bad : QueueValue → ℕ → Bool
is_bad queue n = nat_le n queue.completed || nat_lt queue.issued n

-- whether there is no operation to wait for: all are complete, or the device is lost
abbrev pub is_idle : QueueValue → Bool
is_idle queue = queue.lost || queue.issued == queue.completed
