-- What is counted of a history and its trace.
use Rattle.std.specs.Prelude.{ℕ, Bool, true, false, List, length, count_by, is_some}
use Rattle.wg_orders.specs.Steps.{is_clear}
use Rattle.wg_orders.specs.Trace.{Item, Bar, StepItem, Free}
use Rattle.wg_history.specs.declared.events.Setup.{Setup}
use Rattle.wg_history.specs.Entries.{Entry}
use Rattle.wg_history.specs.Operations.{is_queued}
use Rattle.wg_history.specs.Traces.{Trace}

-- an entry that was answered with the number of an operation issued it
abbrev pub is_issue : Entry → Bool
is_issue entry = is_queued entry.reply.answer

-- whether an entry has a fault
abbrev pub is_fault : Entry → Bool
is_fault entry = is_some entry.reply.fault

-- whether an item is a release
abbrev pub is_free : Item → Bool
is_free (Free object sort) = true
is_free _ = false

-- whether an item is a barrier
abbrev pub is_barrier : Item → Bool
is_barrier (Bar parts from to) = true
is_barrier _ = false

-- whether an item is a clear
abbrev pub is_clear_step : Item → Bool
is_clear_step (StepItem step) = is_clear step
is_clear_step _ = false

-- what is counted: the entries of a history, the operations that were issued, the faults, and the releases
pub record Tally : Type 0 where
  pub entries : ℕ
  pub ops : ℕ
  pub faults : ℕ
  pub frees : ℕ

-- what is counted of a history and its trace: entries, operations, faults and releases
abbrev pub counts_of : List Entry → List Item → Tally
counts_of history trace = record { entries = length history; ops = count_by is_issue history; faults = count_by is_fault history; frees = count_by is_free trace }

-- what is counted of a history on a device that was opened so
abbrev pub counts_in : Setup → List Entry → Tally
counts_in setup history = counts_of history (Trace setup history)
