-- Loss of the device, the stack of error scopes, and the promises that wait (WebGPU, "Error Scopes", "Buffer Mapping" and
-- "onSubmittedWorkDone"). Also WebGPU, "Device Loss".
use Rattle.std.specs.Prelude.{ℕ, suc, ◌+◌, ◌≤◌, Bool, false, not, ◌||◌, ◌==◌, List, [], ◌∷◌, ◌++◌, filter, length, Option, Some, None, if◌then◌else◌}
use Rattle.std.specs.List.{list_any}
use Rattle.wg_trace.specs.declared.replies.Fault.{Fault}
use Rattle.wg_trace.specs.declared.replies.Filter.{Filter}
use Rattle.wg_trace.specs.declared.replies.Scope.{Scope}
use Rattle.wg_trace.specs.declared.replies.Settlement.{Settlement}
use Rattle.wg_types.specs.declared.mappings.Mapping.{Mapping}
use Rattle.wg_types.specs.declared.mappings.MapMode.TheVariants.{Read as ReadMode, Write as WriteMode}
use Rattle.wg_model.specs.Buffers.{read_mode}
use Rattle.wg_model.specs.ErrorScopes.{caught_in, popped}
use Rattle.wg_history.specs.Entries.{Form, Making, Queue, Promising, Completion, Plainly, ForWork, ForError, ForMap, Effects, effects_of, Past}
use Rattle.wg_history.specs.Operations.{issued, last_use}

-- whether the device is lost
abbrev pub is_lost : Past → Bool
is_lost [] = false
is_lost (entry ∷ older) = (effects_of entry.event).loses || is_lost older

-- the stack of scopes after a fault, which a scope may have caught
abbrev pub caught : Option Fault → List Scope → List Scope
caught None scopes = scopes
caught (Some fault) scopes = caught_in fault.caught (record { kind = fault.kind; rule = fault.rule }) scopes

-- the open error scopes after a push, if there is one
abbrev pub pushed_on : Option Filter → List Scope → List Scope
pushed_on None scopes = scopes
pushed_on (Some filter) scopes = scopes ++ record { filter = filter; first = None } ∷ []

-- the open error scopes after a pop, if the event is one
abbrev pub popped_off : Form → Bool → List Scope → List Scope
popped_off (Promising ForError) lost scopes = popped lost scopes
popped_off (Promising ForWork) lost scopes = scopes
popped_off (Promising (ForMap buffer mode offset size)) lost scopes = scopes
popped_off Making lost scopes = scopes
popped_off Queue lost scopes = scopes
popped_off (Completion op) lost scopes = scopes
popped_off Plainly lost scopes = scopes

-- the stack of scopes after what an event does, where the device was lost before it or was not
abbrev pub stacked : Bool → Effects → List Scope → List Scope
stacked lost effects scopes = pushed_on effects.pushed (popped_off effects.form lost scopes)

-- the stack of open error scopes, outermost first, each with its filter and the first fault that it received: a pushErrorScope
-- adds one, also on a lost device; a popErrorScope takes the last away, but not on a lost device; the fault of an entry goes
-- into the scope that caught it, unless that has one already
abbrev pub error_scopes : Past → List Scope
error_scopes [] = []
error_scopes (entry ∷ older) = caught entry.reply.fault (stacked (is_lost older) (effects_of entry.event) (error_scopes older))

-- What a promise waits for: that a range of a buffer is mapped, which is once the operations up to the last that uses the
-- buffer are complete (no further one may use it while it waits); or that the operations up to this one are.
pub data Awaited : Type 0 where
  mapping : ℕ → ℕ → Mapping → Awaited
  work : ℕ → Awaited

-- a promise, named by the number of its entry
pub record Wait : Type 0 where
  pub promise : ℕ
  pub awaited : Awaited

-- The numbers of promises rise, from lo on and below hi.
abbrev pub Ascends : ℕ → ℕ → List Wait → Type 0
Ascends lo hi [] = lo ≤ hi
Ascends lo hi (w ∷ ws) = (lo ≤ w.promise) × Ascends (suc w.promise) hi ws

-- The mapping that is asked for; a mode that is neither is refused before it counts.
abbrev pub asked_mapping : ℕ → ℕ → ℕ → Mapping
asked_mapping mode offset size = record { mode = (if mode == read_mode then ReadMode else WriteMode); lo = offset; hi = offset + size }

-- The promise of an event that may wait: that of a workDone waits for all operations that were issued before it.
abbrev pub promised : Past → Form → List Wait
promised past (Promising ForWork) = record { promise = length past; awaited = work (issued past) } ∷ []
promised past (Promising (ForMap buffer mode offset size)) = record { promise = length past; awaited = mapping buffer.number (last_use past buffer.number) (asked_mapping mode offset size) } ∷ []
promised past (Promising ForError) = []
promised past Making = []
promised past Queue = []
promised past (Completion op) = []
promised past Plainly = []

-- whether settlements have one of this promise
abbrev pub settles : List Settlement → ℕ → Bool
settles settled promise = list_any (λ (s : Settlement). s.promise == promise) settled

-- the promises that settlements leave
abbrev pub unsettled : List Settlement → List Wait → List Wait
unsettled settled waits = filter (λ (w : Wait). not (settles settled w.promise)) waits

-- the promises of workDones and of mapAsyncs that no entry has settled, in the order of their numbers, each with what it waits
-- for: a workDone for the operation that was issued last at its entry; a mapAsync, with its buffer and mapping, for the last
-- operation that uses the buffer, or 0
abbrev pub awaiting : Past → List Wait
awaiting [] = []
awaiting (entry ∷ older) = unsettled entry.reply.settled (awaiting older ++ promised older (effects_of entry.event).form)

-- whether a promise is that buffer n is mapped
abbrev pub is_of : ℕ → Awaited → Bool
is_of n (mapping buffer last m) = buffer == n
is_of n (work ops) = false

-- whether a promise that waits is of a map of buffer n
abbrev pub is_map_of : ℕ → Wait → Bool
is_map_of n wait = is_of n wait.awaited

-- whether a map of buffer n is pending
abbrev pub is_pending : Past → ℕ → Bool
is_pending past n = list_any (is_map_of n) (awaiting past)
