-- The laws of lost devices and of events that have a fault (WebGPU, "Lose the device" and "Errors & Debugging").
use Rattle.std.specs.Prelude.{◌≡◌, ℕ, true, false, List, [], ◌∷◌, ◌++◌, map, reverse, None, is_some}
use Rattle.wg_trace.specs.declared.replies.Reply.{Reply}
use Rattle.wg_trace.specs.declared.replies.Answer.TheVariants.{Made}
use Rattle.wg_trace.specs.declared.steps.Sort.{Sort}
use Rattle.wg_orders.specs.Steps.{Step}
use Rattle.wg_orders.specs.Trace.{Item, free, add_groups}
use Rattle.wg_history.specs.declared.events.Setup.{Setup}
use Rattle.wg_history.specs.declared.events.Event.{Event}
use Rattle.wg_history.specs.Entries.{Entry, Past, effects_of}
use Rattle.wg_history.specs.Objects.{count, is_making}
use Rattle.wg_history.specs.Operations.{is_queued}
use Rattle.wg_history.specs.Loss.{is_lost}
use Rattle.wg_history.specs.Answers.{reply_to, Run}
use Rattle.wg_history.specs.Steps.{unmap_groups}
use Rattle.wg_history.specs.Traces.{Trace}

-- The reply of a lost device: an event that makes an object makes the next one, which is invalid; there is no fault, and no operation
-- is queued.
pub record IsLostReply (past : Past) (event : Event) (reply : Reply) : Type 0 where
  pub invalid : is_making event ≡ true → reply.answer ≡ Made (count past) false
  pub faultless : reply.fault ≡ None
  pub unqueued : is_queued reply.answer ≡ false

-- The host write of an event that comes after a past, if it has one: of an unmap that meets its rules, of a buffer that is mapped for
-- writing, where the range of the mapping is not empty.
abbrev pub host_writes : Setup → Past → Event → List (List Step)
host_writes setup past event = unmap_groups setup past (effects_of event).unmapped

-- A trace has grown by these groups of steps, each with its clears and barriers, and then by releases.
pub record AddsGroups (groups : List (List Step)) (trace new : List Item) : Type 0 where
  pub released : List (ℕ × Sort)
  pub grown : new ≡ add_groups trace groups ++ map free released

-- A trace has grown by releases alone: by no barrier and no step.
pub record AddsReleases (trace new : List Item) : Type 0 where
  pub released : List (ℕ × Sort)
  pub grown : new ≡ trace ++ map free released

-- A lost device replies so to each event,
abbrev pub LostReplies : Type 0
LostReplies = (setup : Setup) (past : Past) (event : Event) → is_lost past ≡ true → IsLostReply past event (reply_to setup past event)

-- On a lost device the trace of a run grows by the host write of the event, if it has one, and by releases.
abbrev pub LostWritesBack : Type 0
LostWritesBack = (setup : Setup) (history : List Entry) (entry : Entry) → Run setup history → entry.reply ≡ reply_to setup (reverse history) entry.event
    → is_lost (reverse history) ≡ true → AddsGroups (host_writes setup (reverse history) entry.event) (Trace setup history) (Trace setup (history ++ entry ∷ []))

-- An event whose reply has a fault adds releases alone.
abbrev pub FaultyReleases : Type 0
FaultyReleases = (setup : Setup) (history : List Entry) (entry : Entry) → entry.reply ≡ reply_to setup (reverse history) entry.event
    → is_some entry.reply.fault ≡ true → AddsReleases (Trace setup history) (Trace setup (history ++ entry ∷ []))
