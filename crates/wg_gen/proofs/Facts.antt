-- What has happened while the lanes of a generated script run, and what their entries are.
use Rattle.std.proofs.Common.{◌≡◌, ◌≤◌, ◌<◌, ℕ, ◌+◌, ◌%◌, ◌==◌, nat_lt, true, false, Some, None, [], ◌∷◌}
use Rattle.std.specs.Prelude.{count_by}
use Rattle.wg_types.specs.Handles.{HandleValue}
use Rattle.wg_types.specs.declared.commands.CommandOf.TheVariants.{CopyBufferToBuffer}
use Rattle.wg_types.specs.declared.commands.On.TheVariants as on
use Rattle.wg_types.specs.declared.handles.Info.TheVariants as info
use Rattle.wg_types.specs.declared.handles.ObjRef.{ObjRef}
use Rattle.wg_types.specs.declared.limits.Maker.{Maker}
use Rattle.wg_trace.specs.declared.replies.Answer.TheVariants.{Made, Queued, Plain}
use Rattle.wg_trace.specs.declared.replies.Reply.{Reply}
use Rattle.wg_trace.specs.declared.steps.Sort.TheVariants as sort
use Rattle.wg_types.specs.Commands.{Command}
use Rattle.wg_limits.specs.Limits.{default_limits}
use Rattle.wg_history.specs.declared.events.Event.{Event}
use Rattle.wg_history.specs.declared.events.Event.TheVariants as event
use Rattle.wg_history.specs.declared.events.Setup.{Setup}
use Rattle.wg_history.specs.Entries.{Entry, Past}
use Rattle.wg_history.specs.Objects.{count, maker, info_at, is_valid, resource_at}
use Rattle.wg_history.specs.Operations.{issued, completed, last_use}
use Rattle.wg_history.specs.Loss.{is_lost, awaiting}
use Rattle.wg_history.specs.Rules.{dropped_at, is_destroyed, mapped_at, has_finished, ends_encoder, is_consumed, consumes}
use Rattle.wg_history.specs.Answers.{IsRun}
use Rattle.wg_history.specs.Releases.{is_released}
use Rattle.wg_history.specs.Budget.{bytes_at}
use Rattle.wg_history.specs.Traces.{trace_after}
use Rattle.wg_calls.specs.Judged.{maker_of}
use Rattle.wg_play.specs.Play.{setup_with}
use Rattle.wg_gen.specs.declared.draws.Spot.{Spot}
use Rattle.wg_gen.specs.Generator.{buffer_info}
use Rattle.wg_gen.specs.Counts.{is_fault, is_free}

-- the device of a generated script
abbrev pub device : Setup
device = setup_with 1000000 default_limits

-- by whose number and limits what its lanes record is judged
abbrev pub device_maker : Maker
device_maker = maker_of device

-- ---- spots

-- a spot is in two buffers, and what is written and copied there fits these
pub record IsSpot (spot : Spot) : Type 0 where
  pub source : spot.source < 8
  pub target : spot.target < 8
  pub differ : (spot.source == spot.target) ≡ false
  pub aligned : spot.offset % 4 ≡ 0
  pub fits : spot.offset ≤ 1020

-- ---- objects and events

abbrev pub ref : ℕ → ObjRef
ref n = record { device = 1; number = n }

abbrev pub buffer_handle : ℕ → HandleValue
buffer_handle n = record { reference = ref n; valid = true; info = info.Buffer buffer_info }

abbrev pub create_buffer : Event
create_buffer = event.CreateBuffer buffer_info

abbrev pub write : Spot → Event
write spot = event.WriteBuffer (ref spot.source) spot.offset 64

abbrev pub copy : Spot → Command
copy spot = CopyBufferToBuffer (buffer_handle spot.source) spot.offset (buffer_handle spot.target) spot.offset 128

-- the finish of encoder n, which has kept one copy
abbrev pub finish : ℕ → Spot → Event
finish n spot = event.Finish (ref n) (record { maker = device_maker; targets = None; commands = (on.Encoder, copy spot) ∷ [] })

abbrev pub submit : ℕ → Event
submit n = event.Submit (ref n ∷ [])

abbrev pub destroy : ℕ → Event
destroy n = event.Destroy (ref n)

-- ---- replies

-- what was asked is done
abbrev pub made : Past → Reply
made past = record { answer = Made (count past) true; fault = None; settled = [] }

abbrev pub queued : Past → Reply
queued past = record { answer = Queued (issued past + 1); fault = None; settled = [] }

abbrev pub plain : Reply
plain = record { answer = Plain; fault = None; settled = [] }

abbrev pub entry_of : ℕ → Event → Reply → Entry
entry_of who event reply = record { who = who; event = event; reply = reply }

-- ---- pasts

-- object n is a buffer of the script
pub record IsBuffer (past : Past) (n : ℕ) : Type 0 where
  pub below : n < count past
  pub info : info_at past n ≡ Some (info.Buffer buffer_info)
  pub valid : is_valid past n ≡ true
  pub resource : resource_at past n ≡ Some sort.Buffer
  pub bytes : bytes_at past n ≡ 4096

-- So far k buffers were made, and nothing has happened that would end or unsettle any: nothing is lost, dropped, destroyed, mapped
-- or complete, no promise waits, and there was no fault and no release.
pub record Calm (k : ℕ) (past : Past) : Type 0 where
  pub run : IsRun device past
  pub lost : is_lost past ≡ false
  pub undropped : (n : ℕ) → dropped_at device past n ≡ None
  pub whole : (n : ℕ) → is_destroyed device past n ≡ false
  pub unmapped : (n : ℕ) → mapped_at device past n ≡ None
  pub quiet : awaiting past ≡ []
  pub buffers : (n : ℕ) → n < k → IsBuffer past n
  pub others : (n : ℕ) → k ≤ n → resource_at past n ≡ None
  pub incomplete : completed past ≡ 0
  pub unreleased : (n : ℕ) → is_released device past n ≡ false
  pub used : (n : ℕ) → last_use past n ≤ issued past
  pub faults : count_by is_fault past ≡ 0
  pub frees : count_by is_free (trace_after device past) ≡ 0

-- All operations are complete, and the first k of the eight buffers are destroyed, each of which is released.
pub record Ended (k : ℕ) (past : Past) : Type 0 where
  pub run : IsRun device past
  pub lost : is_lost past ≡ false
  pub undropped : (n : ℕ) → dropped_at device past n ≡ None
  pub destroyed : (n : ℕ) → is_destroyed device past n ≡ nat_lt n k
  pub quiet : awaiting past ≡ []
  pub buffers : (n : ℕ) → n < 8 → IsBuffer past n
  pub others : (n : ℕ) → 8 ≤ n → resource_at past n ≡ None
  pub complete : completed past ≡ issued past
  pub released : (n : ℕ) → is_released device past n ≡ nat_lt n k
  pub used : (n : ℕ) → last_use past n ≤ issued past
  pub faults : count_by is_fault past ≡ 0
  pub frees : count_by is_free (trace_after device past) ≡ k

-- ---- what a lane has open

-- a caller made object n
pub record MadeBy (past : Past) (who n : ℕ) : Type 0 where
  pub entry : Entry
  pub made : maker past n ≡ Some entry
  pub by : entry.who ≡ who

-- object n is an encoder of a caller's own, which is open
pub record Encodes (past : Past) (who n : ℕ) : Type 0 where
  pub by : MadeBy past who n
  pub below : n < count past
  pub info : info_at past n ≡ Some info.Encoder
  pub valid : is_valid past n ≡ true
  pub open_ : has_finished device past n ≡ false

-- object n is a command buffer of a caller's own, which was not submitted
pub record Submits (past : Past) (who n : ℕ) : Type 0 where
  pub by : MadeBy past who n
  pub below : n < count past
  pub info : info_at past n ≡ Some info.CommandBuffer
  pub valid : is_valid past n ≡ true
  pub fresh : is_consumed device past n ≡ false

-- an entry finishes and submits no other objects than its caller's own
pub record IsOwn (past : Past) (entry : Entry) : Type 0 where
  pub ends : (n : ℕ) → ends_encoder device past entry.event n ≡ true → MadeBy past entry.who n
  pub submits : (n : ℕ) → consumes device past entry.event n ≡ true → MadeBy past entry.who n
