-- What contracts see of a desk, and what its calls do.
use Rattle.std.specs.Prelude.{◌≡◌, ℕ, not, Bool, true, false, ◌||◌, ◌==◌, List, [], ◌∷◌, ◌++◌, reverse, Option, Some, None, is_none, is_some, option_and_then, if◌then◌else◌}
use Rattle.std.specs.List.{list_any}
use Rattle.wg_types.specs.Handles.{HandleValue}
use Rattle.wg_types.specs.declared.handles.Info.{Info}
use Rattle.wg_types.specs.declared.handles.ObjRef.{ObjRef}
use Rattle.wg_types.specs.declared.wanted.Wanted.{Wanted}
use Rattle.wg_trace.specs.declared.replies.Answer.{Answer}
use Rattle.wg_trace.specs.declared.replies.Answer.TheVariants.{Made}
use Rattle.wg_trace.specs.declared.replies.Reply.{Reply}
use Rattle.wg_orders.specs.Trace.{Item}
use Rattle.wg_encoder.specs.Recorders.{RecorderValue}
use Rattle.wg_history.specs.declared.events.Setup.{Setup}
use Rattle.wg_history.specs.declared.events.Event.{Event}
use Rattle.wg_history.specs.Entries.{Entry, Past}
use Rattle.wg_history.specs.Objects.{is_making}
use Rattle.wg_history.specs.Rules.{is_dropped, is_genuine}
use Rattle.wg_history.specs.Answers.{Run, reply_to}
use Rattle.wg_history.specs.Traces.{Trace}
use Rattle.wg_core.specs.Cores.{FindsUnset}
use Rattle.wg_calls.specs.Calls.{handle_of}
use Rattle.wg_calls.specs.Judged.{IsRecorderOf}
use Rattle.wg_desk.specs.declared.desk.DeskError.{DeskError}
use Rattle.wg_desk.specs.declared.desk.DeskError.TheVariants.{NoMemory, NoObject, NoPass}
use Rattle.wg_desk.specs.declared.seats.Seat.{Seat}
use Rattle.wg_desk.specs.Seats.{handle_at}

-- what the device was opened with, its history, which is a run, and what is kept of its objects, by their numbers
pub record DeskValue : Type 0 where
  pub setup : Setup
  pub history : List Entry
  pub run : Run setup history
  pub seats : List Seat

-- An event of which so much is known of what it makes: it makes an object exactly where that is known, and the handle of that is
-- genuine once it is made.
pub record MakesGenuine (setup : Setup) (history : List Entry) (event : Event) (known : Option Info) : Type 0 where
  pub making : is_making event ≡ is_some known
  pub genuine : (who : ℕ) (reply : Reply) (handle : HandleValue) → reply ≡ reply_to setup (reverse history) event
      → option_and_then (λ known. handle_of setup.serial known reply.answer) known ≡ Some handle
      → is_genuine setup ((record { who = who; event = event; reply = reply }) ∷ reverse history) handle ≡ true

-- whether some of these objects was dropped
abbrev pub any_dropped : Setup → Past → List ObjRef → Bool
any_dropped setup past objects = list_any (λ object. is_dropped setup past object.number) objects

-- whether some of these handles is of an object that was dropped
abbrev pub names_dropped : Setup → Past → List (HandleValue × Wanted) → Bool
names_dropped setup past useds = list_any (λ used. is_dropped setup past used.0.reference.number) useds

-- The history has one entry more: the event of this caller, with the one reply to it.
pub record HasSent (old new : DeskValue) (who : ℕ) (event : Event) (reply : Reply) : Type 0 where
  pub replied : reply ≡ reply_to old.setup (reverse old.history) event
  pub entered : new.history ≡ old.history ++ (record { who = who; event = event; reply = reply }) ∷ []

-- What was handed out before, and what a list has, stay the trace of the device.
abbrev pub HandsOutGrowth : DeskValue → DeskValue → List Item → List Item → Type 0
HandsOutGrowth old new before after = (first : List Item) → first ++ before ≡ Trace old.setup old.history → first ++ after ≡ Trace new.setup new.history

-- neither the history nor what is kept of objects has changed
pub record IsUnchanged (old new : DeskValue) : Type 0 where
  pub history : new.history ≡ old.history
  pub seats : new.seats ≡ old.seats

-- The encoder of a recorder, if it has a handle here: it is of this device, and was not dropped.
abbrev pub encoder_on : DeskValue → RecorderValue → Option ObjRef
encoder_on desk recorder = option_and_then (λ (encoder : ObjRef). if not (encoder.device == desk.setup.serial) || is_none (handle_at desk.seats encoder.number) then None else Some encoder) recorder.encoder

-- whether the encoder of a recorder has no handle here: it is of another device, or was dropped
abbrev pub lacks : DeskValue → RecorderValue → Bool
lacks desk recorder = is_none (encoder_on desk recorder)

-- A recorder is new, and that of the object of this number: it is of the device, was opened for that object, and was never taken from.
pub record IsNewRecorder (setup : Setup) (n : ℕ) (recorder : RecorderValue) : Type 0 where
  pub own : IsRecorderOf setup recorder
  pub opened : recorder.encoder ≡ Some (record { device = setup.serial; number = n })
  pub open_still : recorder.takes ≡ 0

-- Why a call was not made, where it is told whether an object that it names has no handle, and whether a pass that it names was not
-- begun. Want of memory is the one free reason.
abbrev pub IsDue : DeskError → Bool → Bool → Type 0
IsDue NoMemory missing unbegun = (missing ≡ false) × (unbegun ≡ false)
IsDue NoObject missing unbegun = missing ≡ true
IsDue NoPass missing unbegun = (missing ≡ false) × (unbegun ≡ true)

-- what an answer made, if it made something, has this number
abbrev pub IsNumber : Answer → ℕ → Type 0
IsNumber answer n = (number : ℕ) (valid : Bool) → answer ≡ Made number valid → number ≡ n

-- The first bytes of a buffer's range, from lo up to but not including hi, were found that are unset on a device, as many as stand
-- together, or there are none.
abbrev pub FindsUnsetOn : DeskValue → ℕ → ℕ → ℕ → Option (ℕ × ℕ) → Type 0
FindsUnsetOn desk buffer lo hi found = FindsUnset desk.setup desk.history buffer lo hi found
