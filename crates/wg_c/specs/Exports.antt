-- What the exports do, by the status that they return: 0 OK, 1 NO_MEMORY, 2 NO_OBJECT, 3 CLOSED, 4 BAD_VALUE, 5 NO_PASS, 6 END, 7 IS_OPEN, 8 NO_ROOM, 9 LATE.
use Rattle.std.specs.Prelude.{◌≡◌, ℕ, ◌+◌, ◌||◌, not, nat_eq, true, [], length, slice_get, Option, Some, None, option_map, option_and_then, IsSomeAnd, MatchBool, MatchOption, if◌then◌else◌}
use Rattle.std.specs.Option.{option_map_or}
use Rattle.wg_types.specs.declared.commands.CommandOf.{CommandOf}
use Rattle.wg_types.specs.declared.commands.On.{On}
use Rattle.wg_types.specs.declared.commands.On.TheVariants.{Encoder}
use Rattle.wg_types.specs.declared.limits.Limits.{Limits}
use Rattle.wg_types.specs.declared.requests.RequestOf.{RequestOf}
use Rattle.wg_types.specs.Commands.{named as command_named}
use Rattle.wg_types.specs.Requests.{named}
use Rattle.wg_encoder.specs.Recorders.{RecorderValue}
use Rattle.wg_encoder.specs.declared.recorder.Noted.{Noted}
use Rattle.wg_encoder.specs.declared.recorder.Noted.TheVariants.{Kept, Late}
use Rattle.wg_calls.specs.Calls.{taken_out}
use Rattle.wg_calls.specs.Encoders.{is_begun}
use Rattle.wg_desk.specs.declared.desk.DeskError.{DeskError}
use Rattle.wg_desk.specs.declared.desk.DeskError.TheVariants.{NoMemory, NoObject, NoPass}
use Rattle.wg_desk.specs.Seats.{any_missing}
use Rattle.wg_desk.specs.Sent.{recorder_asked}
use Rattle.wg_desk.specs.Desks.{encoder_on, lacks}
use Rattle.wg_told.specs.declared.limits.ToldBadLimit.{ToldBadLimit}
use Rattle.wg_told.specs.Limits.{limit_at}
use Rattle.wg_told.specs.declared.replies.ToldReply.{ToldReply}
use Rattle.wg_told.specs.declared.replies.ToldSettlement.{ToldSettlement}
use Rattle.wg_told.specs.declared.items.ToldItem.{ToldItem}
use Rattle.wg_told.specs.declared.items.ToldUse.{ToldUse}
use Rattle.wg_told.specs.declared.items.ToldAccess.{ToldAccess}
use Rattle.wg_told.specs.Items.{item_told, use_told, access_told, uses_of, accesses_of}
use Rattle.wg_told.specs.declared.drains.ToldCounts.{ToldCounts}
use Rattle.wg_c.specs.declared.inner.Drained.TheVariants.{Told, Wants, Ended}
use Rattle.wg_c.specs.declared.left.ToldLeft.{ToldLeft}
use Rattle.wg_c.specs.Inners.{InnerValue, IsOpened, NothingHasChanged, HasAsked, HasNoted, HasComeLate, HasFinished, IsHeld, HasToldNext, Sheets, HasDrained, last_of, left_in}

-- what a call does to a device that is closed, and to one that is open
abbrev pub Over : Option InnerValue → Option InnerValue → Type 0 → (InnerValue → InnerValue → Type 0) → Type 0
Over None new closed opened = closed
Over (Some a) new closed opened = MatchOption new ⊥ (λ b. opened a b)

-- a call of a closed device, which stays so
abbrev pub IsShut : {A : Type 0} → Option InnerValue → A → A → ℕ → Type 0
IsShut new before after status = (status ≡ 3) × (new ≡ None) × (after ≡ before)

-- A call was not made: why, and that nothing has changed.
pub record IsNotMade (cause : Type 0) (old new : InnerValue) (before after : ToldReply) : Type 0 where
  pub because : cause
  pub same : NothingHasChanged old new
  pub out : after ≡ before

-- Calls.

-- A call was one, and was made and told.
abbrev pub IsAsked : Option (RequestOf ℕ) → InnerValue → InnerValue → ToldReply → Type 0
IsAsked None old new after = ⊥
IsAsked (Some request) old new after = HasAsked old new request after

-- A call was one, and names a number that has no handle.
abbrev pub Misses : Option (RequestOf ℕ) → InnerValue → Type 0
Misses None old = ⊥
Misses (Some request) old = any_missing old.desk.seats (named request) ≡ true

-- Why a call was not made: for want of memory, a number without a handle, or a value that is none.
abbrev pub IsAskCause : Option (RequestOf ℕ) → InnerValue → ℕ → Type 0
IsAskCause asked old status =
    MatchBool (nat_eq status 1) (Unit {0}) (MatchBool (nat_eq status 2) (Misses asked old) (MatchBool (nat_eq status 4) (asked ≡ None) ⊥))

-- On an open device: the status is OK where the desk has made the call, and else nothing has changed.
abbrev pub AsksOpen : Option (RequestOf ℕ) → ToldReply → ToldReply → ℕ → InnerValue → InnerValue → Type 0
AsksOpen asked before after status old new =
    MatchBool (nat_eq status 0) (IsAsked asked old new after) (IsNotMade (IsAskCause asked old status) old new before after)

-- What a call of a device does, open or not.
abbrev pub Asks : Option (RequestOf ℕ) → Option InnerValue → Option InnerValue → ToldReply → ToldReply → ℕ → Type 0
Asks asked old new before after status = Over old new (IsShut new before after status) (AsksOpen asked before after status)

-- the status by which a refusal of the desk is told
abbrev pub status_of : DeskError → ℕ
status_of NoMemory = 1
status_of NoObject = 2
status_of NoPass = 5

-- Encoders.

-- the recorder that a call made on a device that was open, if it was made, and makes an encoder
abbrev pub recorder_by : Option (RequestOf ℕ) → InnerValue → ℕ → Option RecorderValue
recorder_by None old status = None
recorder_by (Some request) old status = if nat_eq status 0 then recorder_asked old.desk.setup old.desk.seats request else None

-- What a call that makes an encoder does with a pointer that has none, on a device that is open.
abbrev pub MakesOpen : Option (RequestOf ℕ) → ToldReply → ToldReply → ℕ → Option RecorderValue → InnerValue → InnerValue → Type 0
MakesOpen asked before after status recorder old new = AsksOpen asked before after status old new × (recorder ≡ recorder_by asked old status)

-- What a call that makes an encoder does; a pointer that has one keeps it, and status 7 says so.
abbrev pub Makes : Option (RequestOf ℕ) → Option InnerValue → Option InnerValue → Option RecorderValue → Option RecorderValue → ToldReply → ToldReply → ℕ → Type 0
Makes asked old new (Some held) recorder before after status = (status ≡ 7) × (new ≡ old) × (recorder ≡ Some held) × (after ≡ before)
Makes asked old new None recorder before after status = Over old new (IsShut new before after status × (recorder ≡ None)) (MakesOpen asked before after status recorder)

-- what a call does to a device and to the recorder of an encoder, where one of the two is closed, and where both are open
abbrev pub Between : Option InnerValue → Option InnerValue → Option RecorderValue → Option RecorderValue → Type 0
    → (InnerValue → InnerValue → RecorderValue → RecorderValue → Type 0) → Type 0
Between None new held left closed opened = closed
Between (Some a) new None left closed opened = closed
Between (Some a) new (Some r) left closed opened = MatchOption new ⊥ (λ b. MatchOption left ⊥ (λ s. opened a b r s))

-- a call of a device and an encoder of which one is closed, which stay as they are
abbrev pub AreShut : Option InnerValue → Option InnerValue → Option RecorderValue → Option RecorderValue → ToldReply → ToldReply → ℕ → Type 0
AreShut old new held left before after status = (status ≡ 3) × (new ≡ old) × (left ≡ held) × (after ≡ before)

-- Why an encoder was not ended, or it was not told that a command came late: for want of memory, or the encoder has no handle on the
-- device.
abbrev pub IsEncoderCause : InnerValue → RecorderValue → ℕ → Type 0
IsEncoderCause old recorder status = MatchBool (nat_eq status 1) (Unit {0}) (MatchBool (nat_eq status 2) (lacks old.desk recorder ≡ true) ⊥)

-- On an open device and an open encoder: the status is OK where the encoder was ended, which leaves its recorder without commands.
abbrev pub FinishesOpen : ToldReply → ToldReply → ℕ → InnerValue → InnerValue → RecorderValue → RecorderValue → Type 0
FinishesOpen before after status old new recorder left =
    MatchBool (nat_eq status 0) (IsSomeAnd (encoder_on old.desk recorder) (λ encoder. HasFinished old new recorder encoder after) × (left ≡ taken_out recorder))
    (IsNotMade (IsEncoderCause old recorder status) old new before after × IsHeld recorder left)

-- What the end of an encoder does, on a device and an encoder that are open or not.
abbrev pub Finishes : Option InnerValue → Option InnerValue → Option RecorderValue → Option RecorderValue → ToldReply → ToldReply → ℕ → Type 0
Finishes old new held left before after status = Between old new held left (AreShut old new held left before after status) (FinishesOpen before after status)

-- On an open device and an open encoder: the status is OK where the device was told that a command came late. The recorder stays as it is.
abbrev pub TellsLateOpen : ToldReply → ToldReply → ℕ → InnerValue → InnerValue → RecorderValue → RecorderValue → Type 0
TellsLateOpen before after status old new recorder left =
    MatchBool (nat_eq status 0) (IsSomeAnd (encoder_on old.desk recorder) (λ encoder. HasComeLate old new encoder after))
    (IsNotMade (IsEncoderCause old recorder status) old new before after) × (left ≡ recorder)

-- What it does to tell a device that a command came late, on a device and an encoder that are open or not.
abbrev pub TellsLate : Option InnerValue → Option InnerValue → Option RecorderValue → Option RecorderValue → ToldReply → ToldReply → ℕ → Type 0
TellsLate old new held left before after status = Between old new held left (AreShut old new held left before after status) (TellsLateOpen before after status)

-- What the close of an encoder does: one that was open is open no longer; one that was not has status 3.
abbrev pub ClosesEncoder : Option RecorderValue → Option RecorderValue → ℕ → Type 0
ClosesEncoder None left status = (status ≡ 3) × (left ≡ None)
ClosesEncoder (Some held) left status = (status ≡ 0) × (left ≡ None)

-- Commands. The device is only read.

-- A command was one, and was noted on its recorder.
abbrev pub IsNoted : Option (CommandOf ℕ) → On → Noted → InnerValue → RecorderValue → RecorderValue → Type 0
IsNoted None on answer device old new = ⊥
IsNoted (Some command) on answer device old new = HasNoted device old new on command answer

-- A command was one, and its encoder or a number that it names has no handle.
abbrev pub MissesOn : Option (CommandOf ℕ) → InnerValue → RecorderValue → Type 0
MissesOn None device old = ⊥
MissesOn (Some command) device old = (lacks device.desk old || any_missing device.desk.seats (command_named command)) ≡ true

-- Why a command was not noted: for want of memory, an object without a handle, a value that is none, or a pass that was not begun.
abbrev pub IsRecordCause : Option (CommandOf ℕ) → On → InnerValue → RecorderValue → ℕ → Type 0
IsRecordCause asked on device old status =
    MatchBool (nat_eq status 1) (Unit {0}) (MatchBool (nat_eq status 2) (MissesOn asked device old) (MatchBool (nat_eq status 4) (asked ≡ None)
    (MatchBool (nat_eq status 5) (not (is_begun on old.passes) ≡ true) ⊥)))

-- What a command does on a device and an encoder that are open: the status is 0 where it was kept, and 9 where it came late; else it was
-- not noted, and nothing has changed.
abbrev pub RecordsOpen : Option (CommandOf ℕ) → On → ℕ → InnerValue → RecorderValue → RecorderValue → Type 0
RecordsOpen asked on status device old new =
    MatchBool (nat_eq status 0) (IsNoted asked on Kept device old new)
    (MatchBool (nat_eq status 9) (IsNoted asked on Late device old new) (IsRecordCause asked on device old status × (new ≡ old)))

-- what a call does to the recorder of an encoder, where that or the device is closed, and where both are open
abbrev pub Beside : Option InnerValue → Option RecorderValue → Option RecorderValue → Type 0 → (InnerValue → RecorderValue → RecorderValue → Type 0) → Type 0
Beside None held left closed opened = closed
Beside (Some a) None left closed opened = closed
Beside (Some a) (Some r) left closed opened = MatchOption left ⊥ (λ s. opened a r s)

-- What a command does, on a device and an encoder that are open or not.
abbrev pub Records : Option (CommandOf ℕ) → On → Option InnerValue → Option RecorderValue → Option RecorderValue → ℕ → Type 0
Records asked on device held left status = Beside device held left ((status ≡ 3) × (left ≡ held)) (RecordsOpen asked on status)

-- the number of the pass that a command has begun on an encoder, where it was noted, and else what was there
abbrev pub pass_after : Option RecorderValue → ℕ → ℕ → ℕ
pass_after held status before = if nat_eq status 0 || nat_eq status 9 then option_map_or (λ recorder. recorder.passes) held before else before

-- What a command that begins a pass does: it is told the number of that.
abbrev pub Begins : Option (CommandOf ℕ) → Option InnerValue → Option RecorderValue → Option RecorderValue → ℕ → ℕ → ℕ → Type 0
Begins asked device held left before after status = Records asked Encoder device held left status × (after ≡ pass_after held status before)

-- Opening, over limits of which it is told which value is the first that is none, if one is.

-- A device has nothing on it, and the limits.
abbrev pub IsNew : Limits → ℕ → ℕ → Option InnerValue → Type 0
IsNew limits budget serial new = MatchOption new ⊥ (λ b. IsOpened b budget serial limits)

-- What an open does with a pointer that has no device: with a value that is none it has the status 4, and tells which that is; else it
-- opens the device, or there was no memory, which is the one free answer.
abbrev pub OpensShut : Option ToldBadLimit → Limits → ℕ → ℕ → Option InnerValue → ToldBadLimit → ToldBadLimit → ℕ → Type 0
OpensShut (Some bad) limits budget serial new before after status = (status ≡ 4) × (new ≡ None) × (after ≡ bad)
OpensShut None limits budget serial new before after status =
    MatchBool (nat_eq status 0) (IsNew limits budget serial new) ((status ≡ 1) × (new ≡ None)) × (after ≡ before)

-- What an open does; a pointer that has a device keeps it, and status 7 says so.
abbrev pub Opens : Option ToldBadLimit → Limits → ℕ → ℕ → Option InnerValue → Option InnerValue → ToldBadLimit → ToldBadLimit → ℕ → Type 0
Opens bad limits budget serial None new before after status = OpensShut bad limits budget serial new before after status
Opens bad limits budget serial (Some a) new before after status = (status ≡ 7) × (new ≡ Some a) × (after ≡ before)

-- What a call for a limit tells of an open device, which stays as it is: the limit that its setup has under the number, or by status 4
-- that the number is none.
abbrev pub TellsLimit : ℕ → ℕ → ℕ → ℕ → InnerValue → InnerValue → Type 0
TellsLimit name before after status old new =
    MatchOption (limit_at old.desk.setup.limits name) ((status ≡ 4) × (new ≡ old) × (after ≡ before)) (λ value. (status ≡ 0) × (new ≡ old) × (after ≡ value))

-- What a call for a limit tells, of a device that is open or not.
abbrev pub GetsLimit : ℕ → Option InnerValue → Option InnerValue → ℕ → ℕ → ℕ → Type 0
GetsLimit name old new before after status = Over old new (IsShut new before after status) (TellsLimit name before after status)

-- What a close does: a device that was open is open no longer, and how much of it was not told is told; one that was not open has
-- status 3.
abbrev pub Closes : Option InnerValue → Option InnerValue → ToldLeft → ToldLeft → ℕ → Type 0
Closes None new before after status = (status ≡ 3) × (new ≡ None) × (after ≡ before)
Closes (Some a) new before after status = (status ≡ 0) × (new ≡ None) × (after ≡ left_in a)

-- Drains.

-- The next item was told, or all were and the list is emptied.
abbrev pub TellsItem : ToldItem → ToldItem → ℕ → InnerValue → InnerValue → Type 0
TellsItem before after status old new =
    MatchOption (slice_get old.items old.told) ((status ≡ 6) × (old.told ≡ length old.items) × (new ≡ record old { items = []; told = 0 }) × (after ≡ before))
    (λ item. (status ≡ 0) × (new ≡ record old { told = old.told + 1 }) × (after ≡ item_told item))

-- What a call for the next item of the trace tells.
abbrev pub NextItem : Option InnerValue → Option InnerValue → ToldItem → ToldItem → ℕ → Type 0
NextItem old new before after status = Over old new (IsShut new before after status) (TellsItem before after status)

-- What a drain of many items tells, by its status: 0 of those that it told, 8 of what the next item takes where there is no room for it.
abbrev pub TellsItems : Sheets → Sheets → ToldCounts → ToldCounts → ℕ → InnerValue → InnerValue → Type 0
TellsItems before after counts_before counts status old new =
    MatchBool (nat_eq status 0) (HasDrained old new before after (Told counts))
    (MatchBool (nat_eq status 8) (HasDrained old new before after (Wants counts))
    ((status ≡ 6) × HasDrained old new before after Ended × (counts ≡ counts_before)))

-- What a closed device tells of many items: nothing.
abbrev pub TellsNoItems : Option InnerValue → Sheets → Sheets → ToldCounts → ToldCounts → ℕ → Type 0
TellsNoItems new before after counts_before counts status = (status ≡ 3) × (new ≡ None) × (after ≡ before) × (counts ≡ counts_before)

-- What a call for the next items of the trace tells.
abbrev pub NextItems : Option InnerValue → Option InnerValue → Sheets → Sheets → ToldCounts → ToldCounts → ℕ → Type 0
NextItems old new before after counts_before counts status =
    Over old new (TellsNoItems new before after counts_before counts status) (TellsItems before after counts_before counts status)

-- a part of the item that was told last is told, if it has that
abbrev pub TellsPart : {A : Type 0} → (InnerValue → Option A) → A → A → ℕ → InnerValue → InnerValue → Type 0
TellsPart found before after status old new =
    MatchOption (found old) ((status ≡ 6) × (new ≡ old) × (after ≡ before)) (λ told. (status ≡ 0) × (new ≡ old) × (after ≡ told))

-- the use of a number of the item that was told last, as it is told, if it has one
abbrev pub use_at : ℕ → InnerValue → Option ToldUse
use_at at old = option_map use_told (option_and_then (λ item. slice_get (uses_of item) at) (last_of old.items old.told))

-- the access of a number of the item that was told last, as it is told, if it has one
abbrev pub access_at : ℕ → InnerValue → Option ToldAccess
access_at at old = option_map access_told (option_and_then (λ item. slice_get (accesses_of item) at) (last_of old.items old.told))

-- What a call for a use of the last item tells.
abbrev pub ItemUse : ℕ → Option InnerValue → Option InnerValue → ToldUse → ToldUse → ℕ → Type 0
ItemUse at old new before after status = Over old new (IsShut new before after status) (TellsPart (use_at at) before after status)

-- What a call for an access of the last item tells.
abbrev pub ItemAccess : ℕ → Option InnerValue → Option InnerValue → ToldAccess → ToldAccess → ℕ → Type 0
ItemAccess at old new before after status = Over old new (IsShut new before after status) (TellsPart (access_at at) before after status)

-- The next settlement was told, or none is left.
abbrev pub TellsSettlement : ToldSettlement → ToldSettlement → ℕ → InnerValue → InnerValue → Type 0
TellsSettlement before after status old new =
    MatchBool (nat_eq status 0) (HasToldNext old new after) ((status ≡ 6) × (old.settled ≡ []) × (new ≡ old) × (after ≡ before))

-- What a call for the next settlement tells.
abbrev pub NextSettlement : Option InnerValue → Option InnerValue → ToldSettlement → ToldSettlement → ℕ → Type 0
NextSettlement old new before after status = Over old new (IsShut new before after status) (TellsSettlement before after status)
