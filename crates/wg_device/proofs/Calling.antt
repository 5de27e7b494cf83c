-- What the last entry of a pass's history says of the handle that its call gives.
use Rattle.std.proofs.Common.{◌≡◌, ℕ, List, [], ◌∷◌, ◌++◌, reverse, true, Option, Some, None, is_some, Result, Ok, Err, refl, ap, sym, ◌∙◌, subst}
use Rattle.std.specs.Prelude.{All, IfSome, IfOk}
use Rattle.std.proofs.lemmas.List.{reverse-append}
use Rattle.std.proofs.lemmas.List.Elements.{All-nil, All-cons, All-head, All-tail}
use Rattle.wg_types.specs.Handles.{HandleValue}
use Rattle.wg_types.specs.Refs.{some_wanted, maybe_wanted}
use Rattle.wg_types.specs.Bindings.{entries_named}
use Rattle.wg_types.specs.declared.bindings.GroupEntryOf.{GroupEntryOf}
use Rattle.wg_types.specs.Requests.{named, kind_made}
use Rattle.wg_types.specs.declared.wanted.Wanted.{Wanted}
use Rattle.wg_types.specs.declared.handles.Info.{Info}
use Rattle.wg_types.specs.declared.handles.ObjRef.{ObjRef}
use Rattle.wg_trace.specs.declared.replies.Reply.{Reply}
use Rattle.wg_types.specs.declared.requests.RequestOf.{RequestOf}
use Rattle.wg_encoder.specs.Recorders.{RecorderValue}
use Rattle.wg_history.specs.declared.events.Setup.{Setup}
use Rattle.wg_history.specs.declared.events.Event.{Event}
use Rattle.wg_history.specs.Entries.{Entry, Past}
use Rattle.wg_history.specs.Rules.{is_genuine}
use Rattle.wg_history.specs.Answers.{reply_to, IsRun}
use Rattle.wg_history.proofs.Runs.{newest}
use Rattle.wg_turn.specs.Entries.{entry}
use Rattle.wg_turn.specs.Passes.{number_of}
use Rattle.wg_calls.specs.Calls.{event_asked, info_asked, handle_of, handle_made, finish_of, known_of_finish, recording_of, maker_with}
use Rattle.wg_calls.specs.Judged.{IsRecorderOf}
use Rattle.wg_calls.proofs.Judged.{made_device}
use Rattle.wg_calls.proofs.Genuine.{genuine_made, gives_handle, genuine_finish, gives_finish}
use Rattle.wg_device.specs.Fronts.{Lock, DevicePass, setup_of, front_in, IsAct}
use Rattle.wg_device.specs.Handles.{IsHandleOf, IsGenuine, AreGenuine, IsGenuineIn, AreGenuineIn}

-- the past of the last entry of a history that ends with a call, whose reply is the one that it has there
record Ended (lock : Lock) (new : DevicePass) (last : Entry) : Type 0 where
  past : Past
  back : reverse (front_in lock new) ≡ last ∷ past
  replied : last.reply ≡ reply_to (setup_of lock) past last.event

ended : (lock : Lock) (old new : DevicePass) (event : Event) (reply : Reply) → IsAct lock old new event reply → Ended lock new (entry (number_of old) event reply)
ended lock old new event reply act =
    let last : Entry = entry (number_of old) event reply in
    let base : List Entry = front_in lock old ++ act.ends.0 in
    let back : reverse (front_in lock new) ≡ last ∷ reverse base = ap reverse act.ends.1 ∙ reverse-append base (last ∷ []) in
    record { past = reverse base; back = back; replied = newest (setup_of lock) last (reverse base) (subst (IsRun (setup_of lock)) back act.sound.lawful) }

-- A call of a device gives a genuine handle, if those that it names are genuine.
pub asked_genuine : (lock : Lock) (old new : DevicePass) (request : RequestOf HandleValue) (handle : HandleValue) (reply : Reply) → IsAct lock old new (event_asked request) reply
    → AreGenuine (setup_of lock) (front_in lock new) (named request) → handle_made (setup_of lock).serial request reply.answer ≡ Some handle
    → IsGenuine (setup_of lock) (front_in lock new) handle
asked_genuine lock old new request handle reply act genuine made =
    let end = ended lock old new (event_asked request) reply act in
    subst (λ (past : Past). is_genuine (setup_of lock) past handle ≡ true) (sym end.back)
    (genuine_made (setup_of lock) (entry (number_of old) (event_asked request) reply) end.past request handle refl end.replied
    (subst (λ (past : Past). All (λ (used : HandleValue × Wanted). is_genuine (setup_of lock) past used.0 ≡ true) (named request)) end.back genuine) made)

pub if_genuine : (lock : Lock) (old new : DevicePass) (request : RequestOf HandleValue) (made : Option HandleValue) (reply : Reply) → IsAct lock old new (event_asked request) reply
    → made ≡ handle_made (setup_of lock).serial request reply.answer → AreGenuineIn lock new (named request)
    → IfSome made (λ handle. IsGenuineIn lock new handle)
if_genuine lock old new request (Some handle) reply act made genuine = asked_genuine lock old new request handle reply act genuine (sym made)
if_genuine lock old new request None reply act made genuine = tt

-- A call that makes an object gives a handle.
pub asked_gives : (lock : Lock) (old new : DevicePass) (request : RequestOf HandleValue) (reply : Reply) → IsAct lock old new (event_asked request) reply
    → is_some (kind_made request) ≡ true → is_some (handle_made (setup_of lock).serial request reply.answer) ≡ true
asked_gives lock old new request reply act makes =
    let end = ended lock old new (event_asked request) reply act in
    gives_handle (setup_of lock) (entry (number_of old) (event_asked request) reply) end.past request refl end.replied makes

-- So does a finish, of a bundle encoder too, whose handle is genuine.
pub finished_genuine : (lock : Lock) (old new : DevicePass) (encoder : ObjRef) (recorder : RecorderValue) (handle : HandleValue) (reply : Reply) → IsAct lock old new (finish_of encoder recorder) reply
    → handle_of (setup_of lock).serial (known_of_finish recorder) reply.answer ≡ Some handle → IsGenuine (setup_of lock) (front_in lock new) handle
finished_genuine lock old new encoder recorder handle reply act made =
    let end = ended lock old new (finish_of encoder recorder) reply act in
    subst (λ (past : Past). is_genuine (setup_of lock) past handle ≡ true) (sym end.back)
    (genuine_finish (setup_of lock) (entry (number_of old) (finish_of encoder recorder) reply) end.past recorder.targets encoder (recording_of recorder) handle refl end.replied made)

pub finished_gives : (lock : Lock) (old new : DevicePass) (encoder : ObjRef) (recorder : RecorderValue) (known : Info) (reply : Reply) → IsAct lock old new (finish_of encoder recorder) reply
    → known ≡ known_of_finish recorder → is_some (handle_of (setup_of lock).serial known reply.answer) ≡ true
finished_gives lock old new encoder recorder known reply act is =
    let end = ended lock old new (finish_of encoder recorder) reply act in
    ap (λ (info : Info). is_some (handle_of (setup_of lock).serial info reply.answer)) is
    ∙ gives_finish (setup_of lock) (entry (number_of old) (finish_of encoder recorder) reply) end.past recorder.targets encoder (recording_of recorder) refl end.replied

-- The recorder of an encoder that the device made is of the device.
pub opens_own : (lock : Lock) (request : RequestOf HandleValue) (reply : Reply) (handle : HandleValue) (recorder : RecorderValue) → IsHandleOf lock request reply handle
    → recorder.maker ≡ maker_with handle.reference.device (setup_of lock).limits → IsRecorderOf (setup_of lock) recorder
opens_own lock request reply handle recorder of made =
    made ∙ ap (λ (device : ℕ). maker_with device (setup_of lock).limits) (made_device (setup_of lock).serial (info_asked request) reply.answer handle of)

-- What a call names is genuine.

pub none_named : (setup : Setup) (front : List Entry) → AreGenuine setup front []
none_named setup front = All-nil (λ (used : HandleValue × Wanted). IsGenuine setup front used.0)

pub more_named : (setup : Setup) (front : List Entry) (handle : HandleValue) (asked : Wanted) (useds : List (HandleValue × Wanted)) → IsGenuine setup front handle → AreGenuine setup front useds
    → AreGenuine setup front ((handle, asked) ∷ useds)
more_named setup front handle asked useds genuine more = All-cons (λ (used : HandleValue × Wanted). IsGenuine setup front used.0) (handle, asked) useds genuine more

pub one_named : (setup : Setup) (front : List Entry) (handle : HandleValue) (asked : Wanted) → IsGenuine setup front handle → AreGenuine setup front ((handle, asked) ∷ [])
one_named setup front handle asked genuine = more_named setup front handle asked [] genuine (none_named setup front)

-- what is given of a list of handles, of which some may be left out
abbrev GivenGenuine : Setup → List Entry → Option HandleValue → Type 0
GivenGenuine setup front handle = IfSome handle (λ (h : HandleValue). IsGenuine setup front h)

pub some_named : (setup : Setup) (front : List Entry) (asked : Wanted) (handles : List (Option HandleValue)) → All (λ handle. IfSome handle (λ h. IsGenuine setup front h)) handles
    → AreGenuine setup front (some_wanted asked handles)
some_named setup front asked [] all = none_named setup front
some_named setup front asked (None ∷ handles) all = some_named setup front asked handles (All-tail (GivenGenuine setup front) None handles all)
some_named setup front asked (Some handle ∷ handles) all =
    more_named setup front handle asked (some_wanted asked handles) (All-head (GivenGenuine setup front) (Some handle) handles all)
    (some_named setup front asked handles (All-tail (GivenGenuine setup front) (Some handle) handles all))

pub maybe_named : (setup : Setup) (front : List Entry) (asked : Wanted) (handle : Option HandleValue) → IfSome handle (λ h. IsGenuine setup front h) → AreGenuine setup front (maybe_wanted asked handle)
maybe_named setup front asked None genuine = none_named setup front
maybe_named setup front asked (Some handle) genuine = one_named setup front handle asked genuine

-- The same of calls that name a handle, one that may be left out, the handles of a list, or a layout and what is bound.

pub after_one : {E : Type 0} (result : Result (HandleValue × Reply) E) (setup : Setup) (front : List Entry) (shared handle : HandleValue) (asked : Wanted) → shared ≡ handle
    → IfOk result (λ t. AreGenuine setup front ((shared, asked) ∷ []) → IsGenuine setup front t.0)
    → IfOk result (λ t. IsGenuine setup front handle → IsGenuine setup front t.0)
after_one (Ok made) setup front shared handle asked same after = λ genuine. after (one_named setup front shared asked (subst (λ (h : HandleValue). IsGenuine setup front h) (sym same) genuine))
after_one (Err e) setup front shared handle asked same after = tt

pub after_maybe : {E : Type 0} (result : Result (HandleValue × Reply) E) (setup : Setup) (front : List Entry) (shared handle : Option HandleValue) (asked : Wanted) → shared ≡ handle
    → IfOk result (λ t. AreGenuine setup front (maybe_wanted asked shared) → IsGenuine setup front t.0)
    → IfOk result (λ t. IfSome handle (λ h. IsGenuine setup front h) → IsGenuine setup front t.0)
after_maybe (Ok made) setup front shared handle asked same after =
    λ genuine. after (maybe_named setup front asked shared (subst (λ (held : Option HandleValue). IfSome held (λ (h : HandleValue). IsGenuine setup front h)) (sym same) genuine))
after_maybe (Err e) setup front shared handle asked same after = tt

pub after_some : {E : Type 0} (result : Result (HandleValue × Reply) E) (setup : Setup) (front : List Entry) (held handles : List (Option HandleValue)) (asked : Wanted) → held ≡ handles
    → IfOk result (λ t. AreGenuine setup front (some_wanted asked held) → IsGenuine setup front t.0)
    → IfOk result (λ t. All (λ handle. IfSome handle (λ h. IsGenuine setup front h)) handles → IsGenuine setup front t.0)
after_some (Ok made) setup front held handles asked same after =
    λ genuine. after (some_named setup front asked held (subst (λ (list : List (Option HandleValue)). All (GivenGenuine setup front) list) (sym same) genuine))
after_some (Err e) setup front held handles asked same after = tt

pub after_group : {E : Type 0} (result : Result (HandleValue × Reply) E) (setup : Setup) (front : List Entry) (shared handle : HandleValue) (asked : Wanted) (held entries : List (GroupEntryOf HandleValue)) → shared ≡ handle → held ≡ entries
    → IfOk result (λ t. AreGenuine setup front ((shared, asked) ∷ entries_named held) → IsGenuine setup front t.0)
    → IfOk result (λ t. IsGenuine setup front handle → AreGenuine setup front (entries_named entries) → IsGenuine setup front t.0)
after_group (Ok made) setup front shared handle asked held entries same alike after =
    λ genuine bound. after (more_named setup front shared asked (entries_named held) (subst (λ (h : HandleValue). IsGenuine setup front h) (sym same) genuine)
    (subst (λ (list : List (GroupEntryOf HandleValue)). AreGenuine setup front (entries_named list)) (sym alike) bound))
after_group (Err e) setup front shared handle asked held entries same alike after = tt
