-- What a lane has made after a call, late or kept, and what is known of the object of a call.
use Rattle.std.proofs.Common.{◌≡◌, ℕ, ◌+◌, true, Option, Some, None, List, [], ◌∷◌, ◌++◌, length, refl, sym, ap, subst, ◌∙◌, inl, inr, arith}
use Rattle.std.specs.Prelude.{option_map, option_and_then, is_some, unwrap_or}
use Rattle.std.specs.Option.{option_map_or, option_to_list}
use Rattle.std.proofs.lemmas.Bool.{cases_Bool}
use Rattle.std.proofs.lemmas.List.{length-append}
use Rattle.wg_types.specs.Handles.{HandleValue}
use Rattle.wg_types.specs.Kinds.{kind_of}
use Rattle.wg_types.specs.Requests.{kind_made, map_refs as map_asked}
use Rattle.wg_types.specs.declared.limits.Limits.{Limits}
use Rattle.wg_types.specs.declared.canvases.CanvasOf.{CanvasOf}
use Rattle.wg_types.specs.declared.commands.CommandOf.{CommandOf}
use Rattle.wg_types.specs.declared.handles.Info.{Info}
use Rattle.wg_trace.specs.declared.replies.Answer.{Answer}
use Rattle.wg_trace.specs.declared.replies.Answer.TheVariants.{Made, Queued, Promised, Plain, BadCompletion}
use Rattle.wg_types.specs.declared.requests.RequestOf.{RequestOf}
use Rattle.wg_types.specs.declared.requests.RequestOf.TheVariants.{CreateBuffer, CreateTexture, CreateView, CreateSampler, CreateBindGroupLayout, CreatePipelineLayout, CreateBindGroup, CreateComputePipeline, CreateRenderPipeline, GetBindGroupLayout, CreateQuerySet, CreateEncoder, CreateBundleEncoder, Finish, FinishBundle, Submit, WriteBuffer, WriteTexture, Destroy, Drop, Complete, PushErrorScope, PopErrorScope, Lose, WorkDone, MapAsync, Unmap}
use Rattle.wg_types.specs.declared.wanted.Kind.{Kind}
use Rattle.wg_types.specs.declared.handles.ObjRef.{ObjRef}
use Rattle.wg_encoder.specs.Recorders.{RecorderValue}
use Rattle.wg_history.specs.declared.events.Setup.{Setup}
use Rattle.wg_calls.specs.Calls.{info_asked, known_of_finish, handle_of}
use Rattle.wg_script.specs.CallOf.{BoundCall}
use Rattle.wg_script.specs.declared.calls.CallOf.TheVariants.{Record, Ask, Canvas}
use Rattle.wg_names.specs.Uses.{made_as, made_of}
use Rattle.wg_play.specs.declared.objects.Object.{Object}
use Rattle.wg_play.specs.Canvases.{given_by}
use Rattle.wg_play.specs.Found.{CanvasIsSeen}
use Rattle.wg_calls.specs.Encoders.{ended_by}
use Rattle.wg_play.specs.Objects.{recorder_at, is_late_on, taken_on, object_of}
use Rattle.wg_play.specs.Sights.{Sight, place_in, handle_in_sight}
use Rattle.wg_play.specs.Lanes.{canvas_asks, drawn, command_seen, stand_seen, noted_on, finish_known, request_seen, info_sent, with_handle, handle_known, handle_kept}
use Rattle.wg_play.specs.Late.{IsAnswerTo, is_made, after_call}
use Rattle.wg_play.proofs.Drawn.{drawn_first, drawn_others}
use Rattle.wg_play.proofs.Ended.{is_finish}

-- ---- what a lane has made after a call

-- what the recorder of an encoder that is ended has kept was taken
abbrev pub ended_on : Sight → Option ℕ → List Object
ended_on sight ended = option_map_or (λ encoder. taken_on sight.own (place_in sight encoder)) ended sight.own

abbrev pub with_kept : Limits → List Object → Option HandleValue → List Object
with_kept limits objects None = objects
with_kept limits objects (Some handle) = objects ++ object_of limits handle ∷ []

-- a recording call changes its recorder alone and makes its pass, late or not
pub after_record : (setup : Setup) (sight : Sight) (on : ℕ) (command : CommandOf ℕ) (made : Option ℕ) (answer : Answer)
    → after_call setup sight (Record on command made, answer) ≡ noted_on sight (stand_seen sight on) (command_seen sight command) made
after_record setup sight on command made answer = elim (cases_Bool (is_late_on sight.own (stand_seen sight on))) [ inl late ↦ rw late refl | inr kept ↦ rw kept refl ]

taken_own : (sight : Sight) (ended : Option ℕ) → option_map_or (λ encoder. record sight { own = taken_on sight.own (place_in sight encoder) }) ended sight ≡ record sight { own = ended_on sight ended }
taken_own sight None = refl
taken_own sight (Some encoder) = refl

handle_own : (limits : Limits) (sight : Sight) (own : List Object) (handle : Option HandleValue) → with_handle limits (record sight { own = own }) handle ≡ record sight { own = with_kept limits own handle }
handle_own limits sight own None = refl
handle_own limits sight own (Some handle) = refl

pub after_ask : (setup : Setup) (sight : Sight) (request : RequestOf ℕ) (made : Option ℕ) (answer : Answer)
    → after_call setup sight (Ask request made, answer) ≡ record sight { own = with_kept setup.limits (ended_on sight (ended_by request)) (handle_kept setup sight request made answer) }
after_ask setup sight request made answer =
    ap (λ s. with_handle setup.limits s (handle_kept setup sight request made answer)) (taken_own sight (ended_by request))
    ∙ handle_own setup.limits sight (ended_on sight (ended_by request)) (handle_kept setup sight request made answer)

-- a call of a canvas changes its canvas alone and makes its name, kept or answered

drawn_by : (setup : Setup) (sight : Sight) (call : CanvasOf ℕ) (made : Option ℕ) (answer : Answer) (asked : Option (RequestOf HandleValue))
    → unwrap_or (option_map_or (λ (request : RequestOf HandleValue). None) asked (Some (drawn sight call made None))) (drawn sight call made (given_by setup asked answer))
    ≡ drawn sight call made (given_by setup asked answer)
drawn_by setup sight call made answer None = refl
drawn_by setup sight call made answer (Some request) = refl

pub after_canvas : (setup : Setup) (sight : Sight) (call : CanvasOf ℕ) (made : Option ℕ) (answer : Answer)
    → after_call setup sight (Canvas call made, answer) ≡ drawn sight call made (given_by setup (canvas_asks sight call) answer)
after_canvas setup sight call made answer = drawn_by setup sight call made answer (canvas_asks sight call)

-- what others have made, and where the lane's own slots begin, stay
pub same_first : (setup : Setup) (sight : Sight) (call : BoundCall) (answer : Answer) → (after_call setup sight (call, answer)).first ≡ sight.first
same_first setup sight (Record on command made) answer = ap (λ (s : Sight). s.first) (after_record setup sight on command made answer)
same_first setup sight (Ask request made) answer = ap (λ (s : Sight). s.first) (after_ask setup sight request made answer)
same_first setup sight (Canvas call made) answer =
    ap (λ (s : Sight). s.first) (after_canvas setup sight call made answer) ∙ drawn_first sight call made (given_by setup (canvas_asks sight call) answer)

pub same_others : (setup : Setup) (sight : Sight) (call : BoundCall) (answer : Answer) → (after_call setup sight (call, answer)).others ≡ sight.others
same_others setup sight (Record on command made) answer = ap (λ (s : Sight). s.others) (after_record setup sight on command made answer)
same_others setup sight (Ask request made) answer = ap (λ (s : Sight). s.others) (after_ask setup sight request made answer)
same_others setup sight (Canvas call made) answer =
    ap (λ (s : Sight). s.others) (after_canvas setup sight call made answer) ∙ drawn_others sight call made (given_by setup (canvas_asks sight call) answer)

-- ---- the object of a call of the device

pub info_kind : (f : ℕ → HandleValue) (request : RequestOf ℕ) → option_map kind_of (info_asked (map_asked f request)) ≡ kind_made request
info_kind f (CreateBuffer known) = refl
info_kind f (CreateTexture known) = refl
info_kind f (CreateView texture asked) = refl
info_kind f (CreateSampler known) = refl
info_kind f (CreateBindGroupLayout entries) = refl
info_kind f (CreatePipelineLayout layouts) = refl
info_kind f (CreateBindGroup layout entries) = refl
info_kind f (CreateComputePipeline layout iface) = refl
info_kind f (CreateRenderPipeline layout desc) = refl
info_kind f (GetBindGroupLayout pipeline index) = refl
info_kind f (CreateQuerySet known) = refl
info_kind f CreateEncoder = refl
info_kind f (CreateBundleEncoder targets) = refl
info_kind f (Finish encoder) = refl
info_kind f (FinishBundle encoder) = refl
info_kind f (Submit buffers) = refl
info_kind f (WriteBuffer buffer offset size) = refl
info_kind f (WriteTexture texture spot layout size data_size) = refl
info_kind f (Destroy object) = refl
info_kind f (Drop object) = refl
info_kind f (Complete op) = refl
info_kind f (PushErrorScope filter) = refl
info_kind f PopErrorScope = refl
info_kind f Lose = refl
info_kind f WorkDone = refl
info_kind f (MapAsync buffer mode offset size) = refl
info_kind f (Unmap buffer) = refl

-- That of a finish is known by its encoder's recorder, whichever that is.

some_opened : (recorder : RecorderValue) (known : Info) (open_for : Option ObjRef) → is_some (option_map_or (λ encoder. Some (known_of_finish recorder)) open_for (Some known)) ≡ true
some_opened recorder known None = refl
some_opened recorder known (Some encoder) = refl

some_finish : (found : Option RecorderValue) (known : Info) → is_some (finish_known found (Some known)) ≡ true
some_finish None known = refl
some_finish (Some recorder) known = some_opened recorder known recorder.encoder

some_mapped : {X Y : Type 0} (f : X → Y) (o : Option X) → is_some (option_map f o) ≡ is_some o
some_mapped f None = refl
some_mapped f (Some x) = refl

-- so that something is known just where the call makes something
some_sent : (sight : Sight) (request : RequestOf ℕ) → is_some (info_sent sight request) ≡ is_some (kind_made request)
some_sent sight request = by_ended (ended_by request) refl
  where
    asked : Option Info
    asked = info_asked (request_seen sight request)

    by_ended : (ended : Option ℕ) → ended_by request ≡ ended → is_some (info_sent sight request) ≡ is_some (kind_made request)
    by_ended None none =
        ap (λ (o : Option ℕ). is_some (option_map_or (λ encoder. finish_known (recorder_at sight.own (place_in sight encoder)) asked) o asked)) none
        ∙ (sym (some_mapped kind_of asked) ∙ ap (λ (o : Option Kind). is_some o) (info_kind (handle_in_sight sight) request))
    by_ended (Some encoder) ends = elim (is_finish request encoder ends) [
      | inl same ↦ subst (λ (r : RequestOf ℕ). is_some (info_sent sight r) ≡ is_some (kind_made r)) (sym same) (some_finish (recorder_at sight.own (place_in sight encoder)) _)
      | inr same ↦ subst (λ (r : RequestOf ℕ). is_some (info_sent sight r) ≡ is_some (kind_made r)) (sym same) (some_finish (recorder_at sight.own (place_in sight encoder)) _)
    ]

-- there is a handle just where the call makes something that has a slot
abbrev pub FitsSlot : Option HandleValue → Option (ℕ × Kind) → Type 0
FitsSlot None None = Unit {0}
FitsSlot None (Some made) = ⊥
FitsSlot (Some handle) None = ⊥
FitsSlot (Some handle) (Some made) = Unit {0}

fits_known : (setup : Setup) (known : Option Info) (answer : Answer) (made : Option ℕ) (found : Option Kind) → is_some known ≡ is_some found → (is_some (made_as made found) ≡ true → is_made answer ≡ true)
    → FitsSlot (option_and_then (λ slot. handle_known setup known answer) made) (made_as made found)
fits_known setup known answer None found e answered = tt
fits_known setup None answer (Some slot) None e answered = tt
fits_known setup None answer (Some slot) (Some k) e answered = absurd (cc (e))
fits_known setup (Some x) answer (Some slot) None e answered = absurd (cc (e))
fits_known setup (Some x) (Made number valid) (Some slot) (Some k) e answered = tt
fits_known setup (Some x) (Queued op) (Some slot) (Some k) e answered = absurd (cc (answered refl))
fits_known setup (Some x) Promised (Some slot) (Some k) e answered = absurd (cc (answered refl))
fits_known setup (Some x) Plain (Some slot) (Some k) e answered = absurd (cc (answered refl))
fits_known setup (Some x) BadCompletion (Some slot) (Some k) e answered = absurd (cc (answered refl))

pub handle_fits : (setup : Setup) (sight : Sight) (request : RequestOf ℕ) (made : Option ℕ) (answer : Answer) → IsAnswerTo (Ask request made) answer
    → FitsSlot (handle_kept setup sight request made answer) (made_of (Ask request made))
handle_fits setup sight request made answer answered =
    fits_known setup (info_sent sight request) answer made (kind_made request) (some_sent sight request) answered

-- What is known of that which a call makes is of the kind that it makes, and a call of a canvas finds it.
abbrev pub MakesAs : Sight → BoundCall → Type 0
MakesAs sight (Record on command made) = Unit {0}
MakesAs sight (Ask request made) = option_map kind_of (info_sent sight request) ≡ kind_made request
MakesAs sight (Canvas call made) = CanvasIsSeen sight call

pub same_kind : (slot on : ℕ) (found : Option Kind) (k : Kind) → made_as (Some slot) found ≡ Some (on, k) → found ≡ Some k
same_kind slot on None k e = absurd (cc)
same_kind slot on (Some x) k e = let same : (slot, x) ≡ (on, k) = cc in ap (λ (m : ℕ × Kind). Some m.1) same

info_of : (setup : Setup) (known : Info) (answer : Answer) (handle : HandleValue) → handle_of setup.serial known answer ≡ Some handle → known ≡ handle.info
info_of setup known (Made number valid) handle e =
    let new : HandleValue = record { reference = record { device = setup.serial; number = number }; valid = valid; info = known } in
    let same : new ≡ handle = cc (e) in
    ap (λ (h : HandleValue). h.info) same
info_of setup known (Queued op) handle e = absurd (cc (e))
info_of setup known Promised handle e = absurd (cc (e))
info_of setup known Plain handle e = absurd (cc (e))
info_of setup known BadCompletion handle e = absurd (cc (e))

kind_known : (setup : Setup) (known : Option Info) (answer : Answer) (made : Option ℕ) (found : Option Kind) (handle : HandleValue) (slot : ℕ) (k : Kind) → option_map kind_of known ≡ found
    → option_and_then (λ n. handle_known setup known answer) made ≡ Some handle → made_as made found ≡ Some (slot, k) → kind_of handle.info ≡ k
kind_known setup known answer None found handle slot k e is makes = absurd (cc (is))
kind_known setup None answer (Some n) found handle slot k e is makes = absurd (cc (is))
kind_known setup (Some x) answer (Some n) found handle slot k e is makes =
    let same : Some (kind_of x) ≡ Some k = e ∙ same_kind n slot found k makes in
    let kind : kind_of x ≡ k = cc (same) in
    sym (ap kind_of (info_of setup x answer handle is)) ∙ kind

-- and so it is of its handle
pub handle_kind : (setup : Setup) (sight : Sight) (request : RequestOf ℕ) (made : Option ℕ) (answer : Answer) (slot : ℕ) (k : Kind) → MakesAs sight (Ask request made) → made_of (Ask request made) ≡ Some (slot, k)
    → (handle : HandleValue) → handle_kept setup sight request made answer ≡ Some handle → kind_of handle.info ≡ k
handle_kind setup sight request made answer slot k fit makes handle is = kind_known setup (info_sent sight request) answer made (kind_made request) handle slot k fit is makes

pub fits_length : (limits : Limits) (objects : List Object) (handle : Option HandleValue) (made : Option (ℕ × Kind)) → FitsSlot handle made → length (with_kept limits objects handle) ≡ length objects + length (option_to_list made)
fits_length limits objects None None fits = omega arith
fits_length limits objects None (Some made) fits = absurd fits
fits_length limits objects (Some handle) None fits = absurd fits
fits_length limits objects (Some handle) (Some made) fits = length-append objects (object_of limits handle ∷ [])
