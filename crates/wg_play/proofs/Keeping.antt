-- What a lane sees stays genuine as its calls are kept, and so does what its next call makes.
use Rattle.std.proofs.Common.{◌≡◌, ◌≢◌, ◌⊎◌, inl, inr, ℕ, zero, suc, nat_lt, Bool, true, false, Option, Some, None, List, [], ◌∷◌, map, refl, sym, ap, subst, ◌∙◌, if◌then◌else◌}
use Rattle.std.specs.Prelude.{All, option_and_then, option_map}
use Rattle.std.specs.Option.{option_map_or}
use Rattle.std.proofs.lemmas.Bool.{eqb-true}
use Rattle.std.proofs.lemmas.List.Elements.{All-nil, All-cons, All-head, All-tail, All-append, All-weaker}
use Rattle.wg_types.specs.Handles.{HandleValue}
use Rattle.wg_types.specs.Refs.{all_wanted, some_wanted, maybe_wanted}
use Rattle.wg_types.specs.Bindings.{resource_named, entries_named, map_resource, map_entry}
use Rattle.wg_types.specs.Commands.{Command}
use Rattle.wg_types.specs.Requests.{named, map_refs as map_asked}
use Rattle.wg_types.specs.declared.canvases.CanvasCall.{CanvasCall}
use Rattle.wg_types.specs.declared.canvases.CanvasCall.TheVariants.{Configure, Current, Present}
use Rattle.wg_types.specs.declared.canvases.CanvasOf.{CanvasOf}
use Rattle.wg_types.specs.declared.canvases.CanvasOf.TheVariants.{Create, On}
use Rattle.wg_trace.specs.declared.replies.Answer.{Answer}
use Rattle.wg_types.specs.declared.textures.TextureInfo.{TextureInfo}
use Rattle.wg_types.specs.declared.bindings.ResourceOf.{ResourceOf}
use Rattle.wg_types.specs.declared.bindings.ResourceOf.TheVariants.{Buffer, View, Sampler}
use Rattle.wg_types.specs.declared.bindings.GroupEntryOf.{GroupEntryOf}
use Rattle.wg_types.specs.declared.handles.Info.{Info}
use Rattle.wg_types.specs.declared.handles.ObjRef.{ObjRef}
use Rattle.wg_types.specs.declared.render.TargetInfo.{TargetInfo}
use Rattle.wg_types.specs.declared.requests.RequestOf.{RequestOf}
use Rattle.wg_types.specs.declared.requests.RequestOf.TheVariants.{CreateBuffer, CreateTexture, CreateView, CreateSampler, CreateBindGroupLayout, CreatePipelineLayout, CreateBindGroup, CreateComputePipeline, CreateRenderPipeline, GetBindGroupLayout, CreateQuerySet, CreateEncoder, CreateBundleEncoder, Finish, FinishBundle, Submit, WriteBuffer, WriteTexture, Destroy, Drop, Complete, PushErrorScope, PopErrorScope, Lose, WorkDone, MapAsync, Unmap}
use Rattle.wg_types.specs.declared.wanted.Wanted.{Wanted}
use Rattle.wg_types.specs.declared.wanted.Wanted.TheVariants as wanted
use Rattle.wg_canvas.specs.Canvases.{CanvasValue, texture_of, asked_at as stage_asked, act_asked, info_of}
use Rattle.wg_canvas.specs.declared.canvas.Stage.{Stage}
use Rattle.wg_canvas.specs.declared.canvas.Stage.TheVariants.{Unset, Empty, Filled}
use Rattle.wg_encoder.specs.Recorders.{RecorderValue, RecordingValue}
use Rattle.wg_history.specs.declared.events.Setup.{Setup}
use Rattle.wg_history.specs.declared.events.Event.{Event}
use Rattle.wg_history.specs.declared.events.Event.TheVariants.{Late}
use Rattle.wg_history.specs.Entries.{Entry, Past}
use Rattle.wg_history.specs.Rules.{is_genuine}
use Rattle.wg_history.specs.Answers.{reply_to}
use Rattle.wg_calls.specs.Calls.{event_asked, info_asked, finish_event, finished_info, finish_of, known_of_finish, recording_of, taken_out, handle_made}
use Rattle.wg_calls.proofs.Genuine.{genuine_more, IsGenuineIfOwn, genuine_if_own, genuine_finish}
use Rattle.wg_script.specs.CallOf.{BoundCall}
use Rattle.wg_script.specs.declared.calls.CallOf.TheVariants.{Record, Ask, Canvas}
use Rattle.wg_play.specs.declared.objects.Object.{Object}
use Rattle.wg_play.specs.declared.objects.Object.TheVariants as object
use Rattle.wg_play.specs.declared.objects.Stand.{Stand}
use Rattle.wg_play.specs.Canvases.{canvas_at, given_by}
use Rattle.wg_calls.specs.Encoders.{ended_by}
use Rattle.wg_play.specs.Objects.{unknown, handle_at, with_recorder, recorder_at, object_of}
use Rattle.wg_play.specs.Sights.{Sight, place_in, handle_in_sight}
use Rattle.wg_play.specs.Lanes.{canvas_asks, drawn, command_seen, stand_seen, noted_on, kept, finish_by, finish_known, request_seen, event_sent, info_sent, event_of, handle_known, handle_kept, answered_by, settled}
use Rattle.wg_play.specs.Kept.{TextureIsGenuine, HandleIsGenuine, HandlesAreGenuine, SeesGenuine}
use Rattle.wg_play.proofs.Drawn.{recorder_has, noted_has, drawn_others, drawn_has}
use Rattle.wg_play.proofs.Following.{ended_on, with_kept, after_ask}

-- ---- a past goes on

texture_more : (setup : Setup) (entry : Entry) (past : Past) (texture : Option HandleValue) → TextureIsGenuine setup past texture → TextureIsGenuine setup (entry ∷ past) texture
texture_more setup entry past None genuine = tt
texture_more setup entry past (Some texture) genuine = genuine_more setup entry past texture genuine

object_more : (setup : Setup) (entry : Entry) (past : Past) (o : Object) → HandleIsGenuine setup past o → HandleIsGenuine setup (entry ∷ past) o
object_more setup entry past (object.Made handle recorder) genuine = genuine_more setup entry past handle genuine
object_more setup entry past (object.Pass encoder number) genuine = tt
object_more setup entry past (object.Canvas canvas) genuine = texture_more setup entry past (texture_of canvas) genuine
object_more setup entry past (object.Shown texture) genuine = texture_more setup entry past texture genuine

pub objects_more : (setup : Setup) (entry : Entry) (past : Past) (objects : List Object) → HandlesAreGenuine setup past objects → HandlesAreGenuine setup (entry ∷ past) objects
objects_more setup entry past objects all = All-weaker (HandleIsGenuine setup past) (HandleIsGenuine setup (entry ∷ past)) (object_more setup entry past) objects all

pub sees_more : (setup : Setup) (entry : Entry) (past : Past) (sight : Sight) → SeesGenuine setup past sight → SeesGenuine setup (entry ∷ past) sight
sees_more setup entry past sight sees = (objects_more setup entry past sight.others sees.0, objects_more setup entry past sight.own sees.1)

module _ (setup : Setup) (past : Past) where
  -- ---- recording calls

  -- a change of a recorder changes no handle
  pub objects_changed : (change : RecorderValue → RecorderValue) (objects : List Object) (place : ℕ) → HandlesAreGenuine setup past objects → HandlesAreGenuine setup past (with_recorder objects place change)
  objects_changed change objects place all = recorder_has (λ handle. is_genuine setup past handle ≡ true) (TextureIsGenuine setup past) tt change objects place all

  noted_sees : (sight : Sight) (stand : Stand) (command : Command) (made : Option ℕ) → SeesGenuine setup past sight → SeesGenuine setup past (noted_on sight stand command made)
  noted_sees sight stand command made sees = (sees.0, noted_has (λ handle. is_genuine setup past handle ≡ true) (TextureIsGenuine setup past) tt sight.own stand command made sees.1)

  unless_late : (late : Bool) (noted after : Sight) → SeesGenuine setup past noted → (if late then None else Some noted) ≡ Some after → SeesGenuine setup past after
  unless_late true noted after sees e = absurd (cc (e))
  unless_late false noted after sees e = let same : noted ≡ after = cc (e) in subst (SeesGenuine setup past) same sees

  -- ---- calls of canvases

  pub drawn_sees : (sight : Sight) (call : CanvasOf ℕ) (made : Option ℕ) (given : Option HandleValue) → TextureIsGenuine setup past given → SeesGenuine setup past sight → SeesGenuine setup past (drawn sight call made given)
  drawn_sees sight call made given new sees = (
    subst (HandlesAreGenuine setup past) (sym (drawn_others sight call made given)) sees.0,
    drawn_has (λ handle. is_genuine setup past handle ≡ true) (TextureIsGenuine setup past) tt sight call made given new sees.1,
  )

  unless_asked : (asked : Option (RequestOf HandleValue)) (new after : Sight) → SeesGenuine setup past new → option_map_or (λ (request : RequestOf HandleValue). None) asked (Some new) ≡ Some after → SeesGenuine setup past after
  unless_asked None new after sees e = let same : new ≡ after = cc (e) in subst (SeesGenuine setup past) same sees
  unless_asked (Some request) new after sees e = absurd (cc (e))

  kept_sees : (sight : Sight) (call : BoundCall) (after : Sight) → SeesGenuine setup past sight → kept sight call ≡ Some after → SeesGenuine setup past after
  kept_sees sight (Record on command made) after sees e =
      unless_late _ (noted_on sight (stand_seen sight on) (command_seen sight command) made) after (noted_sees sight (stand_seen sight on) (command_seen sight command) made sees) e
  kept_sees sight (Ask request made) after sees e = absurd (cc (e))
  kept_sees sight (Canvas call made) after sees e = unless_asked (canvas_asks sight call) (drawn sight call made None) after (drawn_sees sight call made None tt sees) e

  -- a lane at its next event
  pub settled_sees : (sight : Sight) (calls : List BoundCall) → SeesGenuine setup past sight → SeesGenuine setup past (settled sight calls).sight
  settled_sees sight [] sees = sees
  settled_sees sight (call ∷ calls) sees = by_kept (kept sight call) (λ after e. settled_sees after calls (kept_sees sight call after sees e))
    where
      by_kept : (found : Option Sight) → ((after : Sight) → found ≡ Some after → SeesGenuine setup past (settled after calls).sight)
          → SeesGenuine setup past (option_map_or (λ (after : Sight). settled after calls) found (record { sight = sight; left = call ∷ calls })).sight
      by_kept None f = sees
      by_kept (Some after) f = f after refl

  -- ---- what a call names

  -- a slot that stands for no object is none of this device's
  unknown_if_own : setup.serial ≢ 0 → IsGenuineIfOwn setup past unknown
  unknown_if_own some own = absurd (some (sym (eqb-true 0 setup.serial own)))

  at_if_own : setup.serial ≢ 0 → (objects : List Object) (place : ℕ) → HandlesAreGenuine setup past objects → IsGenuineIfOwn setup past (handle_at objects place)
  at_if_own some [] place all own = unknown_if_own some own
  at_if_own some (object.Made handle recorder ∷ os) zero all own = All-head (HandleIsGenuine setup past) (object.Made handle recorder) os all
  at_if_own some (object.Pass encoder number ∷ os) zero all own = unknown_if_own some own
  at_if_own some (object.Canvas canvas ∷ os) zero all own = unknown_if_own some own
  at_if_own some (object.Shown None ∷ os) zero all own = unknown_if_own some own
  at_if_own some (object.Shown (Some texture) ∷ os) zero all own = All-head (HandleIsGenuine setup past) (object.Shown (Some texture)) os all
  at_if_own some (o ∷ os) (suc place) all own = at_if_own some os place (All-tail (HandleIsGenuine setup past) o os all) own

  seen_if_own : setup.serial ≢ 0 → (sight : Sight) (slot : ℕ) → SeesGenuine setup past sight → IsGenuineIfOwn setup past (handle_in_sight sight slot)
  seen_if_own some sight slot sees = by_slot (nat_lt slot sight.first)
    where
      by_slot : (b : Bool) → IsGenuineIfOwn setup past (if b then handle_at sight.others slot else handle_at sight.own (place_in sight slot))
      by_slot true = at_if_own some sight.others slot sees.0
      by_slot false = at_if_own some sight.own (place_in sight slot) sees.1

  abbrev UsedIfOwn : HandleValue × Wanted → Type 0
  UsedIfOwn used = IsGenuineIfOwn setup past used.0

  module _ (f : ℕ → HandleValue) (each : (slot : ℕ) → IsGenuineIfOwn setup past (f slot)) where
    one_if_own : (slot : ℕ) (want : Wanted) → All UsedIfOwn ((f slot, want) ∷ [])
    one_if_own slot want = All-cons UsedIfOwn (f slot, want) [] (each slot) (All-nil UsedIfOwn)

    maybe_if_own : (slot : Option ℕ) (want : Wanted) → All UsedIfOwn (maybe_wanted want (option_map f slot))
    maybe_if_own None want = All-nil UsedIfOwn
    maybe_if_own (Some slot) want = one_if_own slot want

    wanted_if_own : (want : Wanted) (slots : List ℕ) → All UsedIfOwn (all_wanted want (map f slots))
    wanted_if_own want [] = All-nil UsedIfOwn
    wanted_if_own want (slot ∷ slots) = All-cons UsedIfOwn (f slot, want) (all_wanted want (map f slots)) (each slot) (wanted_if_own want slots)

    some_if_own : (want : Wanted) (slots : List (Option ℕ)) → All UsedIfOwn (some_wanted want (map (option_map f) slots))
    some_if_own want [] = All-nil UsedIfOwn
    some_if_own want (None ∷ slots) = some_if_own want slots
    some_if_own want (Some slot ∷ slots) = All-cons UsedIfOwn (f slot, want) (some_wanted want (map (option_map f) slots)) (each slot) (some_if_own want slots)

    resource_if_own : (resource : ResourceOf ℕ) → UsedIfOwn (resource_named (map_resource f resource))
    resource_if_own (Buffer buffer offset size) = each buffer
    resource_if_own (View view) = each view
    resource_if_own (Sampler sampler) = each sampler

    entries_if_own : (entries : List (GroupEntryOf ℕ)) → All UsedIfOwn (entries_named (map (map_entry f) entries))
    entries_if_own [] = All-nil UsedIfOwn
    entries_if_own (entry ∷ entries) =
        All-cons UsedIfOwn (resource_named (map_resource f entry.resource)) (entries_named (map (map_entry f) entries)) (resource_if_own entry.resource) (entries_if_own entries)

    named_if_own : (request : RequestOf ℕ) → All UsedIfOwn (named (map_asked f request))
    named_if_own (CreateBuffer known) = All-nil UsedIfOwn
    named_if_own (CreateTexture known) = All-nil UsedIfOwn
    named_if_own (CreateView texture asked) = one_if_own texture wanted.Texture
    named_if_own (CreateSampler known) = All-nil UsedIfOwn
    named_if_own (CreateBindGroupLayout entries) = All-nil UsedIfOwn
    named_if_own (CreatePipelineLayout layouts) = some_if_own wanted.GroupLayout layouts
    named_if_own (CreateBindGroup layout entries) = All-cons UsedIfOwn (f layout, wanted.GroupLayout) (entries_named (map (map_entry f) entries)) (each layout) (entries_if_own entries)
    named_if_own (CreateComputePipeline layout iface) = maybe_if_own layout wanted.PipelineLayout
    named_if_own (CreateRenderPipeline layout desc) = maybe_if_own layout wanted.PipelineLayout
    named_if_own (GetBindGroupLayout pipeline index) = one_if_own pipeline wanted.Pipeline
    named_if_own (CreateQuerySet known) = All-nil UsedIfOwn
    named_if_own CreateEncoder = All-nil UsedIfOwn
    named_if_own (CreateBundleEncoder targets) = All-nil UsedIfOwn
    named_if_own (Finish encoder) = one_if_own encoder wanted.Encoder
    named_if_own (FinishBundle encoder) = one_if_own encoder wanted.BundleEncoder
    named_if_own (Submit buffers) = wanted_if_own wanted.CommandBuffer buffers
    named_if_own (WriteBuffer buffer offset size) = one_if_own buffer wanted.Buffer
    named_if_own (WriteTexture texture spot layout size data_size) = one_if_own texture wanted.Texture
    named_if_own (Destroy object) = one_if_own object wanted.Destroyable
    named_if_own (Drop object) = one_if_own object wanted.Object
    named_if_own (Complete op) = All-nil UsedIfOwn
    named_if_own (PushErrorScope filter) = All-nil UsedIfOwn
    named_if_own PopErrorScope = All-nil UsedIfOwn
    named_if_own Lose = All-nil UsedIfOwn
    named_if_own WorkDone = All-nil UsedIfOwn
    named_if_own (MapAsync buffer mode offset size) = one_if_own buffer wanted.Buffer
    named_if_own (Unmap buffer) = one_if_own buffer wanted.Buffer

-- ---- which event a call is

-- The end of an encoder, with whatever its recorder hands over.
record IsEnd (sight : Sight) (request : RequestOf ℕ) : Type 0 where
  encoder : ObjRef
  targets : Option TargetInfo
  recording : RecordingValue
  is : event_sent sight request ≡ finish_event targets encoder recording
  makes : info_sent sight request ≡ Some (finished_info targets recording)

record IsAsked (sight : Sight) (request : RequestOf ℕ) : Type 0 where
  is : event_sent sight request ≡ event_asked (request_seen sight request)
  makes : info_sent sight request ≡ info_asked (request_seen sight request)

abbrev IsSent : Sight → RequestOf ℕ → Type 0
IsSent sight request = IsAsked sight request ⊎ IsEnd sight request

sent : (sight : Sight) (request : RequestOf ℕ) → IsSent sight request
sent sight request = by_ended (ended_by request) refl
  where
    event : Event
    event = event_asked (request_seen sight request)

    known : Option Info
    known = info_asked (request_seen sight request)

    event_by : Option ℕ → Event
    event_by ended = option_map_or (λ encoder. finish_by (recorder_at sight.own (place_in sight encoder)) event) ended event

    info_by : Option ℕ → Option Info
    info_by ended = option_map_or (λ encoder. finish_known (recorder_at sight.own (place_in sight encoder)) known) ended known

    by_encoder : (recorder : RecorderValue) → event_sent sight request ≡ finish_by (Some recorder) event → info_sent sight request ≡ finish_known (Some recorder) known
        → (open_for : Option ObjRef) → recorder.encoder ≡ open_for → IsSent sight request
    by_encoder recorder is makes None none = inl (record {
      is = is ∙ ap (λ (o : Option ObjRef). option_map_or (λ (encoder : ObjRef). finish_of encoder recorder) o event) none;
      makes = makes ∙ ap (λ (o : Option ObjRef). option_map_or (λ (encoder : ObjRef). Some (known_of_finish recorder)) o known) none;
    })
    by_encoder recorder is makes (Some encoder) opened = inr (record {
      encoder = encoder;
      targets = recorder.targets;
      recording = recording_of recorder;
      is = is ∙ ap (λ (o : Option ObjRef). option_map_or (λ (e : ObjRef). finish_of e recorder) o event) opened;
      makes = makes ∙ ap (λ (o : Option ObjRef). option_map_or (λ (e : ObjRef). Some (known_of_finish recorder)) o known) opened;
    })

    by_recorder : (found : Option RecorderValue) → event_sent sight request ≡ finish_by found event → info_sent sight request ≡ finish_known found known → IsSent sight request
    by_recorder None is makes = inl (record { is = is; makes = makes })
    by_recorder (Some recorder) is makes = by_encoder recorder is makes recorder.encoder refl

    by_ended : (ended : Option ℕ) → ended_by request ≡ ended → IsSent sight request
    by_ended None none = inl (record { is = ap event_by none; makes = ap info_by none })
    by_ended (Some slot) ends = by_recorder (recorder_at sight.own (place_in sight slot)) (ap event_by ends) (ap info_by ends)

-- ---- what a call makes

-- The handle of it is genuine once the call is made.
made_is_genuine : (setup : Setup) → setup.serial ≢ 0 → (entry : Entry) (past : Past) (sight : Sight) (request : RequestOf ℕ) (handle : HandleValue) → SeesGenuine setup past sight
    → entry.event ≡ event_sent sight request → entry.reply ≡ reply_to setup past entry.event
    → handle_known setup (info_sent sight request) entry.reply.answer ≡ Some handle → is_genuine setup (entry ∷ past) handle ≡ true
made_is_genuine setup some entry past sight request handle sees asked replied e = elim (sent sight request) [
  | inl same ↦ genuine_if_own setup entry past (request_seen sight request) handle (asked ∙ same.is) replied
      (named_if_own setup (entry ∷ past) (handle_in_sight sight) (λ slot. seen_if_own setup (entry ∷ past) some sight slot (sees_more setup entry past sight sees)) request)
      (sym (ap (λ (o : Option Info). handle_known setup o entry.reply.answer) same.makes) ∙ e)
  | inr end ↦ genuine_finish setup entry past end.targets end.encoder end.recording handle (asked ∙ end.is) replied
      (sym (ap (λ (o : Option Info). handle_known setup o entry.reply.answer) end.makes) ∙ e)
]

kept_if_made : (setup : Setup) (past : Past) (objects : List Object) (handle : Option HandleValue) → HandlesAreGenuine setup past objects → ((h : HandleValue) → handle ≡ Some h → is_genuine setup past h ≡ true)
    → HandlesAreGenuine setup past (with_kept setup.limits objects handle)
kept_if_made setup past objects None all genuine = all
kept_if_made setup past objects (Some h) all genuine =
    All-append (HandleIsGenuine setup past) objects (object_of setup.limits h ∷ []) all (All-cons (HandleIsGenuine setup past) (object_of setup.limits h) [] (genuine h refl) (All-nil (HandleIsGenuine setup past)))

ended_kept : (setup : Setup) (past : Past) (sight : Sight) (ended : Option ℕ) → HandlesAreGenuine setup past sight.own → HandlesAreGenuine setup past (ended_on sight ended)
ended_kept setup past sight None all = all
ended_kept setup past sight (Some encoder) all =
    objects_changed setup past taken_out sight.own (place_in sight encoder) all

slot_made : (made : Option ℕ) (found : Option HandleValue) (handle : HandleValue) → option_and_then (λ (slot : ℕ). found) made ≡ Some handle → found ≡ Some handle
slot_made None found handle e = absurd (cc (e))
slot_made (Some slot) found handle e = e

-- What the device makes for a canvas is genuine once it is made.

given_handle : (setup : Setup) (entry : Entry) (past : Past) (known : TextureInfo) → entry.event ≡ event_asked (CreateTexture known) → entry.reply ≡ reply_to setup past entry.event
    → (found : Option HandleValue) → handle_made setup.serial (CreateTexture known) entry.reply.answer ≡ found → TextureIsGenuine setup (entry ∷ past) found
given_handle setup entry past known asked replied None e = tt
given_handle setup entry past known asked replied (Some handle) e = genuine_if_own setup entry past (CreateTexture known) handle asked replied (All-nil (UsedIfOwn setup (entry ∷ past))) e

given_expiry : (setup : Setup) (past : Past) (texture : Option HandleValue) (answer : Answer) → TextureIsGenuine setup past (given_by setup (option_map Destroy texture) answer)
given_expiry setup past None answer = tt
given_expiry setup past (Some texture) answer = tt

abbrev event_if : Option (RequestOf HandleValue) → Event
event_if asked = option_map_or event_asked asked (Late unknown.reference)

given_stage : (setup : Setup) (entry : Entry) (past : Past) (canvas : CanvasValue) (stage : Stage) → entry.event ≡ event_if (stage_asked canvas stage) → entry.reply ≡ reply_to setup past entry.event
    → TextureIsGenuine setup (entry ∷ past) (given_by setup (stage_asked canvas stage) entry.reply.answer)
given_stage setup entry past canvas Unset asked replied = tt
given_stage setup entry past canvas (Empty setting) asked replied =
    given_handle setup entry past (info_of canvas setting) asked replied (handle_made setup.serial (CreateTexture (info_of canvas setting)) entry.reply.answer) refl
given_stage setup entry past canvas (Filled setting texture) asked replied = tt

given_act : (setup : Setup) (entry : Entry) (past : Past) (canvas : CanvasValue) (call : CanvasCall) → entry.event ≡ event_if (act_asked canvas call) → entry.reply ≡ reply_to setup past entry.event
    → TextureIsGenuine setup (entry ∷ past) (given_by setup (act_asked canvas call) entry.reply.answer)
given_act setup entry past canvas (Configure format usage) asked replied = given_expiry setup (entry ∷ past) (texture_of canvas) entry.reply.answer
given_act setup entry past canvas Current asked replied = given_stage setup entry past canvas canvas.stage asked replied
given_act setup entry past canvas Present asked replied = given_expiry setup (entry ∷ past) (texture_of canvas) entry.reply.answer

abbrev asked_of : CanvasCall → Option CanvasValue → Option (RequestOf HandleValue)
asked_of call found = option_and_then (λ canvas. act_asked canvas call) found

given_found : (setup : Setup) (entry : Entry) (past : Past) (found : Option CanvasValue) (call : CanvasCall) → entry.event ≡ event_if (asked_of call found) → entry.reply ≡ reply_to setup past entry.event
    → TextureIsGenuine setup (entry ∷ past) (given_by setup (asked_of call found) entry.reply.answer)
given_found setup entry past None call asked replied = tt
given_found setup entry past (Some canvas) call asked replied = given_act setup entry past canvas call asked replied

pub given_genuine : (setup : Setup) (entry : Entry) (past : Past) (sight : Sight) (call : CanvasOf ℕ) (made : Option ℕ) → entry.event ≡ event_of sight (Canvas call made) → entry.reply ≡ reply_to setup past entry.event
    → TextureIsGenuine setup (entry ∷ past) (given_by setup (canvas_asks sight call) entry.reply.answer)
given_genuine setup entry past sight (Create width height) made asked replied = tt
given_genuine setup entry past sight (On canvas call) made asked replied = given_found setup entry past (canvas_at sight.own (place_in sight canvas)) call asked replied

-- What a lane sees after its next call.
pub answered_sees : (setup : Setup) → setup.serial ≢ 0 → (entry : Entry) (past : Past) (sight : Sight) (call : BoundCall) → SeesGenuine setup past sight
    → entry.event ≡ event_of sight call → entry.reply ≡ reply_to setup past entry.event
    → SeesGenuine setup (entry ∷ past) (answered_by setup sight call entry.reply.answer)
answered_sees setup some entry past sight (Record on command made) sees asked replied =
    noted_sees setup (entry ∷ past) sight (stand_seen sight on) (command_seen sight command) made (sees_more setup entry past sight sees)
answered_sees setup some entry past sight (Ask request made) sees asked replied =
    let more : SeesGenuine setup (entry ∷ past) sight = sees_more setup entry past sight sees in
    let handle : Option HandleValue = handle_kept setup sight request made entry.reply.answer in
    subst (SeesGenuine setup (entry ∷ past)) (sym (after_ask setup sight request made entry.reply.answer)) (
      more.0,
      kept_if_made setup (entry ∷ past) (ended_on sight (ended_by request)) handle (ended_kept setup (entry ∷ past) sight (ended_by request) more.1)
          (λ h e. made_is_genuine setup some entry past sight request h sees asked replied (slot_made made (handle_known setup (info_sent sight request) entry.reply.answer) h e)),
    )
answered_sees setup some entry past sight (Canvas call made) sees asked replied =
    drawn_sees setup (entry ∷ past) sight call made (given_by setup (canvas_asks sight call) entry.reply.answer) (given_genuine setup entry past sight call made asked replied)
    (sees_more setup entry past sight sees)
