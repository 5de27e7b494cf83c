-- Of which events what they make is known, and what their replies say.
use Rattle.std.proofs.Common.{◌≡◌, ℕ, Bool, true, false, not, ◌&&◌, ◌||◌, List, [], ◌∷◌, ◌++◌, map, reverse, Option, Some, None, is_some, is_none, refl, ap, ap₂, sym, subst, ◌∙◌, true≢false, if◌then◌else◌}
use Rattle.std.specs.Prelude.{All, option_map, option_to_list}
use Rattle.std.specs.Option.{option_map_or}
use Rattle.std.specs.List.{flat_map, list_any}
use Rattle.std.proofs.lemmas.Bool.{or_parts}
use Rattle.std.proofs.lemmas.List.Elements.{All-weaker}
use Rattle.wg_fading.specs.Fading.{was_let_go}
use Rattle.wg_types.specs.Handles.{HandleValue}
use Rattle.wg_types.specs.Refs.{all_wanted, some_wanted, maybe_wanted}
use Rattle.wg_types.specs.Bindings.{resource_named, map_resource, map_entry, entries_named}
use Rattle.wg_types.specs.declared.bindings.ResourceOf.{ResourceOf}
use Rattle.wg_types.specs.declared.bindings.ResourceOf.TheVariants.{Buffer, View, Sampler}
use Rattle.wg_types.specs.declared.bindings.GroupEntryOf.{GroupEntryOf}
use Rattle.wg_types.specs.Requests.{named}
use Rattle.wg_types.specs.declared.handles.Info.{Info}
use Rattle.wg_types.specs.declared.handles.ObjRef.{ObjRef}
use Rattle.wg_types.specs.declared.render.TargetInfo.{TargetInfo}
use Rattle.wg_trace.specs.declared.replies.Answer.TheVariants.{Made, Plain, BadCompletion}
use Rattle.wg_types.specs.declared.wanted.Wanted.{Wanted}
use Rattle.wg_types.specs.declared.wanted.Wanted.TheVariants as wanted
use Rattle.wg_types.specs.declared.requests.RequestOf.{RequestOf}
use Rattle.wg_types.specs.declared.requests.RequestOf.TheVariants.{CreateBuffer, CreateTexture, CreateView, CreateSampler, CreateBindGroupLayout, CreatePipelineLayout, CreateBindGroup, CreateComputePipeline, CreateRenderPipeline, GetBindGroupLayout, CreateQuerySet, CreateEncoder, CreateBundleEncoder, Finish, FinishBundle, Submit, WriteBuffer, WriteTexture, Destroy, Drop, Complete, PushErrorScope, PopErrorScope, Lose, WorkDone, MapAsync, Unmap}
use Rattle.wg_encoder.specs.Recorders.{RecordingValue}
use Rattle.wg_history.specs.declared.events.Setup.{Setup}
use Rattle.wg_history.specs.declared.events.Event.{Event}
use Rattle.wg_history.specs.declared.events.Form.{Form}
use Rattle.wg_history.specs.declared.events.Form.TheVariants.{Making, Queue, Promise as Promising, Completion, Plain as Plainly}
use Rattle.wg_history.specs.Entries.{effects_of, Entry, Past}
use Rattle.wg_history.specs.Objects.{is_making, count}
use Rattle.wg_history.specs.Loss.{is_lost}
use Rattle.wg_history.specs.FirstRules.{first_rule}
use Rattle.wg_history.specs.Rules.{is_dropped, is_genuine}
use Rattle.wg_history.specs.Answers.{answer_by, is_taken, reply_to}
use Rattle.wg_state.specs.Gone.{named_by, any_gone, AreDead}
use Rattle.wg_calls.specs.Calls.{reference_of, event_asked, info_asked, finish_event, finished_info}
use Rattle.wg_calls.proofs.Genuine.{genuine_more, genuine_made, genuine_finish}
use Rattle.wg_desk.specs.declared.seats.Seat.{Seat}
use Rattle.wg_desk.specs.Seats.{emptied_at}
use Rattle.wg_desk.specs.Sent.{dropped_number, left_after, handed_over}
use Rattle.wg_desk.specs.Desks.{any_dropped, names_dropped, MakesGenuine, IsNumber}

-- A call makes an object exactly where something is known of that.
asked_makes : (request : RequestOf HandleValue) → is_making (event_asked request) ≡ is_some (info_asked request)
asked_makes (CreateBuffer made) = refl
asked_makes (CreateTexture made) = refl
asked_makes (CreateView texture asked) = refl
asked_makes (CreateSampler made) = refl
asked_makes (CreateBindGroupLayout made) = refl
asked_makes (CreatePipelineLayout layouts) = refl
asked_makes (CreateBindGroup layout entries) = refl
asked_makes (CreateComputePipeline layout iface) = refl
asked_makes (CreateRenderPipeline layout desc) = refl
asked_makes (GetBindGroupLayout pipeline index) = refl
asked_makes (CreateQuerySet made) = refl
asked_makes CreateEncoder = refl
asked_makes (CreateBundleEncoder targets) = refl
asked_makes (Finish encoder) = refl
asked_makes (FinishBundle encoder) = refl
asked_makes (Submit buffers) = refl
asked_makes (WriteBuffer buffer offset size) = refl
asked_makes (WriteTexture texture spot layout size data_size) = refl
asked_makes (Destroy object) = refl
asked_makes (Drop object) = refl
asked_makes (Complete op) = refl
asked_makes (PushErrorScope filter) = refl
asked_makes PopErrorScope = refl
asked_makes Lose = refl
asked_makes WorkDone = refl
asked_makes (MapAsync buffer mode offset size) = refl
asked_makes (Unmap buffer) = refl

-- What a call makes whose handles are genuine.
pub asked_genuine : (setup : Setup) (history : List Entry) (request : RequestOf HandleValue) → All (λ (used : HandleValue × Wanted). is_genuine setup (reverse history) used.0 ≡ true) (named request)
    → MakesGenuine setup history (event_asked request) (info_asked request)
asked_genuine setup history request genuine = record {
  making = asked_makes request;
  genuine = λ who reply handle replied made.
      let entry : Entry = record { who = who; event = event_asked request; reply = reply } in
      genuine_made setup entry (reverse history) request handle refl replied
      (All-weaker (λ (used : HandleValue × Wanted). is_genuine setup (reverse history) used.0 ≡ true) (λ (used : HandleValue × Wanted). is_genuine setup (entry ∷ reverse history) used.0 ≡ true)
      (λ used. genuine_more setup entry (reverse history) used.0) (named request) genuine)
      made;
}

-- What the end of an encoder makes, whatever it hands over.
finish_makes : (targets : Option TargetInfo) (encoder : ObjRef) (recording : RecordingValue) → is_making (finish_event targets encoder recording) ≡ true
finish_makes None encoder recording = refl
finish_makes (Some targets) encoder recording = refl

pub finish_genuine : (setup : Setup) (history : List Entry) (targets : Option TargetInfo) (encoder : ObjRef) (recording : RecordingValue)
    → MakesGenuine setup history (finish_event targets encoder recording) (Some (finished_info targets recording))
finish_genuine setup history targets encoder recording = record {
  making = finish_makes targets encoder recording;
  genuine = λ who reply handle replied made.
      genuine_finish setup (record { who = who; event = finish_event targets encoder recording; reply = reply }) (reverse history) targets encoder recording handle refl replied made;
}

-- The end of an encoder hands over its recording.
pub is_handed_over : (targets : Option TargetInfo) (encoder : ObjRef) (recording : RecordingValue) → handed_over (finish_event targets encoder recording) ≡ Some recording
is_handed_over None encoder recording = refl
is_handed_over (Some targets) encoder recording = refl

-- What a reply says that was made is the object of the next number.
pub is_next : (setup : Setup) (past : Past) (event : Event) → IsNumber (reply_to setup past event).answer (count past)
is_next setup past event number valid is = by_form (effects_of event).form (not (is_lost past) && is_none (first_rule setup past event)) is
  where
    by_form : (form : Form) (done : Bool) → answer_by past form done ≡ Made number valid → number ≡ count past
    by_form Making done e = let same : count past ≡ number = cc (e) in sym same
    by_form Queue true e = absurd (cc (e))
    by_form Queue false e = absurd (cc (e))
    by_form (Promising promise) done e = absurd (cc (e))
    by_form (Completion op) done e =
        elim (is_taken past op) as (λ (b : Bool). (if b then Plain else BadCompletion) ≡ Made number valid → number ≡ count past) [ true ↦ λ e. absurd (cc (e)) | false ↦ λ e. absurd (cc (e)) ] e
    by_form Plainly done e = absurd (cc (e))

-- The same of an event, and of what is known, that are those.

pub asked_so : (setup : Setup) (history : List Entry) (request : RequestOf HandleValue) (event : Event) (known : Option Info) → event ≡ event_asked request → known ≡ info_asked request
    → All (λ (used : HandleValue × Wanted). is_genuine setup (reverse history) used.0 ≡ true) (named request) → MakesGenuine setup history event known
asked_so setup history request event known is knows genuine =
    subst (λ (e : Event). MakesGenuine setup history e known) (sym is)
    (subst (λ (k : Option Info). MakesGenuine setup history (event_asked request) k) (sym knows) (asked_genuine setup history request genuine))

pub finished_so : (setup : Setup) (history : List Entry) (targets : Option TargetInfo) (encoder : ObjRef) (recording : RecordingValue) (event : Event) (known : Info)
    → event ≡ finish_event targets encoder recording → known ≡ finished_info targets recording → MakesGenuine setup history event (Some known)
finished_so setup history targets encoder recording event known is knows =
    subst (λ (e : Event). MakesGenuine setup history e (Some known)) (sym is)
    (subst (λ (k : Info). MakesGenuine setup history (finish_event targets encoder recording) (Some k)) (sym knows) (finish_genuine setup history targets encoder recording))

pub hands_over : (targets : Option TargetInfo) (encoder : ObjRef) (recording : RecordingValue) (event : Event) → event ≡ finish_event targets encoder recording → is_some (handed_over event) ≡ true
hands_over targets encoder recording event is = ap (λ (e : Event). is_some (handed_over e)) is ∙ ap (λ (r : Option RecordingValue). is_some r) (is_handed_over targets encoder recording)

-- What events name that was dropped.

objects_asked : (p : ObjRef → Bool) (asked : Wanted) (objects : List HandleValue) → list_any p (map reference_of objects ++ []) ≡ list_any (λ (used : HandleValue × Wanted). p used.0.reference) (all_wanted asked objects)
objects_asked p asked [] = refl
objects_asked p asked (object ∷ objects) = ap (λ (b : Bool). p object.reference || b) (objects_asked p asked objects)

some_asked : (p : ObjRef → Bool) (asked : Wanted) (objects : List (Option HandleValue)) → list_any p (flat_map option_to_list (map (option_map reference_of) objects) ++ []) ≡ list_any (λ (used : HandleValue × Wanted). p used.0.reference) (some_wanted asked objects)
some_asked p asked [] = refl
some_asked p asked (None ∷ objects) = some_asked p asked objects
some_asked p asked (Some object ∷ objects) = ap (λ (b : Bool). p object.reference || b) (some_asked p asked objects)

maybe_asked : (p : ObjRef → Bool) (asked : Wanted) (object : Option HandleValue) → list_any p (option_to_list (option_map reference_of object) ++ []) ≡ list_any (λ (used : HandleValue × Wanted). p used.0.reference) (maybe_wanted asked object)
maybe_asked p asked None = refl
maybe_asked p asked (Some object) = refl

resource_asked : (resource : ResourceOf HandleValue) → (resource_named (map_resource reference_of resource)).0 ≡ (resource_named resource).0.reference
resource_asked (Buffer buffer offset size) = refl
resource_asked (View view) = refl
resource_asked (Sampler sampler) = refl

entries_asked : (p : ObjRef → Bool) (entries : List (GroupEntryOf HandleValue))
    → list_any p (map (λ (named : ObjRef × Wanted). named.0) (entries_named (map (map_entry reference_of) entries)) ++ []) ≡ list_any (λ (used : HandleValue × Wanted). p used.0.reference) (entries_named entries)
entries_asked p [] = refl
entries_asked p (entry ∷ entries) = ap₂ (λ (object : ObjRef) (b : Bool). p object || b) (resource_asked entry.resource) (entries_asked p entries)

-- the event of a call names what the call does
pub asked_names : (setup : Setup) (past : Past) (request : RequestOf HandleValue) → any_dropped setup past (named_by (event_asked request)) ≡ names_dropped setup past (named request)
asked_names setup past (CreatePipelineLayout layouts) = some_asked (λ (object : ObjRef). is_dropped setup past object.number) wanted.GroupLayout layouts
asked_names setup past (CreateBindGroup layout entries) = ap (λ (b : Bool). is_dropped setup past layout.reference.number || b) (entries_asked (λ (object : ObjRef). is_dropped setup past object.number) entries)
asked_names setup past (CreateComputePipeline layout iface) = maybe_asked (λ (object : ObjRef). is_dropped setup past object.number) wanted.PipelineLayout layout
asked_names setup past (CreateRenderPipeline layout desc) = maybe_asked (λ (object : ObjRef). is_dropped setup past object.number) wanted.PipelineLayout layout
asked_names setup past (Submit buffers) = objects_asked (λ (object : ObjRef). is_dropped setup past object.number) wanted.CommandBuffer buffers
asked_names setup past (CreateBuffer made) = refl
asked_names setup past (CreateTexture made) = refl
asked_names setup past (CreateView texture asked) = refl
asked_names setup past (CreateSampler made) = refl
asked_names setup past (CreateBindGroupLayout entries) = refl
asked_names setup past (GetBindGroupLayout pipeline index) = refl
asked_names setup past (CreateQuerySet made) = refl
asked_names setup past CreateEncoder = refl
asked_names setup past (CreateBundleEncoder targets) = refl
asked_names setup past (Finish encoder) = refl
asked_names setup past (FinishBundle encoder) = refl
asked_names setup past (WriteBuffer buffer offset size) = refl
asked_names setup past (WriteTexture texture spot layout size data_size) = refl
asked_names setup past (Destroy object) = refl
asked_names setup past (Drop object) = refl
asked_names setup past (Complete op) = refl
asked_names setup past (PushErrorScope filter) = refl
asked_names setup past PopErrorScope = refl
asked_names setup past Lose = refl
asked_names setup past WorkDone = refl
asked_names setup past (MapAsync buffer mode offset size) = refl
asked_names setup past (Unmap buffer) = refl

-- the end of an encoder names that alone, whatever it hands over
pub finish_names : (setup : Setup) (past : Past) (targets : Option TargetInfo) (encoder : ObjRef) (recording : RecordingValue) → is_dropped setup past encoder.number ≡ false → any_dropped setup past (named_by (finish_event targets encoder recording)) ≡ false
finish_names setup past None encoder recording undropped = ap (λ (b : Bool). b || false) undropped
finish_names setup past (Some targets) encoder recording undropped = ap (λ (b : Bool). b || false) undropped

-- An end drops nothing.

left_all : (event : Event) (seats : List Seat) → dropped_number event ≡ None → left_after event seats ≡ seats
left_all event seats none = ap (λ (o : Option ℕ). option_map_or (emptied_at seats) o seats) none

finish_drops : (targets : Option TargetInfo) (encoder : ObjRef) (recording : RecordingValue) → dropped_number (finish_event targets encoder recording) ≡ None
finish_drops None encoder recording = refl
finish_drops (Some targets) encoder recording = refl

pub finish_leaves : (targets : Option TargetInfo) (encoder : ObjRef) (recording : RecordingValue) (event : Event) (seats : List Seat) → event ≡ finish_event targets encoder recording → left_after event seats ≡ seats
finish_leaves targets encoder recording event seats is = left_all event seats (ap (λ (e : Event). dropped_number e) is ∙ finish_drops targets encoder recording)

-- What was let go was dropped.
pub not_gone : (setup : Setup) (past : Past) (gone : List ℕ) (n : ℕ) → AreDead setup past gone → is_dropped setup past n ≡ false → was_let_go gone n ≡ false
not_gone setup past gone n dead undropped = here (was_let_go gone n) refl
  where
    here : (b : Bool) → was_let_go gone n ≡ b → b ≡ false
    here true out = absurd (true≢false (sym (dead n out).dropped ∙ undropped))
    here false out = refl

-- So none of it is among objects of which none was.
pub none_gone : (setup : Setup) (past : Past) (gone : List ℕ) (objects : List ObjRef) → AreDead setup past gone → any_dropped setup past objects ≡ false → any_gone gone objects ≡ false
none_gone setup past gone [] dead none = refl
none_gone setup past gone (object ∷ objects) dead none =
    let parts : (is_dropped setup past object.number ≡ false) × (any_dropped setup past objects ≡ false) = or_parts (is_dropped setup past object.number) (any_dropped setup past objects) none in
    ap₂ (λ (a b : Bool). a || b) (not_gone setup past gone object.number dead parts.0) (none_gone setup past gone objects dead parts.1)
