-- The handle that a call gives of what it made is genuine once the call is made, if those that it names are, and stays so.
use Rattle.std.proofs.Common.{◌≡◌, ℕ, ◌<◌, List, [], ◌∷◌, ◌++◌, map, reverse, Bool, true, false, not, ◌&&◌, ◌||◌, ◌==◌, Option, Some, None, is_some, is_none, option_and_then, refl, ap, ap₂, sym, ◌∙◌, subst, if◌then◌else◌, true≢false}
use Rattle.std.specs.Prelude.{All, option_map, slice_index_or}
use Rattle.std.specs.Option.{option_map_or}
use Rattle.std.proofs.lemmas.Bool.{and_parts, and_from, eq-eqb}
use Rattle.std.proofs.lemmas.List.{reverse-append}
use Rattle.std.proofs.lemmas.List.Elements.{All-nil, All-cons}
use Rattle.wg_types.specs.Handles.{HandleValue}
use Rattle.wg_types.specs.Kinds.{kind_of}
use Rattle.wg_types.specs.Wanted.{admits}
use Rattle.wg_types.specs.Refs.{some_wanted, maybe_wanted}
use Rattle.wg_types.specs.Bindings.{resource_named, map_resource, map_entry, entries_named}
use Rattle.wg_types.specs.Requests.{named, kind_made}
use Rattle.wg_types.specs.declared.wanted.Wanted.{Wanted}
use Rattle.wg_types.specs.declared.wanted.Wanted.TheVariants as wanted
use Rattle.wg_types.specs.declared.handles.ObjRef.{ObjRef}
use Rattle.wg_types.specs.declared.handles.Info.{Info}
use Rattle.wg_types.specs.declared.bindings.ResourceOf.{ResourceOf}
use Rattle.wg_types.specs.declared.bindings.ResourceOf.TheVariants.{Buffer, View, Sampler}
use Rattle.wg_types.specs.declared.bindings.GroupEntryOf.{GroupEntryOf}
use Rattle.wg_types.specs.declared.groups.GroupInfo.{GroupInfo}
use Rattle.wg_types.specs.declared.groups.ComputeInfo.{ComputeInfo}
use Rattle.wg_types.specs.declared.groups.RenderInfo.{RenderInfo}
use Rattle.wg_types.specs.declared.render.TargetInfo.{TargetInfo}
use Rattle.wg_trace.specs.declared.replies.Answer.{Answer}
use Rattle.wg_trace.specs.declared.replies.Answer.TheVariants.{Made}
use Rattle.wg_trace.specs.declared.replies.Reply.{Reply}
use Rattle.wg_types.specs.declared.requests.RequestOf.{RequestOf}
use Rattle.wg_types.specs.declared.requests.RequestOf.TheVariants.{CreateBuffer, CreateTexture, CreateView, CreateSampler, CreateBindGroupLayout, CreatePipelineLayout, CreateBindGroup, CreateComputePipeline, CreateRenderPipeline, GetBindGroupLayout, CreateQuerySet, CreateEncoder, CreateBundleEncoder, Finish, FinishBundle, Submit, WriteBuffer, WriteTexture, Destroy, Drop, Complete, PushErrorScope, PopErrorScope, Lose, WorkDone, MapAsync, Unmap}
use Rattle.wg_model.specs.Rules.{Rule, AreMet, first_unmet}
use Rattle.wg_model.specs.Equality.{same_bool}
use Rattle.wg_model.specs.Layouts.{pipeline_layout_rules}
use Rattle.wg_model.specs.Automatic.{derived_rules, get_layout_rules}
use Rattle.wg_model.specs.Groups.{group_rules}
use Rattle.wg_model.specs.Pipelines.{compute_pipeline_rules}
use Rattle.wg_model.specs.RenderPipelines.{render_pipeline_rules}
use Rattle.wg_model.specs.Making.{pipeline_layout_made, group_made, compute_made, render_made}
use Rattle.wg_model.proofs.Unmet.{all_met}
use Rattle.wg_encoder.specs.Recorders.{RecordingValue}
use Rattle.wg_history.specs.declared.events.Setup.{Setup}
use Rattle.wg_history.specs.declared.events.Event.{Event}
use Rattle.wg_history.specs.declared.events.Form.{Form}
use Rattle.wg_history.specs.declared.events.Form.TheVariants.{Making, Queue, Promise as Promising, Completion, Plain as Plainly}
use Rattle.wg_history.specs.Entries.{effects_of, Entry, Past}
use Rattle.wg_history.specs.Objects.{is_making, is_making_form, count, maker, info_made, made_info, known_in, info_at, is_own, is_valid, is_made_valid, is_texture_info}
use Rattle.wg_history.specs.Infos.{same_kind, same_info}
use Rattle.wg_history.specs.Loss.{is_lost}
use Rattle.wg_history.specs.Rules.{is_genuine, create_view_list, create_view_rule}
use Rattle.wg_history.specs.GroupRules.{named_rules, group_named, create_pipeline_layout_rule, create_bind_group_rule, create_compute_pipeline_rule, create_render_pipeline_rule, get_bind_group_layout_rule}
use Rattle.wg_history.specs.FirstRules.{first_rule}
use Rattle.wg_history.specs.Answers.{answer_by, reply_to}
use Rattle.wg_history.proofs.BindingLaws.{infos_tell}
use Rattle.wg_history.proofs.Tests.{met_before}
use Rattle.wg_history.proofs.Makers.{maker_stays, info_stays, own_below}
use Rattle.wg_history.proofs.Holders.{genuine_below}
use Rattle.wg_history.proofs.Reached.{genuine_knows}
use Rattle.wg_calls.specs.Calls.{reference_of, event_asked, info_asked, finish_event, finished_info, handle_of, handle_made, view_asked}
use Rattle.wg_calls.specs.Genuine.{StaysGenuine}
use Rattle.wg_calls.proofs.Infos.{KnowsHandle, info_is_made}

-- a handle that is genuine stays so
pub genuine_more : (setup : Setup) (entry : Entry) (past : Past) (handle : HandleValue) → is_genuine setup past handle ≡ true → is_genuine setup (entry ∷ past) handle ≡ true
genuine_more setup entry past handle genuine =
    let lt : handle.reference.number < count past = genuine_below setup past handle genuine in
    ap₂ (λ (o : Option Info) (m : Option Entry).
    (handle.reference.device == setup.serial && option_map_or (same_kind handle.info) o false)
    && same_bool handle.valid (option_map_or (λ entry. is_made_valid entry.reply.answer) m false)
    && (not handle.valid || option_map_or (same_info handle.info) o false))
    (info_stays past entry handle.reference.number lt) (maker_stays past entry handle.reference.number lt)
    ∙ genuine

genuine_longer : (setup : Setup) (more past : Past) (handle : HandleValue) → is_genuine setup past handle ≡ true → is_genuine setup (more ++ past) handle ≡ true
genuine_longer setup [] past handle genuine = genuine
genuine_longer setup (entry ∷ more) past handle genuine = genuine_more setup entry (more ++ past) handle (genuine_longer setup more past handle genuine)

pub stays_genuine : StaysGenuine
stays_genuine setup before after handle begins genuine =
    let parts : reverse after ≡ reverse begins.0 ++ reverse before = ap reverse (sym begins.1) ∙ reverse-append before begins.0 in
    subst (λ (past : Past). is_genuine setup past handle ≡ true) (sym parts) (genuine_longer setup (reverse begins.0) (reverse before) handle genuine)

-- What the newest event made.

if_yes : {A : Type 0} (b : Bool) (x y : A) → b ≡ true → (if b then x else y) ≡ x
if_yes true x y h = refl
if_yes false x y h = absurd (true≢false (sym h))

bool_self : (b : Bool) → same_bool b b ≡ true
bool_self true = refl
bool_self false = refl

unless : (v x : Bool) → (v ≡ true → x ≡ true) → (not v || x) ≡ true
unless true x f = f refl
unless false x f = refl

newest_genuine : (setup : Setup) (entry : Entry) (past : Past) (known : Info) (v : Bool) → is_making entry.event ≡ true → entry.reply.answer ≡ Made (count past) v
    → option_map_or (same_kind known) (made_info past entry.event) false ≡ true → (v ≡ true → made_info past entry.event ≡ Some known)
    → is_genuine setup (entry ∷ past) (record { reference = record { device = setup.serial; number = count past }; valid = v; info = known }) ≡ true
newest_genuine setup entry past known v making answer kind same =
    let new : (is_making entry.event && count past == count past) ≡ true = and_from (is_making entry.event) (count past == count past) making (eq-eqb (count past) (count past) refl) in
    let made : maker (entry ∷ past) (count past) ≡ Some entry = if_yes (is_making entry.event && count past == count past) (Some entry) (maker past (count past)) new in
    let info_is : info_at (entry ∷ past) (count past) ≡ made_info past entry.event = if_yes (is_making entry.event && count past == count past) (made_info past entry.event) (info_at past (count past)) new in
    let valid_is : is_valid (entry ∷ past) (count past) ≡ v =
    ap (λ (o : Option Entry). option_map_or (λ entry. is_made_valid entry.reply.answer) o false) made ∙ ap (λ (a : Answer). is_made_valid a) answer in
    and_from _ _
    (and_from (is_own setup (entry ∷ past) (same_kind known) (record { device = setup.serial; number = count past })) (same_bool v (is_valid (entry ∷ past) (count past)))
    (and_from (setup.serial == setup.serial) _ (eq-eqb setup.serial setup.serial refl) (ap (λ (o : Option Info). option_map_or (same_kind known) o false) info_is ∙ kind))
    (ap (same_bool v) valid_is ∙ bool_self v))
    (unless v _ (λ t. ap (λ (o : Option Info). option_map_or (same_info known) o false) (info_is ∙ same t) ∙ (infos_tell known known).1 refl))

-- the handle of an answer

of_answer : (setup : Setup) (entry : Entry) (past : Past) (known : Info) (handle : HandleValue) (answer : Answer) (v : Bool) → answer ≡ Made (count past) v
    → is_genuine setup (entry ∷ past) (record { reference = record { device = setup.serial; number = count past }; valid = v; info = known }) ≡ true
    → handle_of setup.serial known answer ≡ Some handle → is_genuine setup (entry ∷ past) handle ≡ true
of_answer setup entry past known handle answer v is genuine e =
    let same : Some (record { reference = record { device = setup.serial; number = count past }; valid = v; info = known }) ≡ Some handle = ap (handle_of setup.serial known) (sym is) ∙ e in
    let handle_is : record { reference = record { device = setup.serial; number = count past }; valid = v; info = known } ≡ handle = cc (same) in
    subst (λ (h : HandleValue). is_genuine setup (entry ∷ past) h ≡ true) handle_is genuine

made_answer : (past : Past) (form : Form) (done : Bool) → is_making_form form ≡ true → answer_by past form done ≡ Made (count past) done
made_answer past Making done e = refl
made_answer past Queue done e = absurd (true≢false (sym e))
made_answer past (Promising promise) done e = absurd (true≢false (sym e))
made_answer past (Completion op) done e = absurd (true≢false (sym e))
made_answer past Plainly done e = absurd (true≢false (sym e))

-- The reply to an event that makes an object.
pub is_answered : (setup : Setup) (entry : Entry) (past : Past) → entry.reply ≡ reply_to setup past entry.event → is_making entry.event ≡ true
    → entry.reply.answer ≡ Made (count past) (not (is_lost past) && is_none (first_rule setup past entry.event))
is_answered setup entry past replied making =
    ap (λ (reply : Reply). reply.answer) replied ∙ made_answer past (effects_of entry.event).form (not (is_lost past) && is_none (first_rule setup past entry.event)) making

-- The handle of what an event made is genuine where it is of the kind, and where the event met its rules and with what is known.
pub made_genuine : (setup : Setup) (entry : Entry) (past : Past) (known : Info) (handle : HandleValue) → entry.reply ≡ reply_to setup past entry.event → is_making entry.event ≡ true
    → option_map_or (same_kind known) (made_info past entry.event) false ≡ true
    → (is_none (first_rule setup past entry.event) ≡ true → made_info past entry.event ≡ Some known)
    → handle_of setup.serial known entry.reply.answer ≡ Some handle → is_genuine setup (entry ∷ past) handle ≡ true
made_genuine setup entry past known handle replied making kind same e =
    let v : Bool = not (is_lost past) && is_none (first_rule setup past entry.event) in
    let answer : entry.reply.answer ≡ Made (count past) v = is_answered setup entry past replied making in
    of_answer setup entry past known handle entry.reply.answer v answer
    (newest_genuine setup entry past known v making answer kind (λ t. same (and_parts (not (is_lost past)) (is_none (first_rule setup past entry.event)) t).1)) e

-- What an event names that meets its rules.

-- A handle of this device's is genuine. A handle of another device's may know anything, since rule 10 refuses it.
abbrev pub IsGenuineIfOwn : Setup → Past → HandleValue → Type 0
IsGenuineIfOwn setup past handle = (handle.reference.device == setup.serial) ≡ true → is_genuine setup past handle ≡ true

-- an object of this device that was made, and is valid
abbrev Stands : Setup → Past → HandleValue × Wanted → Type 0
Stands setup past used = ((used.0.reference.device == setup.serial) ≡ true) × (used.0.reference.number < count past) × (is_valid past used.0.reference.number ≡ true)

own_stands : (setup : Setup) (past : Past) (kind : Info → Bool) (used : HandleValue × Wanted) → is_own setup past kind used.0.reference ≡ true → is_valid past used.0.reference.number ≡ true → Stands setup past used
own_stands setup past kind used own valid =
    ((and_parts (used.0.reference.device == setup.serial) (option_map_or kind (info_at past used.0.reference.number) false) own).0, own_below setup past kind used.0.reference own, valid)

same_true : (a b : Bool) → (if a then b else not b) ≡ true → b ≡ true → a ≡ true
same_true true b h e = refl
same_true false true h e = absurd (true≢false (sym h))
same_true false false h e = absurd (true≢false (sym e))

-- A handle of it tells what is known of it.
told : (setup : Setup) (entry : Entry) (past : Past) (used : HandleValue × Wanted) → IsGenuineIfOwn setup (entry ∷ past) used.0 → Stands setup past used → KnowsHandle (known_in past) used
told setup entry past used if_own stands =
    let n : ℕ = used.0.reference.number in
    let genuine : is_genuine setup (entry ∷ past) used.0 ≡ true = if_own stands.0 in
    let valid_is : is_valid (entry ∷ past) n ≡ true =
    ap (λ (o : Option Entry). option_map_or (λ entry. is_made_valid entry.reply.answer) o false) (maker_stays past entry n stands.1) ∙ stands.2 in
    let valid : used.0.valid ≡ true = same_true used.0.valid (is_valid (entry ∷ past) n)
    (and_parts (is_own setup (entry ∷ past) (same_kind used.0.info) used.0.reference) _ (and_parts _ _ genuine).0).1 valid_is in
    sym (info_stays past entry n stands.1) ∙ (genuine_knows setup (entry ∷ past) used.0 genuine valid).known

all_told : (setup : Setup) (entry : Entry) (past : Past) (useds : List (HandleValue × Wanted)) → All (λ (used : HandleValue × Wanted). IsGenuineIfOwn setup (entry ∷ past) used.0) useds
    → All (Stands setup past) useds → All (KnowsHandle (known_in past)) useds
all_told setup entry past useds if_own stands k d lt = told setup entry past (slice_index_or useds k d) (if_own k d lt) (stands k d lt)

-- the object of a handle, with what is wanted of it
abbrev referred : HandleValue × Wanted → ObjRef × Wanted
referred used = (used.0.reference, used.1)

some_refer : (asked : Wanted) (handles : List (Option HandleValue)) → some_wanted asked (map (option_map reference_of) handles) ≡ map referred (some_wanted asked handles)
some_refer asked [] = refl
some_refer asked (None ∷ handles) = some_refer asked handles
some_refer asked (Some handle ∷ handles) = ap (λ rest. (handle.reference, asked) ∷ rest) (some_refer asked handles)

maybe_refers : (asked : Wanted) (handle : Option HandleValue) → maybe_wanted asked (option_map reference_of handle) ≡ map referred (maybe_wanted asked handle)
maybe_refers asked None = refl
maybe_refers asked (Some handle) = refl

resource_refers : (resource : ResourceOf HandleValue) → resource_named (map_resource reference_of resource) ≡ referred (resource_named resource)
resource_refers (Buffer buffer offset size) = refl
resource_refers (View view) = refl
resource_refers (Sampler sampler) = refl

entries_refer : (entries : List (GroupEntryOf HandleValue)) → entries_named (map (map_entry reference_of) entries) ≡ map referred (entries_named entries)
entries_refer [] = refl
entries_refer (entry ∷ entries) = ap₂ (λ used rest. used ∷ rest) (resource_refers entry.resource) (entries_refer entries)

all_stand : (setup : Setup) (past : Past) (useds : List (HandleValue × Wanted)) → AreMet (named_rules setup past (map referred useds)) → All (Stands setup past) useds
all_stand setup past [] met = All-nil (Stands setup past)
all_stand setup past (used ∷ useds) met =
    All-cons (Stands setup past) used useds (own_stands setup past (λ known. admits used.1 (kind_of known)) used met.0 met.1.1.0) (all_stand setup past useds met.1.1.1)

-- Objects of which the rules are the first that an event has, and which are met.
first_stand : (setup : Setup) (past : Past) (objects : List (ObjRef × Wanted)) (useds : List (HandleValue × Wanted)) (more : List Rule) → objects ≡ map referred useds
    → is_none (first_unmet (named_rules setup past objects ++ more)) ≡ true → All (Stands setup past) useds
first_stand setup past objects useds more same ruled =
    all_stand setup past useds (subst (λ (list : List (ObjRef × Wanted)). AreMet (named_rules setup past list)) same
    (met_before (named_rules setup past objects) more (all_met (named_rules setup past objects ++ more) ruled)))

-- A call that meets its rules makes that of which so much is known as the handles say of it.
known_same : (setup : Setup) (entry : Entry) (past : Past) (request : RequestOf HandleValue) → All (λ (used : HandleValue × Wanted). IsGenuineIfOwn setup (entry ∷ past) used.0) (named request)
    → is_none (first_rule setup past (event_asked request)) ≡ true → info_asked request ≡ made_info past (event_asked request)
unfolding create_view_rule create_pipeline_layout_rule create_bind_group_rule create_compute_pipeline_rule create_render_pipeline_rule get_bind_group_layout_rule
known_same setup entry past (CreateBuffer made) if_own ruled = refl
known_same setup entry past (CreateTexture made) if_own ruled = refl
known_same setup entry past (CreateView texture asked) if_own ruled =
    let met : AreMet (create_view_list setup past texture.reference (view_asked texture asked)) = all_met (create_view_list setup past texture.reference (view_asked texture asked)) ruled in
    let stands : Stands setup past (texture, wanted.Texture) = own_stands setup past is_texture_info (texture, wanted.Texture) met.0 met.1.1.0 in
    info_is_made (known_in past) (CreateView texture asked)
    (all_told setup entry past ((texture, wanted.Texture) ∷ []) if_own (All-cons (Stands setup past) (texture, wanted.Texture) [] stands (All-nil (Stands setup past))))
known_same setup entry past (CreateSampler made) if_own ruled = refl
known_same setup entry past (CreateBindGroupLayout made) if_own ruled = refl
known_same setup entry past (CreatePipelineLayout layouts) if_own ruled =
    let useds : List (HandleValue × Wanted) = some_wanted wanted.GroupLayout layouts in
    let more : List Rule = pipeline_layout_rules setup.limits (pipeline_layout_made (λ r. r) (known_in past) (map (option_map reference_of) layouts)).layouts_info in
    info_is_made (known_in past) (CreatePipelineLayout layouts)
    (all_told setup entry past useds if_own (first_stand setup past (some_wanted wanted.GroupLayout (map (option_map reference_of) layouts)) useds more (some_refer wanted.GroupLayout layouts) ruled))
known_same setup entry past (CreateBindGroup layout entries) if_own ruled =
    let useds : List (HandleValue × Wanted) = (layout, wanted.GroupLayout) ∷ entries_named entries in
    let made : GroupInfo = group_made (λ r. r) (known_in past) layout.reference (map (map_entry reference_of) entries) in
    info_is_made (known_in past) (CreateBindGroup layout entries)
    (all_told setup entry past useds if_own
    (first_stand setup past (group_named layout.reference (map (map_entry reference_of) entries)) useds (group_rules setup.limits made.layout_info.entries made.entries)
    (ap (λ rest. (layout.reference, wanted.GroupLayout) ∷ rest) (entries_refer entries)) ruled))
known_same setup entry past (CreateComputePipeline layout iface) if_own ruled =
    let useds : List (HandleValue × Wanted) = maybe_wanted wanted.PipelineLayout layout in
    let made : ComputeInfo = compute_made (λ r. r) (known_in past) (option_map reference_of layout) iface in
    info_is_made (known_in past) (CreateComputePipeline layout iface)
    (all_told setup entry past useds if_own (first_stand setup past (maybe_wanted wanted.PipelineLayout (option_map reference_of layout)) useds
    (derived_rules setup.limits (option_map reference_of layout) iface.entries ++ compute_pipeline_rules made.layout_info.layouts_info iface.entries)
    (maybe_refers wanted.PipelineLayout layout) ruled))
known_same setup entry past (CreateRenderPipeline layout desc) if_own ruled =
    let useds : List (HandleValue × Wanted) = maybe_wanted wanted.PipelineLayout layout in
    let made : RenderInfo = render_made (λ r. r) (known_in past) (option_map reference_of layout) desc in
    info_is_made (known_in past) (CreateRenderPipeline layout desc)
    (all_told setup entry past useds if_own (first_stand setup past (maybe_wanted wanted.PipelineLayout (option_map reference_of layout)) useds
    (derived_rules setup.limits (option_map reference_of layout) desc.iface ++ render_pipeline_rules setup.limits made.layout_info.layouts_info desc)
    (maybe_refers wanted.PipelineLayout layout) ruled))
known_same setup entry past (GetBindGroupLayout pipeline index) if_own ruled =
    let useds : List (HandleValue × Wanted) = (pipeline, wanted.Pipeline) ∷ [] in
    info_is_made (known_in past) (GetBindGroupLayout pipeline index)
    (all_told setup entry past useds if_own (first_stand setup past ((pipeline.reference, wanted.Pipeline) ∷ []) useds
    (get_layout_rules (known_in past pipeline.reference) index) refl ruled))
known_same setup entry past (CreateQuerySet made) if_own ruled = refl
known_same setup entry past CreateEncoder if_own ruled = refl
known_same setup entry past (CreateBundleEncoder targets) if_own ruled = refl
known_same setup entry past (Finish encoder) if_own ruled = refl
known_same setup entry past (FinishBundle encoder) if_own ruled = refl
known_same setup entry past (Submit buffers) if_own ruled = refl
known_same setup entry past (WriteBuffer buffer offset size) if_own ruled = refl
known_same setup entry past (WriteTexture texture spot layout size data_size) if_own ruled = refl
known_same setup entry past (Destroy object) if_own ruled = refl
known_same setup entry past (Drop object) if_own ruled = refl
known_same setup entry past (Complete op) if_own ruled = refl
known_same setup entry past (PushErrorScope filter) if_own ruled = refl
known_same setup entry past PopErrorScope if_own ruled = refl
known_same setup entry past Lose if_own ruled = refl
known_same setup entry past WorkDone if_own ruled = refl
known_same setup entry past (MapAsync buffer mode offset size) if_own ruled = refl
known_same setup entry past (Unmap buffer) if_own ruled = refl

-- Which calls make objects, and that their events make such as the handles say.

-- whether two infos are there that are of one kind, if there is a first
abbrev akin : Option Info → Option Info → Bool
akin first second = option_map_or (λ (made : Info). option_map_or (same_kind made) second false) first true

record Kin (known : ObjRef → Option Info) (request : RequestOf HandleValue) : Type 0 where
  making : is_making (event_asked request) ≡ is_some (info_asked request)
  makes : is_some (kind_made request) ≡ is_some (info_asked request)
  kind : akin (info_asked request) (info_made known (event_asked request)) ≡ true

kin : (known : ObjRef → Option Info) (request : RequestOf HandleValue) → Kin known request
kin known (CreateBuffer made) = record { making = refl; makes = refl; kind = refl }
kin known (CreateTexture made) = record { making = refl; makes = refl; kind = refl }
kin known (CreateView texture asked) = record { making = refl; makes = refl; kind = refl }
kin known (CreateSampler made) = record { making = refl; makes = refl; kind = refl }
kin known (CreateBindGroupLayout made) = record { making = refl; makes = refl; kind = refl }
kin known (CreatePipelineLayout layouts) = record { making = refl; makes = refl; kind = refl }
kin known (CreateBindGroup layout entries) = record { making = refl; makes = refl; kind = refl }
kin known (CreateComputePipeline layout iface) = record { making = refl; makes = refl; kind = refl }
kin known (CreateRenderPipeline layout desc) = record { making = refl; makes = refl; kind = refl }
kin known (GetBindGroupLayout pipeline index) = record { making = refl; makes = refl; kind = refl }
kin known (CreateQuerySet made) = record { making = refl; makes = refl; kind = refl }
kin known CreateEncoder = record { making = refl; makes = refl; kind = refl }
kin known (CreateBundleEncoder targets) = record { making = refl; makes = refl; kind = refl }
kin known (Finish encoder) = record { making = refl; makes = refl; kind = refl }
kin known (FinishBundle encoder) = record { making = refl; makes = refl; kind = refl }
kin known (Submit buffers) = record { making = refl; makes = refl; kind = refl }
kin known (WriteBuffer buffer offset size) = record { making = refl; makes = refl; kind = refl }
kin known (WriteTexture texture spot layout size data_size) = record { making = refl; makes = refl; kind = refl }
kin known (Destroy object) = record { making = refl; makes = refl; kind = refl }
kin known (Drop object) = record { making = refl; makes = refl; kind = refl }
kin known (Complete op) = record { making = refl; makes = refl; kind = refl }
kin known (PushErrorScope filter) = record { making = refl; makes = refl; kind = refl }
kin known PopErrorScope = record { making = refl; makes = refl; kind = refl }
kin known Lose = record { making = refl; makes = refl; kind = refl }
kin known WorkDone = record { making = refl; makes = refl; kind = refl }
kin known (MapAsync buffer mode offset size) = record { making = refl; makes = refl; kind = refl }
kin known (Unmap buffer) = record { making = refl; makes = refl; kind = refl }

-- The handle that a call gives of what it made is genuine, if those of this device that the call names are.
pub genuine_if_own : (setup : Setup) (entry : Entry) (past : Past) (request : RequestOf HandleValue) (handle : HandleValue) → entry.event ≡ event_asked request → entry.reply ≡ reply_to setup past entry.event
    → All (λ (used : HandleValue × Wanted). IsGenuineIfOwn setup (entry ∷ past) used.0) (named request)
    → handle_made setup.serial request entry.reply.answer ≡ Some handle → is_genuine setup (entry ∷ past) handle ≡ true
genuine_if_own setup entry past request handle asked replied if_own e = by_info (info_asked request) refl e
  where
    by_info : (o : Option Info) → info_asked request ≡ o → option_and_then (λ known. handle_of setup.serial known entry.reply.answer) o ≡ Some handle → is_genuine setup (entry ∷ past) handle ≡ true
    by_info None is e = absurd (cc)
    by_info (Some known) is e =
        let its : Kin (known_in past) request = kin (known_in past) request in
        made_genuine setup entry past known handle replied
        (ap (λ (event : Event). is_making event) asked ∙ (its.making ∙ ap (λ (o : Option Info). is_some o) is))
        (ap (λ (event : Event). option_map_or (same_kind known) (made_info past event) false) asked
        ∙ (ap (λ (o : Option Info). akin o (made_info past (event_asked request))) (sym is) ∙ its.kind))
        (λ ruled. ap (λ (event : Event). made_info past event) asked
        ∙ (sym (known_same setup entry past request if_own (ap (λ (event : Event). is_none (first_rule setup past event)) (sym asked) ∙ ruled)) ∙ is))
        e

-- So it is, if all that the call names are.
pub genuine_made : (setup : Setup) (entry : Entry) (past : Past) (request : RequestOf HandleValue) (handle : HandleValue) → entry.event ≡ event_asked request → entry.reply ≡ reply_to setup past entry.event
    → All (λ (used : HandleValue × Wanted). is_genuine setup (entry ∷ past) used.0 ≡ true) (named request)
    → handle_made setup.serial request entry.reply.answer ≡ Some handle → is_genuine setup (entry ∷ past) handle ≡ true
genuine_made setup entry past request handle asked replied genuine e = genuine_if_own setup entry past request handle asked replied (λ k d lt own. genuine k d lt) e

some_handle : (serial : ℕ) (known : Info) (answer : Answer) (number : ℕ) (v : Bool) → answer ≡ Made number v → is_some (handle_of serial known answer) ≡ true
some_handle serial known answer number v is = ap (λ (a : Answer). is_some (handle_of serial known a)) is

-- A call that makes an object gives a handle.
pub gives_handle : (setup : Setup) (entry : Entry) (past : Past) (request : RequestOf HandleValue) → entry.event ≡ event_asked request → entry.reply ≡ reply_to setup past entry.event
    → is_some (kind_made request) ≡ true → is_some (handle_made setup.serial request entry.reply.answer) ≡ true
gives_handle setup entry past request asked replied makes = by_info (info_asked request) refl
  where
    by_info : (o : Option Info) → info_asked request ≡ o → is_some (option_and_then (λ known. handle_of setup.serial known entry.reply.answer) o) ≡ true
    by_info None is = absurd (true≢false (sym makes ∙ ((kin (known_in past) request).makes ∙ ap (λ (o : Option Info). is_some o) is)))
    by_info (Some known) is =
        some_handle setup.serial known entry.reply.answer (count past) (not (is_lost past) && is_none (first_rule setup past entry.event))
        (is_answered setup entry past replied (ap (λ (event : Event). is_making event) asked ∙ ((kin (known_in past) request).making ∙ ap (λ (o : Option Info). is_some o) is)))

-- The same of a finish or a finishBundle, whatever it hands over.

finishes : (past : Past) (targets : Option TargetInfo) (encoder : ObjRef) (recording : RecordingValue) → made_info past (finish_event targets encoder recording) ≡ Some (finished_info targets recording)
finishes past None encoder recording = refl
finishes past (Some targets) encoder recording = refl

finish_makes : (targets : Option TargetInfo) (encoder : ObjRef) (recording : RecordingValue) → is_making (finish_event targets encoder recording) ≡ true
finish_makes None encoder recording = refl
finish_makes (Some targets) encoder recording = refl

finish_kind : (targets : Option TargetInfo) (recording : RecordingValue) → same_kind (finished_info targets recording) (finished_info targets recording) ≡ true
finish_kind None recording = refl
finish_kind (Some targets) recording = refl

pub genuine_finish : (setup : Setup) (entry : Entry) (past : Past) (targets : Option TargetInfo) (encoder : ObjRef) (recording : RecordingValue) (handle : HandleValue) → entry.event ≡ finish_event targets encoder recording → entry.reply ≡ reply_to setup past entry.event
    → handle_of setup.serial (finished_info targets recording) entry.reply.answer ≡ Some handle → is_genuine setup (entry ∷ past) handle ≡ true
genuine_finish setup entry past targets encoder recording handle asked replied e =
    let known : made_info past entry.event ≡ Some (finished_info targets recording) = ap (λ (event : Event). made_info past event) asked ∙ finishes past targets encoder recording in
    made_genuine setup entry past (finished_info targets recording) handle replied (ap (λ (event : Event). is_making event) asked ∙ finish_makes targets encoder recording)
    (ap (λ (o : Option Info). option_map_or (same_kind (finished_info targets recording)) o false) known ∙ finish_kind targets recording) (λ ruled. known) e

pub gives_finish : (setup : Setup) (entry : Entry) (past : Past) (targets : Option TargetInfo) (encoder : ObjRef) (recording : RecordingValue) → entry.event ≡ finish_event targets encoder recording → entry.reply ≡ reply_to setup past entry.event
    → is_some (handle_of setup.serial (finished_info targets recording) entry.reply.answer) ≡ true
gives_finish setup entry past targets encoder recording asked replied =
    some_handle setup.serial (finished_info targets recording) entry.reply.answer (count past) (not (is_lost past) && is_none (first_rule setup past entry.event))
    (is_answered setup entry past replied (ap (λ (event : Event). is_making event) asked ∙ finish_makes targets encoder recording))
