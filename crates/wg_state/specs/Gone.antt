-- What events name, and what was let go.
use Rattle.std.specs.Prelude.{◌≡◌, ℕ, ◌<◌, Bool, true, false, not, ◌&&◌, nat_lt, List, [], ◌∷◌, ◌++◌, map, Option, None, is_some, option_to_list, if◌then◌else◌}
use Rattle.std.specs.List.{list_any, flat_map}
use Rattle.wg_fading.specs.Fading.{was_let_go}
use Rattle.wg_types.specs.declared.handles.Info.{Info}
use Rattle.wg_types.specs.declared.handles.ObjRef.{ObjRef}
use Rattle.wg_trace.specs.declared.steps.Used.{Used}
use Rattle.wg_types.specs.Bindings.{entries_named}
use Rattle.wg_history.specs.declared.events.Setup.{Setup}
use Rattle.wg_history.specs.declared.events.Form.{Form}
use Rattle.wg_history.specs.declared.events.Form.TheVariants.{Making, Queue, Promise as Promising, Completion, Plain as Plainly}
use Rattle.wg_history.specs.declared.events.Promise.TheVariants.{WorkDone as ForWork, ScopeError as ForError, Map as ForMap}
use Rattle.wg_history.specs.declared.events.Effects.{Effects}
use Rattle.wg_history.specs.declared.events.Event.{Event}
use Rattle.wg_history.specs.declared.events.Event.TheVariants.{CreateBuffer, CreateTexture, CreateView, CreateSampler, CreateBindGroupLayout, CreatePipelineLayout, CreateBindGroup, CreateComputePipeline, CreateRenderPipeline, GetBindGroupLayout, CreateQuerySet, CreateEncoder, CreateBundleEncoder, Finish, FinishBundle, Late, Submit, WriteBuffer, WriteTexture, Destroy, Drop, Complete, PushErrorScope, PopErrorScope, Lose, WorkDone, MapAsync, Unmap}
use Rattle.wg_history.specs.Entries.{Past, effects_of, submitted}
use Rattle.wg_history.specs.Held.{is_held}
use Rattle.wg_history.specs.Objects.{count, info_at, resource_at}
use Rattle.wg_history.specs.Releases.{is_released}
use Rattle.wg_history.specs.Rules.{is_dropped}

-- the buffer of which a form asks a map
abbrev pub asked_by : Form → List ObjRef
asked_by (Promising (ForMap buffer mode offset size)) = buffer ∷ []
asked_by (Promising ForWork) = []
asked_by (Promising ForError) = []
asked_by Making = []
asked_by Queue = []
asked_by (Completion op) = []
asked_by Plainly = []

-- the objects on which an event has an effect
abbrev pub touched : Effects → List ObjRef
touched effects = option_to_list effects.ended ++ (option_to_list effects.destroyed ++ (option_to_list effects.dropped ++ (option_to_list effects.unmapped ++ asked_by effects.form)))

-- the objects of which an event makes another
abbrev pub made_of : Event → List ObjRef
made_of (CreateBuffer info) = []
made_of (CreateTexture info) = []
made_of (CreateView texture desc) = texture ∷ []
made_of (CreateSampler desc) = []
made_of (CreateBindGroupLayout entries) = []
made_of (CreatePipelineLayout layouts) = flat_map option_to_list layouts
made_of (CreateBindGroup layout entries) = layout ∷ map (λ named. named.0) (entries_named entries)
made_of (CreateComputePipeline layout iface) = option_to_list layout
made_of (CreateRenderPipeline layout desc) = option_to_list layout
made_of (GetBindGroupLayout pipeline index) = pipeline ∷ []
made_of (CreateQuerySet info) = []
made_of CreateEncoder = []
made_of (CreateBundleEncoder targets) = []
made_of (Finish encoder recording) = []
made_of (FinishBundle encoder recording) = []
made_of (Late encoder) = []
made_of (Submit buffers) = []
made_of (WriteBuffer buffer offset size) = []
made_of (WriteTexture texture spot layout size data_size) = []
made_of (Destroy object) = []
made_of (Drop object) = []
made_of (Complete op) = []
made_of (PushErrorScope filter) = []
made_of PopErrorScope = []
made_of Lose = []
made_of WorkDone = []
made_of (MapAsync buffer mode offset size) = []
made_of (Unmap buffer) = []

-- the object to which an event writes
abbrev pub written_to : Event → List ObjRef
written_to (CreateBuffer info) = []
written_to (CreateTexture info) = []
written_to (CreateView texture desc) = []
written_to (CreateSampler desc) = []
written_to (CreateBindGroupLayout entries) = []
written_to (CreatePipelineLayout layouts) = []
written_to (CreateBindGroup layout entries) = []
written_to (CreateComputePipeline layout iface) = []
written_to (CreateRenderPipeline layout desc) = []
written_to (GetBindGroupLayout pipeline index) = []
written_to (CreateQuerySet info) = []
written_to CreateEncoder = []
written_to (CreateBundleEncoder targets) = []
written_to (Finish encoder recording) = []
written_to (FinishBundle encoder recording) = []
written_to (Late encoder) = []
written_to (Submit buffers) = []
written_to (WriteBuffer buffer offset size) = buffer ∷ []
written_to (WriteTexture texture spot layout size data_size) = texture ∷ []
written_to (Destroy object) = []
written_to (Drop object) = []
written_to (Complete op) = []
written_to (PushErrorScope filter) = []
written_to PopErrorScope = []
written_to Lose = []
written_to WorkDone = []
written_to (MapAsync buffer mode offset size) = []
written_to (Unmap buffer) = []

-- all objects that an event names itself: what a recording names is not among them
abbrev pub named_by : Event → List ObjRef
named_by event = touched (effects_of event) ++ (submitted event ++ (made_of event ++ written_to event))

-- whether some of these objects were let go
abbrev pub any_gone : List ℕ → List ObjRef → Bool
any_gone gone objects = list_any (λ object. was_let_go gone object.number) objects

-- whether an event names an object that was let go, be it by the name of another device
abbrev pub names_gone : List ℕ → Event → Bool
names_gone gone event = any_gone gone (named_by event)

-- whether some of what is used was let go
abbrev pub uses_gone : List ℕ → List Used → Bool
uses_gone gone uses = list_any (λ (used : Used). was_let_go gone used.number) uses

-- whether object n was made and not let go
abbrev pub is_here : List ℕ → Past → ℕ → Bool
is_here gone past n = nat_lt n (count past) && not (was_let_go gone n)

-- what is known of object n, if it was made and not let go
abbrev pub info_here : List ℕ → Past → ℕ → Option Info
info_here gone past n = if was_let_go gone n then None else info_at past n

-- what is known of an object by its name, if it was made and not let go
abbrev pub known_here : List ℕ → Past → ObjRef → Option Info
known_here gone past object = info_here gone past object.number

-- An object of a past cannot be reached any more, and nothing is to be done for it: it was dropped, is not held, and was released
-- if it is a valid resource.
pub record IsDead (setup : Setup) (past : Past) (n : ℕ) : Type 0 where
  pub made : n < count past
  pub dropped : is_dropped setup past n ≡ true
  pub unheld : is_held setup past n ≡ false
  pub over : is_some (resource_at past n) ≡ true → is_released setup past n ≡ true

-- What was let go is dead.
abbrev pub AreDead : Setup → Past → List ℕ → Type 0
AreDead setup past gone = (n : ℕ) → was_let_go gone n ≡ true → IsDead setup past n
