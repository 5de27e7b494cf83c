-- What the slots of a script whose names are bound stand for, as its lanes are played. An encoder is one of either kind, a command
-- encoder or a bundle encoder.
use Rattle.std.specs.Prelude.{◌≡◌, ◌≢◌, ℕ, ◌+◌, nat_lt, Bool, true, false, List, [], ◌∷◌, ◌++◌, length, map, slice_get, All, Contains, Option, Some, None, is_some, option_map, if◌then◌else◌}
use Rattle.std.specs.List.{flat_map}
use Rattle.wg_types.specs.Kinds.{kind_of}
use Rattle.wg_types.specs.Commands.{place_wanted, named_on}
use Rattle.wg_types.specs.Requests.{kind_made, named as asked_of}
use Rattle.wg_types.specs.Wanted.{admits}
use Rattle.wg_types.specs.Handles.{HandleValue}
use Rattle.wg_types.specs.declared.canvases.CanvasCall.{CanvasCall}
use Rattle.wg_types.specs.declared.canvases.CanvasCall.TheVariants.{Current}
use Rattle.wg_types.specs.declared.canvases.CanvasOf.{CanvasOf}
use Rattle.wg_types.specs.declared.canvases.CanvasOf.TheVariants.{Create, On}
use Rattle.wg_types.specs.declared.commands.CommandOf.{CommandOf}
use Rattle.wg_types.specs.declared.handles.ObjRef.{ObjRef}
use Rattle.wg_types.specs.declared.requests.RequestOf.{RequestOf}
use Rattle.wg_types.specs.declared.wanted.Kind.{Kind}
use Rattle.wg_types.specs.declared.wanted.Kind.TheVariants as kinds
use Rattle.wg_types.specs.declared.wanted.Wanted.{Wanted}
use Rattle.wg_canvas.specs.Canvases.{CanvasValue, HasTexture}
use Rattle.wg_canvas.specs.declared.canvas.Stage.TheVariants.{Unset}
use Rattle.wg_encoder.specs.Recorders.{RecorderValue}
use Rattle.wg_history.specs.declared.events.Setup.{Setup}
use Rattle.wg_history.specs.Entries.{verb_of}
use Rattle.wg_calls.specs.Calls.{event_asked}
use Rattle.wg_script.specs.CallOf.{BoundCall}
use Rattle.wg_script.specs.declared.calls.CallOf.TheVariants.{Record, Ask, Canvas}
use Rattle.wg_names.specs.Bound.{Made, made_in, IsBound}
use Rattle.wg_names.specs.Uses.{wants_own}
use Rattle.wg_play.specs.declared.objects.Object.{Object}
use Rattle.wg_play.specs.declared.objects.Object.TheVariants as object
use Rattle.wg_play.specs.Canvases.{canvas_at}
use Rattle.wg_calls.specs.Encoders.{ended_by}
use Rattle.wg_play.specs.Objects.{handle_in, reference_at, recorder_at}
use Rattle.wg_play.specs.Sights.{Sight, place_in, handle_in_sight}
use Rattle.wg_play.specs.Lanes.{LaneState, stand_seen, request_seen, event_sent, info_sent, count_made, gathered}
use Rattle.wg_play.specs.Late.{Answered, IsAnsweredCall, after_calls, slots_before}

-- ---- an object of a kind

-- the kinds of passes
abbrev pub is_pass : Kind → Bool
is_pass kinds.Buffer = false
is_pass kinds.Texture = false
is_pass kinds.View = false
is_pass kinds.Sampler = false
is_pass kinds.GroupLayout = false
is_pass kinds.PipelineLayout = false
is_pass kinds.Group = false
is_pass kinds.Compute = false
is_pass kinds.Render = false
is_pass kinds.Queries = false
is_pass kinds.Encoder = false
is_pass kinds.BundleEncoder = false
is_pass kinds.CommandBuffer = false
is_pass kinds.Bundle = false
is_pass kinds.ComputePass = true
is_pass kinds.RenderPass = true
is_pass kinds.Canvas = false
is_pass kinds.CanvasTexture = false

-- the kinds of encoders, each of which has a recorder and is ended by a finish of its own
abbrev pub has_recorder : Kind → Bool
has_recorder kinds.Buffer = false
has_recorder kinds.Texture = false
has_recorder kinds.View = false
has_recorder kinds.Sampler = false
has_recorder kinds.GroupLayout = false
has_recorder kinds.PipelineLayout = false
has_recorder kinds.Group = false
has_recorder kinds.Compute = false
has_recorder kinds.Render = false
has_recorder kinds.Queries = false
has_recorder kinds.Encoder = true
has_recorder kinds.BundleEncoder = true
has_recorder kinds.CommandBuffer = false
has_recorder kinds.Bundle = false
has_recorder kinds.ComputePass = false
has_recorder kinds.RenderPass = false
has_recorder kinds.Canvas = false
has_recorder kinds.CanvasTexture = false

-- the kind of the encoder of a recorder: a bundle encoder where that has targets
abbrev pub recorder_kind : RecorderValue → Kind
recorder_kind recorder = if is_some recorder.targets then kinds.BundleEncoder else kinds.Encoder

-- a recorder that is open for an encoder
pub record IsOpenFor (encoder : ObjRef) (found : Option RecorderValue) : Type 0 where
  pub recorder : RecorderValue
  pub is : found ≡ Some recorder
  pub open_for : recorder.encoder ≡ Some encoder

-- A recorder is open for an encoder of this kind.
pub record IsOpenAs (kind : Kind) (encoder : ObjRef) (found : Option RecorderValue) : Type 0 where
  pub is_open : IsOpenFor encoder found
  pub kind_is : recorder_kind is_open.recorder ≡ kind

-- a texture that a canvas has
abbrev pub IsShown : Option HandleValue → Type 0
IsShown None = ⊥
IsShown (Some texture) = kind_of texture.info ≡ kinds.Texture

-- An object of a kind is one of which its handle knows that it is of that kind; an encoder has a recorder of its kind, which is open
-- for it. A pass is what the calls make that begin one, a canvas is what a createCanvas makes, whose texture is one, and the texture
-- of a canvas is what a currentTexture shows: so a drop, which asks for none of these three, names what was made for it.
abbrev pub IsOf : Kind → Object → Type 0
IsOf kind (object.Made handle recorder) = (kind_of handle.info ≡ kind) × (has_recorder kind ≡ true → IsOpenAs kind handle.reference recorder)
IsOf kind (object.Pass encoder number) = is_pass kind ≡ true
IsOf kind (object.Canvas canvas) = (kind ≡ kinds.Canvas) × HasTexture canvas.stage
IsOf kind (object.Shown texture) = (kind ≡ kinds.CanvasTexture) × IsShown texture

-- something of a kind stands at a place
pub record StandsAt (objects : List Object) (place : ℕ) (kind : Kind) : Type 0 where
  pub what : Object
  pub is : slice_get objects place ≡ Some what
  pub of : IsOf kind what

-- There is an object for each slot that was made, and each slot stands for something of the kind that was made.
pub record SlotsStand (objects : List Object) (made : Made ℕ) : Type 0 where
  pub count : length objects ≡ length made
  pub stands : (slot : ℕ) (kind : Kind) → Contains made (slot, kind) → StandsAt objects slot kind

-- ---- what a call finds

-- what a slot stands for: what a former phase made, or the lane itself
abbrev pub object_in_sight : Sight → ℕ → Option Object
object_in_sight sight slot = if nat_lt slot sight.first then slice_get sight.others slot else slice_get sight.own (place_in sight slot)

-- a slot stands for something of a kind, and its handle is of that
pub record SlotIsSeen (sight : Sight) (slot : ℕ) (kind : Kind) : Type 0 where
  pub what : Object
  pub is : object_in_sight sight slot ≡ Some what
  pub handle : handle_in_sight sight slot ≡ handle_in what
  pub of : IsOf kind what

-- A slot that a call uses was made, and stands for something of the kind that was made, which will do; and that is the lane's own
-- where it must be.
pub record IsSeenAs (sight : Sight) (made : Made ℕ) (key : ℕ × Wanted) : Type 0 where
  pub kind : Kind
  pub was_made : Contains made (key.0, kind)
  pub fits : admits key.1 kind ≡ true
  pub seen : SlotIsSeen sight key.0 kind
  pub own : wants_own key.1 ≡ true → StandsAt sight.own (place_in sight key.0) kind

-- A recording call stands on an encoder or a pass of the lane's own, which takes the command, and its encoder has a recorder, which
-- is open for it; and what the command names is seen.
pub record IsSeenOn (sight : Sight) (made : Made ℕ) (on : ℕ) (command : CommandOf ℕ) : Type 0 where
  pub place : Kind
  pub takes : admits (place_wanted command) place ≡ true
  pub stands : StandsAt sight.own (place_in sight on) place
  pub encoder : IsOpenFor (reference_at sight.own (stand_seen sight on).encoder) (recorder_at sight.own (stand_seen sight on).encoder)
  pub found : All (IsSeenAs sight made) (named_on place command)

-- What a call of the device names is seen, and the encoder that it ends has a recorder, which is open for it. Its event has the verb
-- of the call, so that a finish ends a command encoder and a finishBundle a bundle encoder; and it makes what the call makes.
pub record IsSeenBy (sight : Sight) (made : Made ℕ) (request : RequestOf ℕ) : Type 0 where
  pub found : All (IsSeenAs sight made) (asked_of request)
  pub ends : (encoder : ℕ) → ended_by request ≡ Some encoder → IsOpenFor (reference_at sight.own (place_in sight encoder)) (recorder_at sight.own (place_in sight encoder))
  pub verb : verb_of (event_sent sight request) ≡ verb_of (event_asked (request_seen sight request))
  pub makes : option_map kind_of (info_sent sight request) ≡ kind_made request

-- A call of a canvas finds one of the lane's own, whose texture is one; and a currentTexture one that was configured.
pub record IsSeenSet (sight : Sight) (canvas : ℕ) (call : CanvasCall) : Type 0 where
  pub found : CanvasValue
  pub is : canvas_at sight.own (place_in sight canvas) ≡ Some found
  pub texture : HasTexture found.stage
  pub set : call ≡ Current → found.stage ≢ Unset

-- A call for a current texture is of a canvas that a lane sees as configured; of other calls of canvases nothing is said.
abbrev pub CanvasIsSeen : Sight → CanvasOf ℕ → Type 0
CanvasIsSeen sight (Create width height) = Unit {0}
CanvasIsSeen sight (On canvas call) = IsSeenSet sight canvas call

-- Each slot that a call uses stands for what is wanted, in what a lane sees.
abbrev pub CallIsFound : Sight → Made ℕ → BoundCall → Type 0
CallIsFound sight made (Record on command slot) = IsSeenOn sight made on command
CallIsFound sight made (Ask request slot) = IsSeenBy sight made request
CallIsFound sight made (Canvas call slot) = CanvasIsSeen sight call

-- ---- the laws

-- Where the objects of earlier phases stand at their slots with their kinds, and whatever the answers of the device were: in a lane
-- of a script whose names are bound each call finds what it uses among what earlier phases and the lane's earlier calls have made.
abbrev pub BoundIsFound : Type 0
BoundIsFound = (earlier later : List (List (List BoundCall))) (lanes_before lanes_after : List (List BoundCall)) (before : List Answered) (call : BoundCall) (after : List BoundCall)
    → IsBound (earlier ++ (lanes_before ++ (map (λ c. c.0) before ++ call ∷ after) ∷ lanes_after) ∷ later)
    → All IsAnsweredCall before
    → (setup : Setup) (others : List Object) → SlotsStand others (flat_map (flat_map made_in) earlier)
    → CallIsFound (after_calls setup (record { others = others; first = slots_before earlier lanes_before; own = [] }) before)
    (flat_map (flat_map made_in) earlier ++ made_in (map (λ c. c.0) before)) call

-- the lanes of a phase after all their calls, from the lane on whose first slot is this
abbrev pub ended_from : Setup → List Object → ℕ → List (List Answered) → List LaneState
ended_from setup others first [] = []
ended_from setup others first (calls ∷ lanes) =
    record { sight = after_calls setup (record { others = others; first = first; own = [] }) calls; left = [] }
    ∷ ended_from setup others (first + count_made (map (λ c. c.0) calls)) lanes

-- the calls of lanes that were answered
abbrev pub phase_of : List (List Answered) → List (List BoundCall)
phase_of lanes = map (λ calls. map (λ c. c.0) calls) lanes

-- After a phase all that was made up to then stands at its slot with its kind, for the phases after it.
abbrev pub GatheredIsHeld : Type 0
GatheredIsHeld = (earlier later : List (List (List BoundCall))) (lanes : List (List Answered))
    → IsBound (earlier ++ phase_of lanes ∷ later)
    → All (All IsAnsweredCall) lanes
    → (setup : Setup) (others : List Object) → SlotsStand others (flat_map (flat_map made_in) earlier)
    → SlotsStand (gathered others (ended_from setup others (length others) lanes)) (flat_map (flat_map made_in) (earlier ++ phase_of lanes ∷ []))
