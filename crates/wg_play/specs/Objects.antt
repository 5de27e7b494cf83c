-- What the calls of a lane have made, each at its place, from 0 on. An encoder is one of either kind, a command encoder or a bundle
-- encoder, which has no passes.
use Rattle.std.specs.Prelude.{ℕ, not, ◌||◌, List, [], ◌∷◌, Option, None, option_and_then, option_map, slice_get, slice_set, if◌then◌else◌, Bool, true, false, unwrap_or}
use Rattle.std.specs.Option.{option_map_or}
use Rattle.wg_types.specs.Handles.{HandleValue}
use Rattle.wg_types.specs.declared.handles.ObjRef.{ObjRef}
use Rattle.wg_types.specs.declared.handles.Info.TheVariants as info
use Rattle.wg_types.specs.declared.limits.Limits.{Limits}
use Rattle.wg_types.specs.declared.commands.On.{On}
use Rattle.wg_types.specs.declared.commands.On.TheVariants.{Encoder, Pass}
use Rattle.wg_types.specs.Commands.{Command, kind_begun}
use Rattle.wg_encoder.specs.Recorders.{RecorderValue, is_late, recorded}
use Rattle.wg_calls.specs.Calls.{taken_out}
use Rattle.wg_calls.specs.Encoders.{recorder_of, is_begun}
use Rattle.wg_play.specs.declared.objects.Object.{Object}
use Rattle.wg_play.specs.declared.objects.Object.TheVariants as object
use Rattle.wg_play.specs.declared.objects.Stand.{Stand}

-- Stands for an object that was not made. Each slot that a script uses stands for what an earlier call made, so that it is
-- not met.
abbrev pub unknown : HandleValue
unknown = record { reference = record { device = 0; number = 0 }; valid = false; info = info.CommandBuffer }

-- the handle of what a call has made: of a pass, a canvas, or a name without a texture, one of no object
abbrev pub handle_in : Object → HandleValue
handle_in (object.Made handle recorder) = handle
handle_in (object.Pass encoder number) = unknown
handle_in (object.Canvas canvas) = unknown
handle_in (object.Shown texture) = unwrap_or texture unknown

-- the handle at a place, or one of no object
abbrev pub handle_at : List Object → ℕ → HandleValue
handle_at objects place = option_map_or handle_in (slice_get objects place) unknown

-- the object that stands at a place
abbrev pub reference_at : List Object → ℕ → ObjRef
reference_at objects place = (handle_at objects place).reference

-- the recorder of an encoder
abbrev pub recorder_in : Object → Option RecorderValue
recorder_in (object.Made handle recorder) = recorder
recorder_in (object.Pass encoder number) = None
recorder_in (object.Canvas canvas) = None
recorder_in (object.Shown texture) = None

-- the recorder at a place, if there is one
abbrev pub recorder_at : List Object → ℕ → Option RecorderValue
recorder_at objects place = option_and_then recorder_in (slice_get objects place)

-- an object with its recorder changed, if it has one
abbrev pub changed : Object → (RecorderValue → RecorderValue) → Object
changed (object.Made handle recorder) change = object.Made handle (option_map change recorder)
changed (object.Pass encoder number) change = object.Pass encoder number
changed (object.Canvas canvas) change = object.Canvas canvas
changed (object.Shown texture) change = object.Shown texture

-- the objects with a change of an encoder's recorder
abbrev pub with_recorder : List Object → ℕ → (RecorderValue → RecorderValue) → List Object
with_recorder objects place change = option_map_or (λ x. slice_set objects place (changed x change)) (slice_get objects place) objects

-- on what a recording call stands that names an object at a place: on the encoder itself, or on a pass of one
abbrev pub stand_in : ℕ → Object → Stand
stand_in place (object.Made handle recorder) = record { encoder = place; on = Encoder }
stand_in place (object.Pass encoder number) = record { encoder = encoder; on = Pass number }
stand_in place (object.Canvas canvas) = record { encoder = place; on = Encoder }
stand_in place (object.Shown texture) = record { encoder = place; on = Encoder }

-- on what a recording call stands that names a place
abbrev pub stand_at : List Object → ℕ → Stand
stand_at objects place = option_map_or (stand_in place) (slice_get objects place) (record { encoder = place; on = Encoder })

-- A recording call is late where its encoder's recorder says so. This has begun each pass that a script names, so that the other case
-- is not met.
abbrev pub is_late_by : On → RecorderValue → Bool
is_late_by on recorder = not (is_begun on recorder.passes) || is_late recorder on

-- whether what a recording call stands on has ended
abbrev pub is_late_on : List Object → Stand → Bool
is_late_on objects stand = option_map_or (is_late_by stand.on) (recorder_at objects stand.encoder) true

-- a recorder after a command, if that stands on a pass that was begun
abbrev pub recorded_by : On → Command → RecorderValue → RecorderValue
recorded_by on command recorder = if is_begun on recorder.passes then recorded recorder on command else recorder

-- the objects of a lane after a command that stands there
abbrev pub recorded_on : List Object → Stand → Command → List Object
recorded_on objects stand command = with_recorder objects stand.encoder (recorded_by stand.on command)

-- how many passes were begun on the recorder of an encoder, which is the number of the next
abbrev pub passes_at : List Object → ℕ → ℕ
passes_at objects place = option_map_or (λ recorder. recorder.passes) (recorder_at objects place) 0

-- the pass that a command begins on the encoder of a place, where it begins one that has a slot
abbrev pub begun_by : List Object → ℕ → Command → Option ℕ → List Object
begun_by objects encoder command made = option_map_or (λ slot. option_map_or (λ kind. object.Pass encoder (passes_at objects encoder) ∷ []) (kind_begun command) []) made []

-- the objects once what an encoder's recorder has kept was taken
abbrev pub taken_on : List Object → ℕ → List Object
taken_on objects place = with_recorder objects place taken_out

-- an object that a device with these limits made, an encoder with a recorder that has kept nothing
abbrev pub object_of : Limits → HandleValue → Object
object_of limits handle = object.Made handle (recorder_of limits handle.reference handle.info)
