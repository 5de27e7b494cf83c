-- The calls of a lane: which event each is, and what the lane sees after it.
use Rattle.std.specs.Prelude.{ℕ, ◌+◌, List, [], ◌∷◌, ◌++◌, length, Option, Some, None, option_and_then, if◌then◌else◌}
use Rattle.std.specs.Option.{option_map_or}
use Rattle.wg_types.specs.Handles.{HandleValue}
use Rattle.wg_types.specs.declared.commands.CommandOf.{CommandOf}
use Rattle.wg_types.specs.declared.handles.Info.{Info}
use Rattle.wg_types.specs.declared.limits.Limits.{Limits}
use Rattle.wg_types.specs.Commands.{Command, map_refs}
use Rattle.wg_types.specs.Requests.{map_refs as map_asked}
use Rattle.wg_types.specs.declared.canvases.CanvasCall.{CanvasCall}
use Rattle.wg_types.specs.declared.canvases.CanvasOf.{CanvasOf}
use Rattle.wg_types.specs.declared.canvases.CanvasOf.TheVariants.{Create, On}
use Rattle.wg_trace.specs.declared.replies.Answer.{Answer}
use Rattle.wg_trace.specs.declared.replies.Reply.{Reply}
use Rattle.wg_types.specs.declared.requests.RequestOf.{RequestOf}
use Rattle.wg_canvas.specs.declared.canvas.Stage.TheVariants.{Unset}
use Rattle.wg_encoder.specs.Recorders.{RecorderValue}
use Rattle.wg_history.specs.declared.events.Setup.{Setup}
use Rattle.wg_history.specs.declared.events.Event.{Event}
use Rattle.wg_history.specs.declared.events.Event.TheVariants.{Late}
use Rattle.wg_script.specs.CallOf.{BoundCall}
use Rattle.wg_script.specs.declared.calls.CallOf.TheVariants.{Record, Ask, Canvas}
use Rattle.wg_names.specs.Bound.{made_in}
use Rattle.wg_calls.specs.Calls.{event_asked, info_asked, finish_of, known_of_finish, handle_of}
use Rattle.wg_play.specs.declared.objects.Object.{Object}
use Rattle.wg_play.specs.declared.objects.Object.TheVariants as object
use Rattle.wg_play.specs.declared.objects.Stand.{Stand}
use Rattle.wg_play.specs.Canvases.{canvas_asked, given_by, acted_at, shown_at}
use Rattle.wg_calls.specs.Encoders.{ended_by}
use Rattle.wg_play.specs.Objects.{unknown, reference_at, recorder_at, stand_at, is_late_on, recorded_on, begun_by, taken_on, object_of}
use Rattle.wg_play.specs.Sights.{Sight, place_in, handle_in_sight, with_more}

-- ---- recording calls

-- the command of a recording call, with the handle of each object in place of its slot
abbrev pub command_seen : Sight → CommandOf ℕ → Command
command_seen sight command = map_refs (handle_in_sight sight) command

-- where a recording call stands that names a slot
abbrev pub stand_seen : Sight → ℕ → Stand
stand_seen sight on = stand_at sight.own (place_in sight on)

-- What the lane sees once a command was noted where it stands: by its encoder's recorder, which keeps it unless it is late. The
-- begin of a pass makes the pass in either case.
abbrev pub noted_on : Sight → Stand → Command → Option ℕ → Sight
noted_on sight stand command made = record sight { own = recorded_on sight.own stand command ++ begun_by sight.own stand.encoder command made }

-- ---- calls of canvases

-- what a call of a canvas asks of the device, if it asks something; a new canvas asks nothing
abbrev pub canvas_asks : Sight → CanvasOf ℕ → Option (RequestOf HandleValue)
canvas_asks sight (Create width height) = None
canvas_asks sight (On canvas call) = canvas_asked sight.own (place_in sight canvas) call

-- a new canvas as an object, if a call gives it a name
abbrev pub new_canvas : ℕ → ℕ → Option ℕ → List Object
new_canvas width height made = option_map_or (λ slot. object.Canvas (record { width = width; height = height; stage = Unset }) ∷ []) made []

-- what a lane sees, with other objects of its own
abbrev pub with_own : Sight → List Object → Sight
with_own sight objects = record sight { own = objects }

-- the objects of a lane with the current texture that a call gives a name
abbrev pub drawn_on : List Object → ℕ → CanvasCall → Option ℕ → List Object
drawn_on objects place call made = objects ++ shown_at objects place call made

-- what a lane sees after a call of a canvas, which gave this texture
abbrev pub drawn : Sight → CanvasOf ℕ → Option ℕ → Option HandleValue → Sight
drawn sight (Create width height) made given = with_more sight (new_canvas width height made)
drawn sight (On canvas call) made given = with_own sight (drawn_on (acted_at sight.own (place_in sight canvas) call given) (place_in sight canvas) call made)

-- A recording call that is not late is kept by its encoder's recorder, and is no event; nor is a call of a canvas that asks nothing of
-- the device. What the lane sees after it; of every other call there is nothing.
abbrev pub kept : Sight → BoundCall → Option Sight
kept sight (Record on command made) = if is_late_on sight.own (stand_seen sight on) then None else Some (noted_on sight (stand_seen sight on) (command_seen sight command) made)
kept sight (Ask request made) = None
kept sight (Canvas call made) = option_map_or (λ request. None) (canvas_asks sight call) (Some (drawn sight call made None))

-- ---- events

-- The finish of the encoder of a recorder, with what that has kept, which is a finishBundle where the recorder has targets. Each
-- encoder that a script ends has a recorder, which is open, so that the other cases, with another event, are not met.
abbrev pub finish_by : Option RecorderValue → Event → Event
finish_by None other = other
finish_by (Some recorder) other = option_map_or (λ encoder. finish_of encoder recorder) recorder.encoder other

-- what is known of what a call makes, where it ends a recorder that of the recorder
abbrev pub finish_known : Option RecorderValue → Option Info → Option Info
finish_known None other = other
finish_known (Some recorder) other = option_map_or (λ encoder. Some (known_of_finish recorder)) recorder.encoder other

-- a call of the device, with the handle of each object in place of its slot
abbrev pub request_seen : Sight → RequestOf ℕ → RequestOf HandleValue
request_seen sight request = map_asked (handle_in_sight sight) request

-- the event that it is
abbrev pub event_sent : Sight → RequestOf ℕ → Event
event_sent sight request = option_map_or (λ encoder. finish_by (recorder_at sight.own (place_in sight encoder)) (event_asked (request_seen sight request))) (ended_by request) (event_asked (request_seen sight request))

-- what is known of the object that it makes, if it makes one
abbrev pub info_sent : Sight → RequestOf ℕ → Option Info
info_sent sight request = option_map_or (λ encoder. finish_known (recorder_at sight.own (place_in sight encoder)) (info_asked (request_seen sight request))) (ended_by request) (info_asked (request_seen sight request))

-- the event that a call is; a recording call is one where it is late, and a call of a canvas where it asks something, so that the
-- last case is not met
abbrev pub event_of : Sight → BoundCall → Event
event_of sight (Record on command made) = Late (reference_at sight.own (stand_seen sight on).encoder)
event_of sight (Ask request made) = event_sent sight request
event_of sight (Canvas call made) = option_map_or event_asked (canvas_asks sight call) (Late unknown.reference)

-- what the lane sees once the event has taken what it carries
abbrev pub taken_by : Sight → BoundCall → Sight
taken_by sight (Record on command made) = noted_on sight (stand_seen sight on) (command_seen sight command) made
taken_by sight (Ask request made) = option_map_or (λ encoder. record sight { own = taken_on sight.own (place_in sight encoder) }) (ended_by request) sight
taken_by sight (Canvas call made) = sight

-- the handle of what was made by this answer, of which so much is known, if something was made
abbrev pub handle_known : Setup → Option Info → Answer → Option HandleValue
handle_known setup info answer = option_and_then (λ known. handle_of setup.serial known answer) info

-- the handle of what a call of the device has made that was answered so, if it makes something that has a slot
abbrev pub handle_kept : Setup → Sight → RequestOf ℕ → Option ℕ → Answer → Option HandleValue
handle_kept setup sight request made answer = option_and_then (λ slot. handle_known setup (info_sent sight request) answer) made

-- what the lane sees once a device with these limits has answered the event: what it has made has the next slot
abbrev pub with_handle : Limits → Sight → Option HandleValue → Sight
with_handle limits sight None = sight
with_handle limits sight (Some handle) = with_more sight (object_of limits handle ∷ [])

-- what a lane sees after a call that was answered so
abbrev pub answered_by : Setup → Sight → BoundCall → Answer → Sight
answered_by setup sight (Record on command made) answer = taken_by sight (Record on command made)
answered_by setup sight (Ask request made) answer = with_handle setup.limits (taken_by sight (Ask request made)) (handle_kept setup sight request made answer)
answered_by setup sight (Canvas call made) answer = drawn sight call made (given_by setup (canvas_asks sight call) answer)

-- ---- lanes

-- a lane on its way: what it sees, and the calls that are left
pub record LaneState : Type 0 where
  pub sight : Sight
  pub left : List BoundCall

-- the lane at its next event, with the calls before it kept that are none
abbrev pub settled : Sight → List BoundCall → LaneState
settled sight [] = record { sight = sight; left = [] }
settled sight (call ∷ calls) = option_map_or (λ after. settled after calls) (kept sight call) (record { sight = sight; left = call ∷ calls })

-- a lane after the calls at its front that ask the device nothing
abbrev pub settle : LaneState → LaneState
settle lane = settled lane.sight lane.left

-- the event that a lane asks for next, by its calls
abbrev pub next_of : Sight → List BoundCall → Option Event
next_of sight [] = None
next_of sight (call ∷ calls) = Some (event_of sight call)

-- the event that a lane asks for next, if it has one
abbrev pub next_at : LaneState → Option Event
next_at lane = next_of lane.sight lane.left

-- the next event of a lane, if there is one
abbrev pub next_event : LaneState → Option Event
next_event lane = next_at (settle lane)

-- a lane after its next call was replied to so, by its calls
abbrev pub after_of : Setup → Sight → Reply → List BoundCall → LaneState
after_of setup sight reply [] = record { sight = sight; left = [] }
after_of setup sight reply (call ∷ calls) = record { sight = answered_by setup sight call reply.answer; left = calls }

-- a lane after its next call was replied to so
abbrev pub after_at : Setup → LaneState → Reply → LaneState
after_at setup lane reply = after_of setup lane.sight reply lane.left

-- the lane once its next event was replied to
abbrev pub after_reply : Setup → LaneState → Reply → LaneState
after_reply setup lane reply = after_at setup (settle lane) reply

-- ---- phases

-- how many calls of a lane make something that has a slot
abbrev pub count_made : List BoundCall → ℕ
count_made calls = length (made_in calls)

-- the lanes of a phase as it begins, from the lane on whose first slot is this
abbrev pub starts_from : List Object → ℕ → List (List BoundCall) → List LaneState
starts_from others first [] = []
starts_from others first (calls ∷ lanes) = record { sight = record { others = others; first = first; own = [] }; left = calls } ∷ starts_from others (first + count_made calls) lanes

-- the lanes of a phase before their first calls
abbrev pub starts : List Object → List (List BoundCall) → List LaneState
starts objects lanes = starts_from objects (length objects) lanes

-- what there is once a phase is through: what was there, and what each lane has made
abbrev pub gathered : List Object → List LaneState → List Object
gathered objects [] = objects
gathered objects (lane ∷ lanes) = gathered (objects ++ (settle lane).sight.own) lanes
