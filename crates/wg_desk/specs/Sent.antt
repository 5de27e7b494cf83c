-- Which event a call over numbers is, what becomes of the seats, and the recorder of what it makes.
use Rattle.std.specs.Prelude.{ℕ, List, ◌++◌, length, Option, Some, None, option_map, option_and_then, option_to_list}
use Rattle.std.specs.Option.{option_map_or}
use Rattle.wg_types.specs.Requests.{map_refs}
use Rattle.wg_types.specs.declared.handles.Info.{Info}
use Rattle.wg_trace.specs.declared.replies.Answer.{Answer}
use Rattle.wg_types.specs.declared.requests.RequestOf.{RequestOf}
use Rattle.wg_types.specs.declared.requests.RequestOf.TheVariants.{CreateBuffer, CreateTexture, CreateView, CreateSampler, CreateBindGroupLayout, CreatePipelineLayout, CreateBindGroup, CreateComputePipeline, CreateRenderPipeline, GetBindGroupLayout, CreateQuerySet, CreateEncoder, CreateBundleEncoder, Finish, FinishBundle, Submit, WriteBuffer, WriteTexture, Destroy, Drop, Complete, PushErrorScope, PopErrorScope, Lose, WorkDone, MapAsync, Unmap}
use Rattle.wg_encoder.specs.Recorders.{RecorderValue, RecordingValue}
use Rattle.wg_history.specs.declared.events.Setup.{Setup}
use Rattle.wg_history.specs.declared.events.Event.{Event}
use Rattle.wg_history.specs.declared.events.Event.TheVariants as event
use Rattle.wg_history.specs.Entries.{effects_of}
use Rattle.wg_calls.specs.Calls.{event_asked, info_asked}
use Rattle.wg_calls.specs.Encoders.{recorder_of}
use Rattle.wg_desk.specs.declared.seats.Seat.{Seat}
use Rattle.wg_desk.specs.Seats.{found_at, emptied_at, seat_made}

-- the object that a call drops, if it drops one
abbrev pub dropped_by : RequestOf ℕ → Option ℕ
dropped_by (Drop object) = Some object
dropped_by (CreateBuffer known) = None
dropped_by (CreateTexture known) = None
dropped_by (CreateView texture asked) = None
dropped_by (CreateSampler known) = None
dropped_by (CreateBindGroupLayout entries) = None
dropped_by (CreatePipelineLayout layouts) = None
dropped_by (CreateBindGroup layout entries) = None
dropped_by (CreateComputePipeline layout iface) = None
dropped_by (CreateRenderPipeline layout desc) = None
dropped_by (GetBindGroupLayout pipeline index) = None
dropped_by (CreateQuerySet known) = None
dropped_by CreateEncoder = None
dropped_by (CreateBundleEncoder targets) = None
dropped_by (Finish encoder) = None
dropped_by (FinishBundle encoder) = None
dropped_by (Submit buffers) = None
dropped_by (WriteBuffer buffer offset size) = None
dropped_by (WriteTexture texture spot layout size data_size) = None
dropped_by (Destroy object) = None
dropped_by (Complete op) = None
dropped_by (PushErrorScope filter) = None
dropped_by PopErrorScope = None
dropped_by Lose = None
dropped_by WorkDone = None
dropped_by (MapAsync buffer mode offset size) = None
dropped_by (Unmap buffer) = None

-- the number of the object that an event drops, if it drops one
abbrev pub dropped_number : Event → Option ℕ
dropped_number event = option_map (λ object. object.number) (effects_of event).dropped

-- the seats without what an event drops
abbrev pub left_after : Event → List Seat → List Seat
left_after event seats = option_map_or (emptied_at seats) (dropped_number event) seats

-- what an event hands over that ends an encoder
abbrev pub handed_over : Event → Option RecordingValue
handed_over (event.Finish encoder recording) = Some recording
handed_over (event.FinishBundle encoder recording) = Some recording
handed_over _ = None

-- the event of a call, over the handles at its numbers
abbrev pub event_sent : List Seat → RequestOf ℕ → Event
event_sent seats request = event_asked (map_refs (found_at seats) request)

-- The seats after a call that was answered so: what it makes is seated at the next number, and of the object that it drops nothing is
-- kept.

-- the seats with what a call made that was answered so
abbrev pub seats_asked : Setup → List Seat → RequestOf ℕ → Answer → List Seat
seats_asked setup seats request answer = seats ++ option_to_list (seat_made setup (info_asked (map_refs (found_at seats) request)) answer)

-- the seats after a call that was answered so, without the object that it drops
abbrev pub seats_after : Setup → List Seat → RequestOf ℕ → Answer → List Seat
seats_after setup seats request answer = option_map_or (emptied_at (seats_asked setup seats request answer)) (dropped_by request) (seats_asked setup seats request answer)

-- the recorder of the object of a number, of which so much is known, once a device makes it, if it is an encoder
abbrev pub recorder_made : Setup → ℕ → Option Info → Option RecorderValue
recorder_made setup n known = option_and_then (λ known. recorder_of setup.limits (record { device = setup.serial; number = n }) known) known

-- the recorder of what a call makes, if that is an encoder
abbrev pub recorder_asked : Setup → List Seat → RequestOf ℕ → Option RecorderValue
recorder_asked setup seats request = recorder_made setup (length seats) (info_asked (map_refs (found_at seats) request))
