-- What event a lane of a generated script has next at each stage, and what the lane is once that was replied to.
use Rattle.std.proofs.Common.{◌≡◌, ◌<◌, ◌≤◌, ℕ, zero, suc, ◌+◌, ◌-◌, Bool, true, Option, Some, None, List, [], ◌∷◌, ◌++◌, length, map, refl, sym, ap, ◌∙◌, inl, inr, arith, append_assoc, if◌then◌else◌}
use Rattle.std.specs.Prelude.{slice_get}
use Rattle.std.specs.Option.{option_map_or}
use Rattle.std.proofs.lemmas.Bool.{cases_eq, lt-ltb, le-ltb}
use Rattle.std.proofs.lemmas.List.{append-nil, length-append}
use Rattle.wg_types.specs.Handles.{HandleValue}
use Rattle.wg_types.specs.Commands.{Command}
use Rattle.wg_types.specs.declared.commands.On.TheVariants as on
use Rattle.wg_types.specs.declared.commands.CommandOf.{CommandOf}
use Rattle.wg_types.specs.declared.commands.CommandOf.TheVariants.{CopyBufferToBuffer}
use Rattle.wg_types.specs.declared.handles.Info.{Info}
use Rattle.wg_types.specs.declared.handles.Info.TheVariants as info
use Rattle.wg_trace.specs.declared.replies.Answer.{Answer}
use Rattle.wg_trace.specs.declared.replies.Answer.TheVariants.{Made}
use Rattle.wg_trace.specs.declared.replies.Reply.{Reply}
use Rattle.wg_types.specs.declared.requests.RequestOf.TheVariants.{Finish, Submit, Complete}
use Rattle.wg_encoder.specs.Recorders.{RecorderValue, after_take, targets_left}
use Rattle.wg_calls.specs.Calls.{unlimited, opened_for, handle_of}
use Rattle.wg_history.specs.declared.events.Event.{Event}
use Rattle.wg_history.specs.declared.events.Event.TheVariants as event
use Rattle.wg_script.specs.CallOf.{BoundCall}
use Rattle.wg_script.specs.declared.calls.CallOf.TheVariants.{Record, Ask}
use Rattle.wg_play.specs.declared.objects.Object.{Object}
use Rattle.wg_play.specs.declared.objects.Object.TheVariants as object
use Rattle.wg_play.specs.declared.objects.Stand.{Stand}
use Rattle.wg_play.specs.Objects.{handle_in, handle_at, unknown, changed, recorder_at, with_recorder, stand_at, is_late_by, is_late_on, recorded_by, recorded_on, taken_on}
use Rattle.wg_play.specs.Sights.{Sight, handle_in_sight}
use Rattle.wg_play.specs.Lanes.{LaneState, kept, command_seen, stand_seen, noted_on, finish_by, finish_known, handle_known, with_handle, settled, settle, next_at, next_event, after_at, after_reply}
use Rattle.wg_play.proofs.Slots.{with_tail, recorder_new, stand_encoder}
use Rattle.wg_gen.specs.declared.draws.Spot.{Spot}
use Rattle.wg_gen.specs.Generator.{iterations, buffer_info, eight, creation, destruction}
use Rattle.wg_gen.proofs.Facts.{IsSpot, device, device_maker, ref, buffer_handle, create_buffer, write, copy, finish, submit, destroy}
use Rattle.wg_gen.proofs.Stages.{encoder_handle, command_handle, encoder, spent, command_buffer, buffer, between, written, opened, finished, lane_in, SeesBuffers, creations, destructions, buffers_below, creating, destroying}

-- ---- what a slot stands for

-- what a lane sees
abbrev sight_with : List Object → ℕ → List Object → Sight
sight_with others first own = record { others = others; first = first; own = own }

buffer_seen : (others : List Object) (first : ℕ) (own : List Object) (n : ℕ) → SeesBuffers others first → n < 8 → handle_in_sight (sight_with others first own) n ≡ buffer_handle n
buffer_seen others first own n sees small =
    let later : 8 ≤ first = sees.later in
    ap (λ (b : Bool). if b then handle_at others n else handle_at own (n - first)) (lt-ltb n first (omega arith)) ∙ sees.buffers n small

-- a slot of the lane's own, by its place
own_seen : (others : List Object) (first : ℕ) (own : List Object) (place slot : ℕ) → slot ≡ first + place → handle_in_sight (sight_with others first own) slot ≡ handle_at own place
own_seen others first own place slot here =
    let back : slot - first ≡ place = omega arith in
    ap (λ (b : Bool). if b then handle_at others slot else handle_at own (slot - first)) (le-ltb slot first (omega arith)) ∙ ap (λ n. handle_at own n) back

place_back : (first place : ℕ) → first + place - first ≡ place
place_back first place = omega arith

-- ---- the objects of an iteration

-- a change of the recorder of the last object
change_last : (before : List Object) (o : Object) (change : RecorderValue → RecorderValue) → with_recorder (before ++ o ∷ []) (length before) change ≡ before ++ changed o change ∷ []
change_last [] o change = refl
change_last (x ∷ before) o change = with_tail x (before ++ o ∷ []) (length before) change ∙ ap (λ (os : List Object). x ∷ os) (change_last before o change)

-- what stands after one more object
at_second : (before : List Object) (one two : Object) → slice_get (before ++ one ∷ two ∷ []) (suc (length before)) ≡ Some two
at_second [] one two = refl
at_second (x ∷ before) one two = at_second before one two

-- an encoder that has kept a copy
abbrev kept_recorder : ℕ → Spot → RecorderValue
kept_recorder n spot = record { maker = device_maker; targets = None; encoder = Some (ref n); commands = (on.Encoder, copy spot) ∷ []; takes = 0; passes = 0 }

abbrev keeper : ℕ → Spot → Object
keeper n spot = object.Made (encoder_handle n) (Some (kept_recorder n spot))

-- ---- between iterations, and after the write

pub between_none : (others : List Object) (first : ℕ) (before : List Object) → next_event (lane_in others first before (between [])) ≡ None
between_none others first before = refl

pub write_next : (others : List Object) (first : ℕ) (before : List Object) (spot : Spot) (spots : List Spot) → SeesBuffers others first → IsSpot spot
    → next_event (lane_in others first before (between (spot ∷ spots))) ≡ Some (write spot)
write_next others first before spot spots sees is =
    ap (λ (h : HandleValue). Some (event.WriteBuffer h.reference spot.offset 64)) (buffer_seen others first (before ++ []) spot.source sees is.source)

pub write_after : (others : List Object) (first : ℕ) (before : List Object) (spot : Spot) (spots : List Spot) (reply : Reply)
    → after_reply device (lane_in others first before (between (spot ∷ spots))) reply ≡ lane_in others first before (written spot spots)
write_after others first before spot spots reply = refl

pub create_next : (others : List Object) (first : ℕ) (before : List Object) (spot : Spot) (spots : List Spot) → next_event (lane_in others first before (written spot spots)) ≡ Some event.CreateEncoder
create_next others first before spot spots = refl

-- a lane that sees this, with these calls left
abbrev lane_with : List BoundCall → Sight → LaneState
lane_with left sight = record { sight = sight; left = left }

-- what is left once an encoder with this slot is open
abbrev ends_left : ℕ → List Spot → List BoundCall
ends_left slot spots = Ask (Finish slot) (Some (slot + 1)) ∷ Ask (Submit ((slot + 1) ∷ [])) None ∷ iterations (slot + 2) spots

abbrev copy_left : ℕ → Spot → BoundCall
copy_left slot spot = Record slot (CopyBufferToBuffer spot.source spot.offset spot.target spot.offset 128) None

pub create_after : (others : List Object) (first : ℕ) (before : List Object) (spot : Spot) (spots : List Spot) (n : ℕ) (reply : Reply) → reply.answer ≡ Made n true
    → after_reply device (lane_in others first before (written spot spots)) reply ≡ lane_in others first before (opened n spot spots)
create_after others first before spot spots n reply made =
    let slot : ℕ = first + length before in
    let left : List BoundCall = copy_left slot spot ∷ ends_left slot spots in
    ap (λ (a : Answer). lane_with left (with_handle device.limits (sight_with others first (before ++ [])) (handle_of 1 info.Encoder a))) made
    ∙ ap (λ (os : List Object). lane_with left (sight_with others first (os ++ encoder n ∷ []))) (append-nil before)

-- ---- with an encoder open

copy_seen : (others : List Object) (first : ℕ) (own : List Object) (spot : Spot) → SeesBuffers others first → IsSpot spot
    → command_seen (sight_with others first own) (CopyBufferToBuffer spot.source spot.offset spot.target spot.offset 128) ≡ copy spot
copy_seen others first own spot sees is =
    let seen : ℕ → HandleValue = handle_in_sight (sight_with others first own) in
    ap (λ (h : HandleValue). CopyBufferToBuffer h spot.offset (seen spot.target) spot.offset 128) (buffer_seen others first own spot.source sees is.source)
    ∙ ap (λ (h : HandleValue). CopyBufferToBuffer (buffer_handle spot.source) spot.offset h spot.offset 128) (buffer_seen others first own spot.target sees is.target)

-- the copy is kept by the encoder's recorder, and is no event
copy_kept : (others : List Object) (first : ℕ) (before : List Object) (n : ℕ) (spot : Spot) → SeesBuffers others first → IsSpot spot
    → kept (sight_with others first (before ++ encoder n ∷ [])) (copy_left (first + length before) spot) ≡ Some (sight_with others first (before ++ keeper n spot ∷ []))
copy_kept others first before n spot sees is =
    let own : List Object = before ++ encoder n ∷ [] in
    let sight : Sight = sight_with others first own in
    let asked : CommandOf ℕ = CopyBufferToBuffer spot.source spot.offset spot.target spot.offset 128 in
    let here : Stand = record { encoder = length before; on = on.Encoder } in
    let found : recorder_at own (length before) ≡ Some (opened_for device.limits (ref n)) = recorder_new before (encoder n) in
    let stands : stand_seen sight (first + length before) ≡ here
    = ap (λ place. stand_at own place) (place_back first (length before)) ∙ stand_encoder own (length before) (opened_for device.limits (ref n)) found in
    ap (λ (stand : Stand). if is_late_on own stand then None else Some (noted_on sight stand (command_seen sight asked) None)) stands
    ∙ ap (λ (r : Option RecorderValue). if option_map_or (is_late_by on.Encoder) r true then None else Some (noted_on sight here (command_seen sight asked) None)) found
    ∙ ap (λ (command : Command). Some (noted_on sight here command None)) (copy_seen others first own spot sees is)
    ∙ ap (λ (os : List Object). Some (sight_with others first os)) (append-nil (recorded_on own here (copy spot)) ∙ change_last before (encoder n) (recorded_by on.Encoder (copy spot)))

-- so the lane goes on to the finish
open_settled : (others : List Object) (first : ℕ) (before : List Object) (n : ℕ) (spot : Spot) (spots : List Spot) → SeesBuffers others first → IsSpot spot
    → settle (lane_in others first before (opened n spot spots)) ≡ lane_with (ends_left (first + length before) spots) (sight_with others first (before ++ keeper n spot ∷ []))
open_settled others first before n spot spots sees is =
    let slot : ℕ = first + length before in
    let left : List BoundCall = ends_left slot spots in
    ap (λ (found : Option Sight). option_map_or (λ (after : Sight). settled after left) found (lane_with (copy_left slot spot ∷ left) (sight_with others first (before ++ encoder n ∷ []))))
    (copy_kept others first before n spot sees is)

pub finish_next : (others : List Object) (first : ℕ) (before : List Object) (n : ℕ) (spot : Spot) (spots : List Spot) → SeesBuffers others first → IsSpot spot
    → next_event (lane_in others first before (opened n spot spots)) ≡ Some (finish n spot)
finish_next others first before n spot spots sees is =
    let own : List Object = before ++ keeper n spot ∷ [] in
    let seen : HandleValue = handle_in_sight (sight_with others first own) (first + length before) in
    let without : Event = event.Finish seen.reference (record { maker = unlimited seen.reference; targets = None; commands = [] }) in
    ap (λ (lane : LaneState). next_at lane) (open_settled others first before n spot spots sees is)
    ∙ ap (λ (place : ℕ). Some (finish_by (recorder_at own place) without)) (place_back first (length before))
    ∙ ap (λ (r : Option RecorderValue). Some (finish_by r without)) (recorder_new before (keeper n spot))

pub finish_after : (others : List Object) (first : ℕ) (before : List Object) (n : ℕ) (spot : Spot) (spots : List Spot) (m : ℕ) (reply : Reply) → SeesBuffers others first → IsSpot spot → reply.answer ≡ Made m true
    → after_reply device (lane_in others first before (opened n spot spots)) reply ≡ lane_in others first before (finished n m spots)
finish_after others first before n spot spots m reply sees is made =
    let slot : ℕ = first + length before in
    let own : List Object = before ++ keeper n spot ∷ [] in
    let left : List BoundCall = Ask (Submit ((slot + 1) ∷ [])) None ∷ iterations (slot + 2) spots in
    let take : RecorderValue → RecorderValue = λ r. record r { targets = targets_left r.targets; commands = []; takes = after_take r.takes } in
    let known : Option RecorderValue → Option Info = λ r. finish_known r (Some info.CommandBuffer) in
    let after : ℕ → Option Info → Answer → LaneState = λ place k a. lane_with left (with_handle device.limits (sight_with others first (taken_on own place)) (handle_known device k a)) in
    ap (λ (lane : LaneState). after_at device lane reply) (open_settled others first before n spot spots sees is)
    ∙ ap (λ (place : ℕ). after place (known (recorder_at own place)) reply.answer) (place_back first (length before))
    ∙ ap (λ (r : Option RecorderValue). after (length before) (known r) reply.answer) (recorder_new before (keeper n spot))
    ∙ ap (λ (a : Answer). after (length before) (Some info.CommandBuffer) a) made
    ∙ ap (λ (os : List Object). lane_with left (sight_with others first (os ++ command_buffer m ∷ []))) (change_last before (keeper n spot) take)
    ∙ ap (λ (os : List Object). lane_with left (sight_with others first os)) (append_assoc before (spent n ∷ []) (command_buffer m ∷ []))

-- ---- with a command buffer

pub submit_next : (others : List Object) (first : ℕ) (before : List Object) (n m : ℕ) (spots : List Spot) → SeesBuffers others first
    → next_event (lane_in others first before (finished n m spots)) ≡ Some (submit m)
submit_next others first before n m spots sees =
    let own : List Object = before ++ spent n ∷ command_buffer m ∷ [] in
    let seen : handle_in_sight (sight_with others first own) (first + length before + 1) ≡ command_handle m
    = own_seen others first own (suc (length before)) (first + length before + 1) (omega arith)
    ∙ ap (λ (found : Option Object). option_map_or handle_in found unknown) (at_second before (spent n) (command_buffer m)) in
    ap (λ (h : HandleValue). Some (event.Submit (h.reference ∷ []))) seen

pub submit_after : (others : List Object) (first : ℕ) (before : List Object) (n m : ℕ) (spots : List Spot) (reply : Reply)
    → after_reply device (lane_in others first before (finished n m spots)) reply ≡ lane_in others first (before ++ spent n ∷ command_buffer m ∷ []) (between spots)
submit_after others first before n m spots reply =
    let own : List Object = before ++ spent n ∷ command_buffer m ∷ [] in
    let count : length own ≡ length before + 2 = length-append before (spent n ∷ command_buffer m ∷ []) in
    let slot : first + length before + 2 ≡ first + length own = omega (arith, count) in
    ap (λ (k : ℕ). lane_with (iterations k spots) (sight_with others first own)) slot
    ∙ ap (λ (os : List Object). lane_with (iterations (first + length own) spots) (sight_with others first os)) (sym (append-nil own))

-- ---- the creation of the buffers

pub creating_none : (k : ℕ) → next_event (creating k 0) ≡ None
creating_none k = refl

pub creating_next : (k n : ℕ) → next_event (creating k (suc n)) ≡ Some create_buffer
creating_next k n = refl

pub creating_after : (k n : ℕ) (reply : Reply) → reply.answer ≡ Made k true → after_reply device (creating k (suc n)) reply ≡ creating (suc k) n
creating_after k n reply made = ap (λ (a : Answer). lane_with (creations (suc k) n) (with_handle device.limits (sight_with [] 0 (buffers_below k)) (handle_of 1 (info.Buffer buffer_info) a))) made

pub buffers_length : (k : ℕ) → length (buffers_below k) ≡ k
buffers_length zero = refl
buffers_length (suc k) = let joined : length (buffers_below k ++ buffer k ∷ []) ≡ length (buffers_below k) + 1 = length-append (buffers_below k) (buffer k ∷ []) in
    let below : length (buffers_below k) ≡ k = buffers_length k in omega (arith, joined, below)

-- what stands after so many objects
at_middle : (before more : List Object) (o : Object) (place : ℕ) → length before ≡ place → slice_get (before ++ o ∷ more) place ≡ Some o
at_middle [] more o zero here = refl
at_middle [] more o (suc place) here = absurd (omega arith)
at_middle (x ∷ before) more o zero here = absurd (omega arith)
at_middle (x ∷ before) more o (suc place) here = at_middle before more o place (omega arith)

-- the buffers stand at their slots, whatever was made later
pub buffers_at : (k n : ℕ) (more : List Object) → n < k → handle_at (buffers_below k ++ more) n ≡ buffer_handle n
buffers_at zero n more small = absurd (omega arith)
buffers_at (suc k) n more small =
    ap (λ (os : List Object). handle_at os n) (append_assoc (buffers_below k) (buffer k ∷ []) more)
    ∙ elim (cases_eq n k) [
      | inl same ↦ ap (λ (found : Option Object). option_map_or handle_in found unknown) (at_middle (buffers_below k) more (buffer k) n (buffers_length k ∙ sym same)) ∙ ap buffer_handle (sym same)
      | inr differs ↦ buffers_at k n (buffer k ∷ more) (omega arith)
    ]

pub creations_are : map creation eight ≡ creations 0 8
creations_are = refl

-- ---- the last phase

pub destroying_none : (others : List Object) (first k : ℕ) → next_event (destroying others first k 0) ≡ None
destroying_none others first k = refl

pub destroying_next : (others : List Object) (first k n : ℕ) → SeesBuffers others first → k < 8 → next_event (destroying others first k (suc n)) ≡ Some (destroy k)
destroying_next others first k n sees small = ap (λ (h : HandleValue). Some (event.Destroy h.reference)) (buffer_seen others first [] k sees small)

pub destroying_after : (others : List Object) (first k n : ℕ) (reply : Reply) → after_reply device (destroying others first k (suc n)) reply ≡ destroying others first (suc k) n
destroying_after others first k n reply = refl

pub destructions_are : map destruction eight ≡ destructions 0 8
destructions_are = refl

pub complete_next : (others : List Object) (first op : ℕ) (left : List BoundCall)
    → next_event (record { sight = record { others = others; first = first; own = [] }; left = Ask (Complete op) None ∷ left }) ≡ Some (event.Complete op)
complete_next others first op left = refl

pub complete_after : (others : List Object) (first op : ℕ) (left : List BoundCall) (reply : Reply)
    → after_reply device (record { sight = record { others = others; first = first; own = [] }; left = Ask (Complete op) None ∷ left }) reply ≡ record { sight = record { others = others; first = first; own = [] }; left = left }
complete_after others first op left reply = refl
