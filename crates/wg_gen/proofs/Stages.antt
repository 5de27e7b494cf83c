-- Where a lane of a generated script is on its way.
use Rattle.std.proofs.Common.{◌≡◌, ◌≤◌, ◌<◌, ℕ, zero, suc, ◌+◌, true, Some, None, List, [], ◌∷◌, ◌++◌, length}
use Rattle.wg_types.specs.Handles.{HandleValue}
use Rattle.wg_types.specs.declared.commands.CommandOf.TheVariants.{CopyBufferToBuffer}
use Rattle.wg_types.specs.declared.handles.Info.TheVariants as info
use Rattle.wg_types.specs.declared.requests.RequestOf.TheVariants.{CreateEncoder, Finish, Submit}
use Rattle.wg_calls.specs.Calls.{opened_for}
use Rattle.wg_script.specs.CallOf.{BoundCall}
use Rattle.wg_script.specs.declared.calls.CallOf.TheVariants.{Record, Ask}
use Rattle.wg_play.specs.declared.objects.Object.{Object}
use Rattle.wg_play.specs.declared.objects.Object.TheVariants as object
use Rattle.wg_play.specs.Objects.{handle_at}
use Rattle.wg_play.specs.Lanes.{LaneState}
use Rattle.wg_gen.specs.declared.draws.Spot.{Spot}
use Rattle.wg_gen.specs.Generator.{iterations, creation, destruction}
use Rattle.wg_gen.proofs.Facts.{device, device_maker, ref, buffer_handle}

-- ---- objects

abbrev pub encoder_handle : ℕ → HandleValue
encoder_handle n = record { reference = ref n; valid = true; info = info.Encoder }

abbrev pub command_handle : ℕ → HandleValue
command_handle n = record { reference = ref n; valid = true; info = info.CommandBuffer }

-- an encoder that is open and has kept nothing
abbrev pub encoder : ℕ → Object
encoder n = object.Made (encoder_handle n) (Some (opened_for device.limits (ref n)))

-- one that has kept a copy and was finished
abbrev pub spent : ℕ → Object
spent n = object.Made (encoder_handle n) (Some (record { maker = device_maker; targets = None; encoder = Some (ref n); commands = []; takes = 1; passes = 0 }))

abbrev pub command_buffer : ℕ → Object
command_buffer n = object.Made (command_handle n) None

abbrev pub buffer : ℕ → Object
buffer n = object.Made (buffer_handle n) None

-- ---- stages

-- Between two iterations; after the write; with encoder n open; and with its command buffer, m, not submitted yet. What is left of
-- the iterations stands behind.
pub data Stage : Type 0 where
  between : List Spot → Stage
  written : Spot → List Spot → Stage
  opened : ℕ → Spot → List Spot → Stage
  finished : ℕ → ℕ → List Spot → Stage

-- what the lane has made in the iteration
abbrev pub made_in_stage : Stage → List Object
made_in_stage (between spots) = []
made_in_stage (written spot spots) = []
made_in_stage (opened n spot spots) = encoder n ∷ []
made_in_stage (finished n m spots) = spent n ∷ command_buffer m ∷ []

-- the calls that are left, where the iteration has this slot
abbrev pub left_in_stage : ℕ → Stage → List BoundCall
left_in_stage slot (between spots) = iterations slot spots
left_in_stage slot (written spot spots) =
    Ask CreateEncoder (Some slot)
    ∷ Record slot (CopyBufferToBuffer spot.source spot.offset spot.target spot.offset 128) None
    ∷ Ask (Finish slot) (Some (slot + 1))
    ∷ Ask (Submit ((slot + 1) ∷ [])) None
    ∷ iterations (slot + 2) spots
left_in_stage slot (opened n spot spots) =
    Record slot (CopyBufferToBuffer spot.source spot.offset spot.target spot.offset 128) None
    ∷ Ask (Finish slot) (Some (slot + 1))
    ∷ Ask (Submit ((slot + 1) ∷ [])) None
    ∷ iterations (slot + 2) spots
left_in_stage slot (finished n m spots) = Ask (Submit ((slot + 1) ∷ [])) None ∷ iterations (slot + 2) spots

-- a lane whose first slot is this, which has made so much in the iterations before
abbrev pub lane_in : List Object → ℕ → List Object → Stage → LaneState
lane_in others first before stage = record {
  sight = record { others = others; first = first; own = before ++ made_in_stage stage };
  left = left_in_stage (first + length before) stage;
}

-- The eight buffers stand at their slots, which come before the lane's own.
pub record SeesBuffers (others : List Object) (first : ℕ) : Type 0 where
  pub buffers : (n : ℕ) → n < 8 → handle_at others n ≡ buffer_handle n
  pub later : 8 ≤ first

-- ---- the first and the last phase

-- the calls that create so many buffers, or destroy them, from slot k on
abbrev pub creations : ℕ → ℕ → List BoundCall
creations k zero = []
creations k (suc n) = creation k ∷ creations (suc k) n

abbrev pub destructions : ℕ → ℕ → List BoundCall
destructions k zero = []
destructions k (suc n) = destruction k ∷ destructions (suc k) n

-- the first k buffers
abbrev pub buffers_below : ℕ → List Object
buffers_below zero = []
buffers_below (suc k) = buffers_below k ++ buffer k ∷ []

abbrev pub creating : ℕ → ℕ → LaneState
creating k n = record { sight = record { others = []; first = 0; own = buffers_below k }; left = creations k n }

abbrev pub destroying : List Object → ℕ → ℕ → ℕ → LaneState
destroying others first k n = record { sight = record { others = others; first = first; own = [] }; left = destructions k n }
