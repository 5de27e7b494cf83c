-- The script that the generator makes.
use Rattle.std.specs.Prelude.{ℕ, zero, suc, ◌+◌, ◌*◌, ◌/◌, ◌%◌, List, [], ◌∷◌, ◌++◌, map, Some, None, false}
use Rattle.wg_types.specs.declared.handles.BufferInfo.{BufferInfo}
use Rattle.wg_types.specs.declared.commands.CommandOf.TheVariants.{CopyBufferToBuffer}
use Rattle.wg_types.specs.declared.requests.RequestOf.TheVariants.{CreateBuffer, CreateEncoder, Finish, Submit, WriteBuffer, Destroy, Complete}
use Rattle.wg_limits.specs.Limits.{default_limits}
use Rattle.wg_script.specs.CallOf.{BoundCall}
use Rattle.wg_script.specs.declared.calls.CallOf.TheVariants.{Record, Ask}
use Rattle.wg_script.specs.declared.draft.Script.{Script}
use Rattle.wg_gen.specs.declared.draws.Spot.{Spot}

-- ---- draws

-- the state after a draw, which gives that state divided by 65536, rounded down
abbrev pub next : ℕ → ℕ
next state = (state * 1103515245 + 12345) % 2147483648

-- the number that is drawn of a state
abbrev pub drawn : ℕ → ℕ
drawn state = next state / 65536

-- Where an iteration writes, and what it copies, by three draws.
abbrev pub spot_by : ℕ → ℕ → ℕ → Spot
spot_by first second third = record { source = first % 8; target = (first % 8 + 1 + second % 7) % 8; offset = 4 * (third % 256) }

-- where an iteration writes and copies, by the state of its draws
abbrev pub spot_at : ℕ → Spot
spot_at state = spot_by (drawn state) (drawn (next state)) (drawn (next (next state)))

-- where so many iterations write and copy, one after another, from a state on
abbrev pub spots : ℕ → ℕ → List Spot
spots zero state = []
spots (suc count) state = spot_at state ∷ spots count (next (next (next state)))

-- ---- calls

-- there are eight buffers, whose slots are these
abbrev pub eight : List ℕ
eight = 0 ∷ 1 ∷ 2 ∷ 3 ∷ 4 ∷ 5 ∷ 6 ∷ 7 ∷ []

-- what each of the eight buffers is made with: it is copied from and to
abbrev pub buffer_info : BufferInfo
buffer_info = record { size = 4096; usage = 12; mapped = false }

-- the call that makes the buffer of a slot
abbrev pub creation : ℕ → BoundCall
creation slot = Ask (CreateBuffer buffer_info) (Some slot)

-- the call that destroys the buffer of a slot
abbrev pub destruction : ℕ → BoundCall
destruction slot = Ask (Destroy slot) None

-- An iteration writes 64 bytes to a buffer, and records a copy of 128 of it, which it finishes and submits alone. It makes an
-- encoder, which has this slot, and a command buffer, which has the next.
abbrev pub iteration : ℕ → Spot → List BoundCall
iteration slot spot =
    Ask (WriteBuffer spot.source spot.offset 64) None
    ∷ Ask CreateEncoder (Some slot)
    ∷ Record slot (CopyBufferToBuffer spot.source spot.offset spot.target spot.offset 128) None
    ∷ Ask (Finish slot) (Some (slot + 1))
    ∷ Ask (Submit ((slot + 1) ∷ [])) None
    ∷ []

-- one after another, from a slot on
abbrev pub iterations : ℕ → List Spot → List BoundCall
iterations slot [] = []
iterations slot (spot ∷ more) = iteration slot spot ++ iterations (slot + 2) more

-- lane j of `count` iterations begins with the state j + 1; the lanes before it have made two slots an iteration
abbrev pub lane_of : ℕ → ℕ → List BoundCall
lane_of count lane = iterations (8 + 2 * (lane * count)) (spots count (lane + 1))

-- so many lanes of iterations, from one of them on
abbrev pub lanes_from : ℕ → ℕ → ℕ → List (List BoundCall)
lanes_from count lane zero = []
lanes_from count lane (suc lanes) = lane_of count lane ∷ lanes_from count (suc lane) lanes

-- the calls at the end, by which all operations are complete, two an iteration, and the buffers are destroyed
abbrev pub ending : ℕ → List BoundCall
ending iterations_made = Ask (Complete (2 * iterations_made)) None ∷ map destruction eight

-- the phases of the generated script: buffers are made, the lanes go through their iterations, and the buffers are
-- destroyed
abbrev pub phases_of : ℕ → ℕ → List (List (List BoundCall))
phases_of count lanes = (map creation eight ∷ []) ∷ lanes_from count 0 lanes ∷ (ending (count * lanes) ∷ []) ∷ []

-- the script of so many iterations in each of so many lanes
abbrev pub generated : ℕ → ℕ → Script
generated count lanes = record { budget = 1000000; limits = default_limits; phases = phases_of count lanes }
