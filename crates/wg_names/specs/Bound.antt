-- What a script whose names are bound holds.
use Rattle.std.specs.Prelude.{◌≡◌, ℕ, zero, suc, List, [], ◌∷◌, ◌++◌, map, true, All, Contains, bytes_eq, Ok}
use Rattle.std.specs.List.{flat_map, IsDistinct}
use Rattle.std.specs.Option.{option_to_list}
use Rattle.wg_script.specs.CallOf.{Call, BoundCall}
use Rattle.wg_script.specs.Draft.{draft_of}
use Rattle.wg_script.specs.declared.calls.CallOf.{CallOf}
use Rattle.wg_script.specs.declared.draft.ScriptDraft.{ScriptDraft}
use Rattle.wg_types.specs.declared.commands.CommandOf.{CommandOf}
use Rattle.wg_types.specs.Commands.{place_wanted, named_on}
use Rattle.wg_types.specs.Requests.{named as asked_of}
use Rattle.wg_types.specs.Canvases.{named as canvas_named}
use Rattle.wg_types.specs.declared.canvases.CanvasCall.{CanvasCall}
use Rattle.wg_types.specs.declared.canvases.CanvasCall.TheVariants.{Configure, Current, Present}
use Rattle.wg_types.specs.declared.canvases.CanvasOf.{CanvasOf}
use Rattle.wg_types.specs.declared.canvases.CanvasOf.TheVariants.{Create, On}
use Rattle.wg_script.specs.declared.calls.CallOf.TheVariants.{Record, Ask, Canvas}
use Rattle.wg_names.specs.Uses.{made_of, admits, wants_own}
use Rattle.wg_names.specs.Names.{is_name}
use Rattle.wg_names.specs.Script.{map_phases}
use Rattle.wg_types.specs.declared.wanted.Kind.{Kind}
use Rattle.wg_types.specs.declared.wanted.Wanted.{Wanted}

-- names or slots, each with the kind of what it stands for
abbrev pub Made : Type 0 → Type 0
Made R = List (R × Kind)

-- what a call makes, if it makes something
abbrev pub made_by : {R : Type 0} → CallOf R → Made R
made_by call = option_to_list (made_of call)

-- what calls make, in order
abbrev pub made_in : {R : Type 0} → List (CallOf R) → Made R
made_in calls = flat_map made_by calls

-- what is used was made, and stands for what is wanted; an encoder, a bundle encoder, a pass or a canvas that is asked for stands in
-- the second list, which has what the call's own lane made in this phase before the call
pub record IsFound {R : Type 0} (made ours : Made R) (key : R × Wanted) : Type 0 where
  pub kind : Kind
  pub stands : Contains made (key.0, kind)
  pub fits : admits key.1 kind ≡ true
  pub own : wants_own key.1 ≡ true → Contains ours (key.0, kind)

-- what a recording call stands on was made, by the call's own lane in this phase, and takes the call; and what the command names
-- was made, each of which stands for what is wanted on something of that kind
pub record IsOn {R : Type 0} (made ours : Made R) (on : R) (command : CommandOf R) : Type 0 where
  pub place : Kind
  pub stands : Contains made (on, place)
  pub own : Contains ours (on, place)
  pub takes : admits (place_wanted command) place ≡ true
  pub found : All (IsFound made ours) (named_on place command)

-- Each name that a call uses was made before, and stands for what is wanted.
abbrev pub CallIsBound : {R : Type 0} → Made R → Made R → CallOf R → Type 0
CallIsBound made ours (Record on command name) = IsOn made ours on command
CallIsBound made ours (Ask request name) = All (IsFound made ours) (asked_of request)
CallIsBound made ours (Canvas call name) = All (IsFound made ours) (canvas_named call)

-- each name that a call of a lane uses is found among what was made before the phase, and what the
-- lane made before the call, where it stands in the second list
abbrev pub LaneIsBound : {R : Type 0} → Made R → Made R → List (CallOf R) → Type 0
LaneIsBound made ours [] = Unit {0}
LaneIsBound made ours (call ∷ calls) = CallIsBound made ours call × LaneIsBound (made ++ made_by call) (ours ++ made_by call) calls

-- the lanes of a phase see what earlier phases made, and not one another; none has made anything when the phase begins
abbrev pub PhasesAreBound : {R : Type 0} → Made R → List (List (List (CallOf R))) → Type 0
PhasesAreBound made [] = Unit {0}
PhasesAreBound made (lanes ∷ phases) = All (LaneIsBound made []) lanes × PhasesAreBound (made ++ flat_map made_in lanes) phases

-- the canvas that a call configures, if it does
abbrev pub configured_on : {R : Type 0} → R → CanvasCall → List R
configured_on canvas (Configure format usage) = canvas ∷ []
configured_on canvas Current = []
configured_on canvas Present = []

-- the canvas that a call of a canvas configures, if it does
abbrev pub configured_in : {R : Type 0} → CanvasOf R → List R
configured_in (Create width height) = []
configured_in (On canvas call) = configured_on canvas call

-- the canvas that a call configures, if it does
abbrev pub configured_by : {R : Type 0} → CallOf R → List R
configured_by (Record on command made) = []
configured_by (Ask request made) = []
configured_by (Canvas call made) = configured_in call

-- a call that asks for a current texture does so of a canvas in the list
abbrev pub IsConfigured : {R : Type 0} → List R → R → CanvasCall → Type 0
IsConfigured done canvas (Configure format usage) = Unit {0}
IsConfigured done canvas Current = Contains done canvas
IsConfigured done canvas Present = Unit {0}

-- A call for a current texture is of a canvas that was configured; of other calls of canvases nothing is said.
abbrev pub CanvasIsSet : {R : Type 0} → List R → CanvasOf R → Type 0
CanvasIsSet done (Create width height) = Unit {0}
CanvasIsSet done (On canvas call) = IsConfigured done canvas call

-- A call for a current texture is of a canvas that was configured; of other calls nothing is said.
abbrev pub CallIsSet : {R : Type 0} → List R → CallOf R → Type 0
CallIsSet done (Record on command made) = Unit {0}
CallIsSet done (Ask request made) = Unit {0}
CallIsSet done (Canvas call made) = CanvasIsSet done call

-- each current texture that a lane asks for is of a canvas that stands in the list, or that an earlier call of the lane configures
abbrev pub LaneIsSet : {R : Type 0} → List R → List (CallOf R) → Type 0
LaneIsSet done [] = Unit {0}
LaneIsSet done (call ∷ calls) = CallIsSet done call × LaneIsSet (done ++ configured_by call) calls

-- the names or slots that the calls of a script make, in reading order
abbrev pub all_made : {R : Type 0} → List (List (List (CallOf R))) → List R
all_made phases = map (λ m. m.0) (flat_map (flat_map made_in) phases)

-- the numbers from 0 on that are below n
abbrev pub numbers_below : ℕ → List ℕ
numbers_below zero = []
numbers_below (suc n) = numbers_below n ++ n ∷ []

-- In a script each used slot was made by an earlier visible call and stands for what is wanted; the encoders, bundle encoders and
-- passes that calls stand on or end, and the canvases that they name, were made by the same lane in the same phase; a canvas was
-- configured by an earlier call of its lane before its current texture is asked for; and the slots that the calls make are the
-- numbers from 0 on, in reading order.
pub record IsBound (phases : List (List (List BoundCall))) : Type 0 where
  pub used : PhasesAreBound [] phases
  pub set : All (All (LaneIsSet [])) phases
  pub count : ℕ
  pub numbered : all_made phases ≡ numbers_below count

-- The script's calls are those of the draft, with one slot for each name in place of it. In the draft each made name is well
-- formed, and none is made twice.
pub record IsBoundFrom (draft : List (List (List Call))) (phases : List (List (List BoundCall))) : Type 0 where
  pub slot : List ℕ → ℕ
  pub same : phases ≡ map_phases slot draft
  pub formed : All (λ name. is_name name ≡ true) (all_made draft)
  pub once : IsDistinct bytes_eq (all_made draft)

-- The script's calls are those of the draft that the bytes give.
pub record IsBoundRead (bytes : List ℕ) (phases : List (List (List BoundCall))) : Type 0 where
  pub draft : ScriptDraft
  pub read : draft_of bytes ≡ Ok draft
  pub from : IsBoundFrom draft.phases phases
