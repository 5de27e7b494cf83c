-- The second reading of a script, and both readings together.
use Rattle.std.specs.Prelude.{◌≡◌, ℕ, ◌+◌, List, [], ◌∷◌, map, ◌&&◌, is_none, if◌then◌else◌, Option, Some, None, Result, Ok, Err, ⊤}
use Rattle.wg_script.specs.Giving.{◌>>=◌}
use Rattle.wg_script.specs.CallOf.{Call, map_call}
use Rattle.wg_script.specs.Draft.{Stop, at, draft_of}
use Rattle.wg_script.specs.Outcome.{Refuses}
use Rattle.wg_script.specs.declared.calls.CallOf.{CallOf}
use Rattle.wg_script.specs.declared.draft.Place.TheVariants as place
use Rattle.wg_script.specs.declared.draft.ScriptDraft.{ScriptDraft}
use Rattle.wg_script.specs.declared.draft.Script.{Script}
use Rattle.wg_script.specs.declared.draft.ScriptFault.{ScriptFault}
use Rattle.wg_types.specs.Commands.{place_wanted, named_on}
use Rattle.wg_types.specs.Requests.{named as asked_of}
use Rattle.wg_types.specs.Canvases.{named as canvas_named}
use Rattle.wg_types.specs.declared.canvases.CanvasOf.{CanvasOf}
use Rattle.wg_types.specs.declared.canvases.CanvasOf.TheVariants.{Create, On}
use Rattle.wg_script.specs.declared.calls.CallOf.TheVariants.{Record, Ask, Canvas}
use Rattle.wg_names.specs.Uses.{made_of}
use Rattle.wg_names.specs.Names.{Names, no_names, with_name, slot_in, kind_in, is_name, check_use, check_configured, after_canvas}
use Rattle.wg_types.specs.declared.wanted.Kind.{Kind}
use Rattle.wg_types.specs.declared.wanted.Wanted.{Wanted}

-- ---- a call

-- the names that a call uses, with what each must stand for: what a recording call stands on comes first, and by its kind goes
-- which pipelines the call may set
abbrev pub uses_by : Names → Call → List (List ℕ × Wanted)
uses_by names (Record on command made) = (on, place_wanted command) ∷ named_on (kind_in names on) command
uses_by names (Ask request made) = asked_of request
uses_by names (Canvas call made) = canvas_named call

-- one after another
abbrev pub check_uses : Names → ℕ → ℕ → List (List ℕ × Wanted) → Result ⊤ ℕ
check_uses names p l [] = Ok tt
check_uses names p l (u ∷ us) = check_use names p l u >>= λ fine. check_uses names p l us

-- script rule 9: the name that a call makes is malformed, or was made before, visible or not
abbrev pub with_made : ℕ → ℕ → Names → Option (List ℕ × Kind) → Result Names ℕ
with_made p l names None = Ok names
with_made p l names (Some m) = if is_name m.0 && is_none (names.marks m.0) then Ok (with_name p l m.0 m.1 names) else Err 9

-- script rule 15 of a call; one that asks for no current texture does not break it
abbrev pub check_canvas : Names → CanvasOf (List ℕ) → Result ⊤ ℕ
check_canvas names (Create width height) = Ok tt
check_canvas names (On canvas call) = check_configured names canvas call

-- script rule 15: a call for a current texture is of a canvas that was configured before
abbrev pub check_setting : Names → Call → Result ⊤ ℕ
check_setting names (Record on command made) = Ok tt
check_setting names (Ask request made) = Ok tt
check_setting names (Canvas call made) = check_canvas names call

-- the names once the canvas is noted that a call configures, if it does
abbrev pub noted_canvas : CanvasOf (List ℕ) → Names → Names
noted_canvas (Create width height) names = names
noted_canvas (On canvas call) names = after_canvas canvas call names

-- the names, with the canvas noted that a call configures, if it does
abbrev pub with_setting : Call → Names → Names
with_setting (Record on command made) names = names
with_setting (Ask request made) names = names
with_setting (Canvas call made) names = noted_canvas call names

-- the names after call c of phase p and lane l: it uses its names first, then asks that its canvas be configured, and makes its own
-- name last
unfoldable pub call_bound : ℕ → ℕ → ℕ → Names → Call → Result Names Stop
call_bound p l c names call = do
  fine ← at (place.Call p l c) (check_uses names p l (uses_by names call))
  set ← at (place.Call p l c) (check_setting names call)
  more ← at (place.Call p l c) (with_made p l names (made_of call))
  Ok (with_setting call more)

-- ---- a list

-- the items of a list in turn, the first of which is the i-th
abbrev pub walk : {X : Type 0} → (ℕ → Names → X → Result Names Stop) → ℕ → Names → List X → Result Names Stop
walk f i names [] = Ok names
walk f i names (x ∷ xs) = f i names x >>= λ more. walk f (i + 1) more xs

-- the names after the calls of a lane, or the first refusal
abbrev pub lane_bound : ℕ → ℕ → Names → List Call → Result Names Stop
lane_bound p l names calls = walk (call_bound p l) 0 names calls

-- the names after the lanes of a phase, or the first refusal
abbrev pub phase_bound : ℕ → Names → List (List Call) → Result Names Stop
phase_bound p names lanes = walk (lane_bound p) 0 names lanes

-- the names after all phases, or the first refusal
abbrev pub phases_bound : List (List (List Call)) → Result Names Stop
phases_bound phases = walk phase_bound 0 no_names phases

-- ---- the script

-- the calls with what stands for each name in place of it
abbrev pub map_lane : {R S : Type 0} → (R → S) → List (CallOf R) → List (CallOf S)
map_lane f calls = map (map_call f) calls

-- the lanes of a phase with what stands for each name in place of it
abbrev pub map_phase : {R S : Type 0} → (R → S) → List (List (CallOf R)) → List (List (CallOf S))
map_phase f lanes = map (map_lane f) lanes

-- phases with what stands for each name in place of it
abbrev pub map_phases : {R S : Type 0} → (R → S) → List (List (List (CallOf R))) → List (List (List (CallOf S)))
map_phases f phases = map (map_phase f) phases

-- the script that a draft is: the same calls, with the slot of each name in place of it, where no name is refused
abbrev pub script_from : ScriptDraft → Result Script Stop
script_from draft = phases_bound draft.phases >>= λ names. Ok (record { budget = draft.budget; limits = draft.limits; phases = map_phases (slot_in names) draft.phases })

-- the script that the bytes are, or the rule that they break first, with its place
abbrev pub script_of : List ℕ → Result Script Stop
script_of bytes = draft_of bytes >>= script_from

-- ---- what was answered, beside what is read

-- the names are those after the reading, unless memory ran out
abbrev pub Binds : Result ⊤ ScriptFault → Names → Result Names Stop → Type 0
Binds (Ok done) names read = read ≡ Ok names
Binds (Err fault) names read = Refuses fault read
