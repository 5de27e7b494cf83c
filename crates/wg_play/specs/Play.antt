-- To play a script: its lanes take turns, and the history is what an order of turns gives.
use Rattle.std.specs.Prelude.{◌≡◌, ℕ, ◌≤◌, nat_lt, List, [], ◌∷◌, ◌++◌, reverse, length, Option, Some, None, option_map, option_and_then, if◌then◌else◌}
use Rattle.wg_trace.specs.declared.replies.Reply.{Reply}
use Rattle.wg_types.specs.declared.limits.Limits.{Limits}
use Rattle.wg_history.specs.declared.events.Setup.{Setup}
use Rattle.wg_history.specs.Entries.{Entry, Past}
use Rattle.wg_script.specs.CallOf.{BoundCall}
use Rattle.wg_script.specs.declared.draft.Script.{Script}
use Rattle.wg_play.specs.declared.objects.Object.{Object}
use Rattle.wg_play.specs.Lanes.{LaneState, next_event, after_reply, starts, gathered}
use Rattle.wg_play.specs.Turns.{entries_of_caller, AllGive, all_after, phase_by}

-- what a device of a budget and limits is opened with: the serial 1, and these
abbrev pub setup_with : ℕ → Limits → Setup
setup_with budget limits = record { serial = 1; budget = budget; limits = limits }

-- what the device of a script is opened with
abbrev pub script_setup : Script → Setup
script_setup script = setup_with script.budget script.limits

-- the most lanes that a phase has, or n where that is more
abbrev pub most_lanes : ℕ → List (List (List BoundCall)) → ℕ
most_lanes n [] = n
most_lanes n (lanes ∷ phases) = most_lanes (if nat_lt n (length lanes) then length lanes else n) phases

-- how many callers the device of a script has: as many as the largest phase has lanes, and at least one
abbrev pub callers_for : List (List (List BoundCall)) → ℕ
callers_for phases = most_lanes 1 phases

module _ (setup : Setup) where
  abbrev pub after_ : LaneState → Reply → LaneState
  after_ = after_reply setup

  -- the phases from here on, by these numbers
  abbrev pub phases_by : List (List (List BoundCall)) → List Object → List ℕ → Past → Option Past
  phases_by [] objects [] past = Some past
  phases_by [] objects (n ∷ ns) past = None
  phases_by (phase ∷ phases) objects ns past =
      option_and_then (λ p. phases_by phases (gathered objects p.0.lanes) p.1 p.0.past) (phase_by next_event after_ setup ns (record { past = past; lanes = starts objects phase }))

  -- The history that the script gives where its lanes take turns by these numbers: each takes that lane's next call which is an
  -- event, and a phase is left when all its lanes are through. The numbers are legal where each has a next event and all phases
  -- end with them; others give no history.
  abbrev pub Play : List (List (List BoundCall)) → List ℕ → Option (List Entry)
  Play phases ns = option_map reverse (phases_by phases [] ns [])

  -- the entries are those of the phases: of each phase the entries of each number are what its lane gives, and no others
  abbrev pub Interleaves : List (List (List BoundCall)) → List Object → List Entry → Type 0
  Interleaves [] objects log = log ≡ []
  Interleaves (phase ∷ phases) objects log = (part : List Entry) × (rest : List Entry) × (log ≡ part ++ rest) ×
      AllGive next_event after_ 0 (starts objects phase) part × ((n : ℕ) → length phase ≤ n → entries_of_caller n part ≡ []) ×
      Interleaves phases (gathered objects (all_after next_event after_ 0 (starts objects phase) part)) rest

  -- the same, and what there is at the end
  abbrev pub PlaysTo : List (List (List BoundCall)) → List Object → List Entry → List Object → Type 0
  PlaysTo [] objects log end = (log ≡ []) × (objects ≡ end)
  PlaysTo (phase ∷ phases) objects log end = (part : List Entry) × (rest : List Entry) × (log ≡ part ++ rest) ×
      AllGive next_event after_ 0 (starts objects phase) part × ((n : ℕ) → length phase ≤ n → entries_of_caller n part ≡ []) ×
      PlaysTo phases (gathered objects (all_after next_event after_ 0 (starts objects phase) part)) rest end
