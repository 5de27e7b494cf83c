-- What a script has given that was played: each of its calls, with the entry that it became where it is an event.
use Rattle.std.specs.Prelude.{◌≡◌, ◌≢◌, ℕ, ◌+◌, List, [], ◌∷◌, ◌++◌, length, map, reverse, get_or, Bool, true, ◌||◌, Option, Some, None, is_some, option_and_then, All, Contains}
use Rattle.std.specs.Option.{option_map, option_map_or, option_to_list}
use Rattle.std.specs.List.{flat_map, list_any}
use Rattle.wg_types.specs.Handles.{HandleValue}
use Rattle.wg_types.specs.Wanted.{admits}
use Rattle.wg_trace.specs.declared.replies.Answer.TheVariants.{Made}
use Rattle.wg_types.specs.declared.canvases.CanvasCall.TheVariants.{Current}
use Rattle.wg_types.specs.declared.canvases.CanvasOf.{CanvasOf}
use Rattle.wg_types.specs.declared.canvases.CanvasOf.TheVariants.{Create, On}
use Rattle.wg_types.specs.declared.requests.RequestOf.{RequestOf}
use Rattle.wg_types.specs.declared.wanted.Kind.{Kind}
use Rattle.wg_types.specs.declared.wanted.Wanted.{Wanted}
use Rattle.wg_history.specs.declared.events.Event.TheVariants.{Late}
use Rattle.wg_history.specs.declared.events.Setup.{Setup}
use Rattle.wg_history.specs.Entries.{Entry, Past, verb_of}
use Rattle.wg_history.specs.Rules.{is_genuine}
use Rattle.wg_history.specs.Answers.{Run}
use Rattle.wg_canvas.specs.Canvases.{texture_of}
use Rattle.wg_calls.specs.Calls.{event_asked}
use Rattle.wg_calls.specs.Judged.{IsJudgedBy}
use Rattle.wg_script.specs.CallOf.{BoundCall}
use Rattle.wg_script.specs.declared.calls.CallOf.TheVariants.{Record, Ask, Canvas}
use Rattle.wg_names.specs.Bound.{IsBound}
use Rattle.wg_names.specs.Uses.{made_of, uses_of}
use Rattle.wg_play.specs.declared.objects.Object.{Object}
use Rattle.wg_play.specs.Canvases.{canvas_at}
use Rattle.wg_play.specs.Objects.{reference_at}
use Rattle.wg_play.specs.Sights.{Sight, place_in, handle_in_sight}
use Rattle.wg_play.specs.Lanes.{stand_seen, canvas_asks, request_seen, event_sent, count_made, gathered}
use Rattle.wg_play.specs.Turns.{entries_of_caller, callers_of}
use Rattle.wg_play.specs.Late.{Answered, no_answer, after_call, after_calls, slots_before, finishes, encoder_of, has_pass_ended}
use Rattle.wg_play.specs.Found.{ended_from}
use Rattle.wg_play.specs.Kept.{HandlesAreGenuine, SeesGenuine}
use Rattle.wg_play.specs.Play.{Play, Interleaves}

-- ---- calls as they were played

-- a call, with the entry that it became; a call that was kept became none
abbrev pub PlayedCall : Type 0
PlayedCall = BoundCall × Option Entry

-- a phase: the entries that were made in it, in order, and the calls of its lanes
pub record PlayedPhase : Type 0 where
  pub entries : List Entry
  pub lanes : List (List PlayedCall)

-- the calls of what a lane has played
abbrev pub calls_in : List PlayedCall → List BoundCall
calls_in calls = map (λ call. call.0) calls

-- the entries that the calls of a lane have made
abbrev pub entries_in : List PlayedCall → List Entry
entries_in calls = flat_map (λ call. option_to_list call.1) calls

-- the calls of what the lanes of a phase have played
abbrev pub lanes_in : PlayedPhase → List (List BoundCall)
lanes_in phase = map calls_in phase.lanes

-- In a phase the entries of each number are those of its lane's calls, in order; a number that no lane has is nobody's.
abbrev pub IsInterleaved : PlayedPhase → Type 0
IsInterleaved phase = (n : ℕ) → entries_of_caller n phase.entries ≡ entries_in (get_or phase.lanes n [])

-- ---- what a lane sees at a call

-- a call with its answer
abbrev pub with_answer : PlayedCall → Answered
with_answer call = (call.0, option_map_or (λ (entry : Entry). entry.reply.answer) call.1 no_answer)

-- the calls that lanes have played, with their answers
abbrev pub answered_lanes : List (List PlayedCall) → List (List Answered)
answered_lanes lanes = map (λ calls. map with_answer calls) lanes

-- the objects after a phase
abbrev pub objects_next : Setup → List Object → List (List PlayedCall) → List Object
objects_next setup objects lanes = gathered objects (ended_from setup objects (length objects) (answered_lanes lanes))

-- the objects after some phases
abbrev pub objects_after : Setup → List Object → List PlayedPhase → List Object
objects_after setup objects [] = objects
objects_after setup objects (phase ∷ phases) = objects_after setup (objects_next setup objects phase.lanes) phases

-- What a lane sees after these calls of it, where earlier phases were played so, and these lanes of its phase go before it.
abbrev pub sight_after : Setup → List PlayedPhase → List (List PlayedCall) → List PlayedCall → Sight
sight_after setup earlier lanes before = after_calls setup
    (record { others = objects_after setup [] earlier; first = slots_before (map lanes_in earlier) (map calls_in lanes); own = [] })
    (map with_answer before)

-- the calls whose objects it sees then: those of earlier phases, and its own
abbrev pub seen_calls : List PlayedPhase → List PlayedCall → List PlayedCall
seen_calls earlier before = flat_map (λ phase. flat_map (λ calls. calls) phase.lanes) earlier ++ before

-- ---- how a call was played

-- A recording call is late where a call before it in its lane finishes its encoder, which is that on which its pass was begun, or
-- where its pass has ended.
abbrev pub is_late_after : Sight → List BoundCall → ℕ → Bool
is_late_after sight before on = list_any (finishes (encoder_of before on)) before || has_pass_ended sight.own (stand_seen sight on)

-- A recording call became an entry exactly where it is late, and is then the event that its encoder gets.
pub record IsRecordedAs (sight : Sight) (before : List BoundCall) (on : ℕ) (found : Option Entry) : Type 0 where
  pub late : is_some found ≡ is_late_after sight before on
  pub event : (entry : Entry) → found ≡ Some entry → entry.event ≡ Late (reference_at sight.own (stand_seen sight on).encoder)

-- a call of a canvas became one exactly where it asks something of the device, and is then the event of that
abbrev pub IsDrawnAs : Sight → CanvasOf ℕ → Option Entry → Type 0
IsDrawnAs sight call found = option_map (λ (entry : Entry). entry.event) found ≡ option_map event_asked (canvas_asks sight call)

-- A call of the device became one entry, which is its event, and has the verb of the call.
pub record IsAskedAs (sight : Sight) (request : RequestOf ℕ) (found : Option Entry) : Type 0 where
  pub entry : Entry
  pub is : found ≡ Some entry
  pub event : entry.event ≡ event_sent sight request
  pub verb : verb_of entry.event ≡ verb_of (event_asked (request_seen sight request))

-- A call was played as what it is: its command was recorded, its event was made, or what its canvas asks was.
abbrev pub IsPlayedAs : Sight → List BoundCall → BoundCall → Option Entry → Type 0
IsPlayedAs sight before (Record on command made) found = IsRecordedAs sight before on found
IsPlayedAs sight before (Ask request made) found = IsAskedAs sight request found
IsPlayedAs sight before (Canvas call made) found = IsDrawnAs sight call found

-- ---- what a name stands for

-- A handle is of the object that an entry made: it has the serial of the device, and the number and the validity that were
-- answered; and it is genuine in a past, so that it knows what is known of the object.
pub record IsOfEntry (setup : Setup) (past : Past) (handle : HandleValue) (entry : Entry) : Type 0 where
  pub device : handle.reference.device ≡ setup.serial
  pub answer : entry.reply.answer ≡ Made handle.reference.number handle.valid
  pub genuine : is_genuine setup past handle ≡ true

-- What a currentTexture shows was made by its entry, where it became one; where it was there it is genuine, and `ShowsCurrent` says
-- which texture it is. A canvas has no handle.
abbrev pub IsOfCanvas : Setup → Past → HandleValue → CanvasOf ℕ → Option Entry → Type 0
IsOfCanvas setup past handle (Create width height) found = Unit {0}
IsOfCanvas setup past handle (On canvas call) None = is_genuine setup past handle ≡ true
IsOfCanvas setup past handle (On canvas call) (Some entry) = IsOfEntry setup past handle entry

-- what a call has made is an object, the texture of a canvas, or a pass or a canvas, which have no handle
abbrev pub IsOfCall : Setup → Past → HandleValue → BoundCall → Option Entry → Type 0
IsOfCall setup past handle (Record on command made) found = Unit {0}
IsOfCall setup past handle (Ask request made) None = ⊥
IsOfCall setup past handle (Ask request made) (Some entry) = IsOfEntry setup past handle entry
IsOfCall setup past handle (Canvas call made) found = IsOfCanvas setup past handle call found

-- A name that a call uses stands for what one of these calls has made, as which that made it.
pub record StandsForMade (setup : Setup) (past : Past) (sight : Sight) (seen : List PlayedCall) (used : ℕ × Wanted) : Type 0 where
  pub maker : PlayedCall
  pub is_seen : Contains seen maker
  pub kind : Kind
  pub makes : made_of maker.0 ≡ Some (used.0, kind)
  pub fits : admits used.1 kind ≡ true
  pub of : IsOfCall setup past (handle_in_sight sight used.0) maker.0 maker.1

-- the calls of a lane, each with what the lane saw before it
abbrev pub with_sights : Setup → Sight → List PlayedCall → List (Sight × PlayedCall)
with_sights setup sight [] = []
with_sights setup sight (call ∷ calls) = (sight, call) ∷ with_sights setup (after_call setup sight (with_answer call)) calls

-- those of the lanes of a phase, from the lane on whose first slot is this, each with what its lane saw before it
abbrev pub lanes_sights : Setup → List Object → ℕ → List (List PlayedCall) → List (Sight × PlayedCall)
lanes_sights setup others first [] = []
lanes_sights setup others first (calls ∷ lanes) =
    with_sights setup (record { others = others; first = first; own = [] }) calls ++ lanes_sights setup others (first + count_made (calls_in calls)) lanes

-- those of phases, which begin with these objects, each with what its lane saw before it
abbrev pub phases_sights : Setup → List Object → List PlayedPhase → List (Sight × PlayedCall)
phases_sights setup objects [] = []
phases_sights setup objects (phase ∷ phases) = lanes_sights setup objects (length objects) phase.lanes ++ phases_sights setup (objects_next setup objects phase.lanes) phases

-- the calls whose objects a lane sees, as `seen_calls` has them, each with what its lane saw before it
abbrev pub seen_with : Setup → List PlayedPhase → List (List PlayedCall) → List PlayedCall → List (Sight × PlayedCall)
seen_with setup earlier lanes before = phases_sights setup [] earlier
    ++ with_sights setup (record { others = objects_after setup [] earlier; first = slots_before (map lanes_in earlier) (map calls_in lanes); own = [] }) before

-- the current texture of a canvas of a lane, if it has one
abbrev pub current_seen : Sight → ℕ → Option HandleValue
current_seen sight canvas = option_and_then texture_of (canvas_at sight.own (place_in sight canvas))

-- The name of a currentTexture that became no entry stands for the current texture that its canvas had then.
abbrev pub ShowsCurrent : Sight → List (Sight × PlayedCall) → Type 0
ShowsCurrent sight seen = (before : Sight) (canvas name : ℕ) → Contains {X = Sight × PlayedCall} seen (before, (Canvas (On canvas Current) (Some name), None))
    → current_seen before canvas ≡ Some (handle_in_sight sight name)

-- ---- a call at its place

-- What has happened up to a moment of a phase, in which these entries were made before it.
abbrev pub past_at : List PlayedPhase → List Entry → Past
past_at earlier front = reverse (flat_map (λ phase. phase.entries) earlier ++ front)

-- The moments of a phase at which lane n has made the entries of just these of its calls: what was made in the phase before them.
pub record IsMoment (phase : PlayedPhase) (n : ℕ) (before : List PlayedCall) (front : List Entry) : Type 0 where
  pub back : List Entry
  pub whole : phase.entries ≡ front ++ back
  pub own : entries_of_caller n front ≡ entries_in before

-- all that a lane sees is genuine, and each name that a call uses stands for what was made as that
pub record SeesMade (setup : Setup) (past : Past) (sight : Sight) (seen : List PlayedCall) (call : BoundCall) : Type 0 where
  pub genuine : SeesGenuine setup past sight
  pub names : All (StandsForMade setup past sight seen) (uses_of call)

-- An entry that ends an encoder hands over what was recorded for the device, so that it is judged by the number and the limits of that.
abbrev pub IsJudgedAs : Setup → Option Entry → Type 0
IsJudgedAs setup found = (entry : Entry) → found ≡ Some entry → IsJudgedBy setup entry.event

-- A call was played as what it is; so are the names that it uses at each moment from the last entry of the calls before it to its own,
-- or to the lane's next; each name of a texture that was there stands for that; and what it ends is judged by the limits of the device.
pub record IsPlayedAt (setup : Setup) (earlier : List PlayedPhase) (phase : PlayedPhase) (lanes : List (List PlayedCall))
    (before : List PlayedCall) (call : PlayedCall) : Type 0 where
  pub how : IsPlayedAs (sight_after setup earlier lanes before) (calls_in before) call.0 call.1
  pub sees : (front : List Entry) → IsMoment phase (length lanes) before front
      → SeesMade setup (past_at earlier front) (sight_after setup earlier lanes before) (seen_calls earlier before) call.0
  pub current : ShowsCurrent (sight_after setup earlier lanes before) (seen_with setup earlier lanes before)
  pub judged : IsJudgedAs setup call.1

-- each call of a script, whatever phases, lanes and calls go before and after it
abbrev pub EachIsPlayed : Setup → List PlayedPhase → Type 0
EachIsPlayed setup plays = (earlier later : List PlayedPhase) (phase : PlayedPhase) (lanes_before lanes_after : List (List PlayedCall))
    (before after : List PlayedCall) (call : PlayedCall)
    → plays ≡ earlier ++ phase ∷ later → phase.lanes ≡ lanes_before ++ (before ++ call ∷ after) ∷ lanes_after
    → IsPlayedAt setup earlier phase lanes_before before call

-- ---- a script that was played

-- The calls of a script as they were played: they are the script's; the entries of the phases, one phase after another, are the
-- history; in each phase every lane gives its own, in order; each call is played as what it is; and all that was made is genuine.
pub record IsPlayedThrough (setup : Setup) (phases : List (List (List BoundCall))) (history : List Entry) : Type 0 where
  pub plays : List PlayedPhase
  pub calls : map lanes_in plays ≡ phases
  pub entries : flat_map (λ phase. phase.entries) plays ≡ history
  pub lanes : All IsInterleaved plays
  pub each : EachIsPlayed setup plays
  pub kept : HandlesAreGenuine setup (reverse history) (objects_after setup [] plays)

-- ---- the laws

-- Where an order of turns gives a history, its numbers are the callers of that, every reply in it is the one to its event, and
-- each phase's lanes give their entries.
abbrev pub PlayInterleaves : Type 0
PlayInterleaves = (setup : Setup) (phases : List (List (List BoundCall))) (numbers : List ℕ) (history : List Entry) → Play setup phases numbers ≡ Some history
    → (callers_of history ≡ numbers) × Run setup history × Interleaves setup phases [] history

-- Where the names of the script are bound, each call is played as what it is; the device's serial is not 0, as which a slot
-- counts that stands for no object.
abbrev pub PlayGoesThrough : Type 0
PlayGoesThrough = (setup : Setup) → setup.serial ≢ 0 → (phases : List (List (List BoundCall))) (numbers : List ℕ) (history : List Entry)
    → IsBound phases → Play setup phases numbers ≡ Some history → IsPlayedThrough setup phases history
