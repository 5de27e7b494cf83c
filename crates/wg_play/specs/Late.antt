-- Which recording calls are late, looking back over the calls of their lane. An encoder is one of either kind, a command encoder or a
-- bundle encoder.
use Rattle.std.specs.Prelude.{◌≡◌, ℕ, ◌+◌, List, [], ◌∷◌, ◌++◌, Bool, true, false, ◌==◌, ◌&&◌, ◌||◌, if◌then◌else◌, Option, Some, None, unwrap_or, is_some, length, map, All}
use Rattle.std.specs.Option.{option_map_or}
use Rattle.std.specs.List.{flat_map, list_any}
use Rattle.wg_types.specs.Commands.{kind_begun}
use Rattle.wg_types.specs.declared.commands.CommandOf.{CommandOf}
use Rattle.wg_types.specs.declared.commands.On.{On}
use Rattle.wg_types.specs.declared.commands.On.TheVariants.{Encoder, Pass}
use Rattle.wg_trace.specs.declared.replies.Answer.{Answer}
use Rattle.wg_trace.specs.declared.replies.Answer.TheVariants.{Made, Queued, Promised, Plain, BadCompletion}
use Rattle.wg_encoder.specs.Recorders.{RecorderValue, pass_ended as ended_within}
use Rattle.wg_script.specs.CallOf.{BoundCall}
use Rattle.wg_script.specs.declared.calls.CallOf.TheVariants.{Record, Ask, Canvas}
use Rattle.wg_names.specs.Bound.{made_in, IsBound}
use Rattle.wg_names.specs.Uses.{made_of}
use Rattle.wg_play.specs.declared.objects.Object.{Object}
use Rattle.wg_play.specs.declared.objects.Stand.{Stand}
use Rattle.wg_history.specs.declared.events.Setup.{Setup}
use Rattle.wg_calls.specs.Encoders.{ended_by}
use Rattle.wg_play.specs.Objects.{recorder_at, is_late_on}
use Rattle.wg_play.specs.Sights.{Sight}
use Rattle.wg_play.specs.Lanes.{stand_seen, kept, answered_by}

-- ---- a lane on its way, with any answers

-- a call of a lane, with the answer that it gets where it is an event
abbrev pub Answered : Type 0
Answered = BoundCall × Answer

-- whether an answer says that something was made
abbrev pub is_made : Answer → Bool
is_made (Made number valid) = true
is_made (Queued op) = false
is_made Promised = false
is_made Plain = false
is_made BadCompletion = false

-- A call that makes something which has a slot is answered that this was made, valid or not, as a call of the device is that makes
-- something, and a currentTexture where it is an event. Every other answer may be any.
abbrev pub IsAnswerTo : BoundCall → Answer → Type 0
IsAnswerTo (Record on command made) answer = Unit {0}
IsAnswerTo (Ask request made) answer = is_some (made_of (Ask request made)) ≡ true → is_made answer ≡ true
IsAnswerTo (Canvas call made) answer = is_some (made_of (Canvas call made)) ≡ true → is_made answer ≡ true

-- the answer of a call that was kept, which has none, so that any will do
abbrev pub no_answer : Answer
no_answer = Made 0 false

-- A call that makes something which has a slot was answered so that something was made; any other call may be answered anyhow.
abbrev pub IsAnsweredCall : Answered → Type 0
IsAnsweredCall call = IsAnswerTo call.0 call.1

-- what the lane sees after a call: it is kept, or it is an event and is answered
abbrev pub after_call : Setup → Sight → Answered → Sight
after_call setup sight call = unwrap_or (kept sight call.0) (answered_by setup sight call.0 call.1)

-- what the lane sees after calls, one after another
abbrev pub after_calls : Setup → Sight → List Answered → Sight
after_calls setup sight [] = sight
after_calls setup sight (call ∷ calls) = after_calls setup (after_call setup sight call) calls

-- ---- where a lane begins

-- how many slots are made before a lane, in reading order: in earlier phases, and by the lanes before it in its own
abbrev pub slots_before : List (List (List BoundCall)) → List (List BoundCall) → ℕ
slots_before earlier lanes = length (flat_map (flat_map made_in) earlier) + length (flat_map made_in lanes)

-- ---- what ends an encoder or a pass

-- whether a call finishes the encoder of a slot
abbrev pub finishes : ℕ → BoundCall → Bool
finishes slot (Record on command made) = false
finishes slot (Ask request made) = option_map_or (λ encoder. encoder == slot) (ended_by request) false
finishes slot (Canvas call made) = false

-- the encoder on which a call begins the pass of a slot
abbrev pub begun_as : ℕ → BoundCall → Option ℕ
begun_as slot (Record on command None) = None
begun_as slot (Record on command (Some made)) = if is_some (kind_begun command) && (made == slot) then Some on else None
begun_as slot (Ask request made) = None
begun_as slot (Canvas call made) = None

-- The encoder of a slot on which a recording call stands that comes after these calls: that on which one of them has begun the
-- pass of the slot, or the slot itself.
abbrev pub encoder_of : List BoundCall → ℕ → ℕ
encoder_of [] slot = slot
encoder_of (call ∷ calls) slot = unwrap_or (begun_as slot call) (encoder_of calls slot)

-- whether the pass on which a recording call stands has ended, by the walk over what its encoder's recorder has kept
abbrev pub stands_on_ended : On → Option RecorderValue → Bool
stands_on_ended Encoder recorder = false
stands_on_ended (Pass number) recorder = option_map_or (λ kept. ended_within kept.targets kept.commands number) recorder false

-- whether the pass has ended on which a recording call stands
abbrev pub has_pass_ended : List Object → Stand → Bool
has_pass_ended objects stand = stands_on_ended stand.on (recorder_at objects stand.encoder)

-- Whatever earlier phases have made, and whatever the answers of the device were: in a lane of a script whose names are bound, a
-- recording call is late exactly where a call before it in its lane finishes its encoder, whose slot is at that place from the
-- lane's first on, or its pass has ended. An end ends the pass on which it stands, unless that is dead.
abbrev pub LateIsFinished : Type 0
LateIsFinished = (earlier later : List (List (List BoundCall))) (lanes_before lanes_after : List (List BoundCall)) (before : List Answered) (after : List BoundCall) (on : ℕ) (command : CommandOf ℕ) (made : Option ℕ)
    → IsBound (earlier ++ (lanes_before ++ (map (λ call. call.0) before ++ Record on command made ∷ after) ∷ lanes_after) ∷ later)
    → All IsAnsweredCall before
    → (setup : Setup) (others : List Object)
    → let first = slots_before earlier lanes_before in
    let sight = after_calls setup (record { others = others; first = first; own = [] }) before in
    let stand = stand_seen sight on in
    is_late_on sight.own stand ≡ list_any (finishes (first + stand.encoder)) (map (λ call. call.0) before) || has_pass_ended sight.own stand
