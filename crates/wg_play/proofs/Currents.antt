-- The name of a currentTexture that became no entry stands for the texture that its canvas had as it was called.
use Rattle.std.proofs.Common.{◌≡◌, ℕ, ◌+◌, ◌-◌, ◌≤◌, Option, Some, None, List, [], ◌∷◌, ◌++◌, length, map, refl, sym, ap, subst, ◌∙◌, inl, inr, arith, append_assoc, append-nil}
use Rattle.std.specs.Prelude.{Contains, option_map, option_and_then, slice_get}
use Rattle.std.specs.List.{flat_map}
use Rattle.std.proofs.lemmas.Bool.{cases_eq}
use Rattle.std.proofs.lemmas.List.{length-append}
use Rattle.std.proofs.lemmas.List.Elements.{Contains-append_right, Contains-append_cases, Contains-push_cases}
use Rattle.wg_types.specs.Handles.{HandleValue}
use Rattle.wg_types.specs.Commands.{Command}
use Rattle.wg_types.specs.declared.limits.Limits.{Limits}
use Rattle.wg_types.specs.declared.canvases.CanvasCall.TheVariants.{Current}
use Rattle.wg_types.specs.declared.canvases.CanvasOf.{CanvasOf}
use Rattle.wg_types.specs.declared.canvases.CanvasOf.TheVariants.{Create, On}
use Rattle.wg_types.specs.declared.requests.RequestOf.{RequestOf}
use Rattle.wg_types.specs.declared.wanted.Kind.{Kind}
use Rattle.wg_types.specs.declared.wanted.Kind.TheVariants as kinds
use Rattle.wg_trace.specs.declared.replies.Answer.{Answer}
use Rattle.wg_canvas.specs.Canvases.{CanvasValue, texture_of, acted}
use Rattle.wg_encoder.specs.Recorders.{RecorderValue}
use Rattle.wg_history.specs.declared.events.Setup.{Setup}
use Rattle.wg_calls.specs.Calls.{event_asked, taken_out}
use Rattle.wg_calls.specs.Encoders.{ended_by}
use Rattle.wg_script.specs.CallOf.{BoundCall}
use Rattle.wg_script.specs.declared.calls.CallOf.TheVariants.{Record, Ask, Canvas}
use Rattle.wg_names.specs.Uses.{made_of}
use Rattle.wg_names.specs.Bound.{made_by, made_in}
use Rattle.wg_play.specs.declared.objects.Object.{Object}
use Rattle.wg_play.specs.declared.objects.Object.TheVariants as object
use Rattle.wg_play.specs.declared.objects.Stand.{Stand}
use Rattle.wg_play.specs.Canvases.{canvas_at, redrawn, with_canvas, given_by, acted_at, shown_at}
use Rattle.wg_play.specs.Objects.{changed, with_recorder, recorded_by, recorded_on, begun_by, object_of}
use Rattle.wg_play.specs.Sights.{Sight, place_in}
use Rattle.wg_play.specs.Lanes.{canvas_asks, new_canvas, drawn, command_seen, stand_seen, handle_kept, count_made, gathered}
use Rattle.wg_play.specs.Late.{Answered, IsAnsweredCall, no_answer, after_call, after_calls}
use Rattle.wg_play.specs.Found.{ended_from}
use Rattle.wg_play.specs.Played.{PlayedCall, calls_in, with_answer, answered_lanes, IsDrawnAs, with_sights, lanes_sights, current_seen}
use Rattle.wg_play.proofs.Slots.{own_at, other_at, at_append, at_new}
use Rattle.wg_play.proofs.Redrawn.{own_canvas, redrawn_own, redrawn_other, redrawn_length}
use Rattle.wg_play.proofs.Following.{ended_on, with_kept, after_record, after_ask, after_canvas, same_first}
use Rattle.wg_play.proofs.Making.{call_length}
use Rattle.wg_play.proofs.Numbered.{Slots, AreFrom, slots_of, first_from, from_front, from_back}
use Rattle.wg_play.proofs.LateLaw.{first_after}
use Rattle.wg_play.proofs.FoundLaw.{at_least, at_behind}
use Rattle.wg_play.proofs.Running.{RunsAs, Runs, call_answered, lane_answered, drawn_as}
use Rattle.wg_play.proofs.Makers.{lane_same, lane_length, maker_contains, start_at, AllRun}

-- ---- the texture that a name stands for stays

shown_changed : (change : RecorderValue → RecorderValue) (objects : List Object) (at place : ℕ) (texture : Option HandleValue)
    → slice_get objects place ≡ Some (object.Shown texture) → slice_get (with_recorder objects at change) place ≡ Some (object.Shown texture)
shown_changed change objects at place texture was = elim (cases_eq at place) [
  | inl same ↦ subst (λ n. slice_get (with_recorder objects n change) place ≡ Some (object.Shown texture)) (sym same)
      (own_at change objects place ∙ ap (option_map (λ (x : Object). changed x change)) was)
  | inr differs ↦ other_at change objects at place differs ∙ was
]

shown_redrawn : (change : CanvasValue → CanvasValue) (objects : List Object) (at place : ℕ) (texture : Option HandleValue)
    → slice_get objects place ≡ Some (object.Shown texture) → slice_get (with_canvas objects at change) place ≡ Some (object.Shown texture)
shown_redrawn change objects at place texture was = elim (cases_eq at place) [
  | inl same ↦ subst (λ n. slice_get (with_canvas objects n change) place ≡ Some (object.Shown texture)) (sym same)
      (redrawn_own change objects place ∙ ap (option_map (λ (x : Object). redrawn x change)) was)
  | inr differs ↦ redrawn_other change objects at place differs ∙ was
]

ended_shown : (sight : Sight) (ended : Option ℕ) (place : ℕ) (texture : Option HandleValue) → slice_get sight.own place ≡ Some (object.Shown texture)
    → slice_get (ended_on sight ended) place ≡ Some (object.Shown texture)
ended_shown sight None place texture was = was
ended_shown sight (Some encoder) place texture was = shown_changed taken_out sight.own (place_in sight encoder) place texture was

kept_shown : (limits : Limits) (objects : List Object) (handle : Option HandleValue) (place : ℕ) (texture : Option HandleValue) → slice_get objects place ≡ Some (object.Shown texture)
    → slice_get (with_kept limits objects handle) place ≡ Some (object.Shown texture)
kept_shown limits objects None place texture was = was
kept_shown limits objects (Some handle) place texture was = at_append objects (object_of limits handle ∷ []) place (object.Shown texture) was

drawn_shown : (sight : Sight) (call : CanvasOf ℕ) (made : Option ℕ) (given : Option HandleValue) (place : ℕ) (texture : Option HandleValue)
    → slice_get sight.own place ≡ Some (object.Shown texture) → slice_get (drawn sight call made given).own place ≡ Some (object.Shown texture)
drawn_shown sight (Create width height) made given place texture was = at_append sight.own (new_canvas width height made) place (object.Shown texture) was
drawn_shown sight (On canvas call) made given place texture was =
    let at : ℕ = place_in sight canvas in
    let objects : List Object = acted_at sight.own at call given in
    at_append objects (shown_at objects at call made) place (object.Shown texture) (shown_redrawn (λ found. acted found call given) sight.own at place texture was)

call_keeps : (setup : Setup) (sight : Sight) (call : BoundCall) (answer : Answer) (place : ℕ) (texture : Option HandleValue)
    → slice_get sight.own place ≡ Some (object.Shown texture) → slice_get (after_call setup sight (call, answer)).own place ≡ Some (object.Shown texture)
call_keeps setup sight (Record on command made) answer place texture was =
    let stand : Stand = stand_seen sight on in
    let found : Command = command_seen sight command in
    subst (λ (s : Sight). slice_get s.own place ≡ Some (object.Shown texture)) (sym (after_record setup sight on command made answer))
    (at_append (recorded_on sight.own stand found) (begun_by sight.own stand.encoder found made) place (object.Shown texture)
    (shown_changed (recorded_by stand.on found) sight.own stand.encoder place texture was))
call_keeps setup sight (Ask request made) answer place texture was =
    subst (λ (s : Sight). slice_get s.own place ≡ Some (object.Shown texture)) (sym (after_ask setup sight request made answer))
    (kept_shown setup.limits (ended_on sight (ended_by request)) (handle_kept setup sight request made answer) place texture (ended_shown sight (ended_by request) place texture was))
call_keeps setup sight (Canvas call made) answer place texture was =
    subst (λ (s : Sight). slice_get s.own place ≡ Some (object.Shown texture)) (sym (after_canvas setup sight call made answer))
    (drawn_shown sight call made (given_by setup (canvas_asks sight call) answer) place texture was)

-- ---- a currentTexture that became no entry

none_given : (setup : Setup) (asked : Option (RequestOf HandleValue)) (answer : Answer) → None ≡ option_map event_asked asked → given_by setup asked answer ≡ None
none_given setup None answer e = refl
none_given setup (Some request) answer e = absurd (cc (e))

same_current : (found : Option CanvasValue) → option_and_then texture_of (option_map (λ (c : CanvasValue). acted c Current None) found) ≡ option_and_then texture_of found
same_current None = refl
same_current (Some canvas) = refl

current_new : (setup : Setup) (sight : Sight) (canvas name : ℕ) → IsDrawnAs sight (On canvas Current) None
    → slice_get (after_call setup sight (with_answer (Canvas (On canvas Current) (Some name), None))).own (length sight.own) ≡ Some (object.Shown (current_seen sight canvas))
current_new setup sight canvas name asks =
    let at : ℕ = place_in sight canvas in
    let objects : List Object = acted_at sight.own at Current None in
    let new : Object = object.Shown (option_and_then texture_of (canvas_at objects at)) in
    let count : length objects ≡ length sight.own = redrawn_length (λ c. acted c Current None) sight.own at in
    let is : slice_get (objects ++ new ∷ []) (length sight.own) ≡ Some new = subst (λ n. slice_get (objects ++ new ∷ []) n ≡ Some new) count (at_new objects new) in
    let same : option_and_then texture_of (canvas_at objects at) ≡ current_seen sight canvas
    = ap (λ (found : Option CanvasValue). option_and_then texture_of found) (own_canvas (λ c. acted c Current None) sight.own at) ∙ same_current (canvas_at sight.own at) in
    let drawn_is : after_call setup sight (Canvas (On canvas Current) (Some name), no_answer) ≡ drawn sight (On canvas Current) (Some name) None
    = after_canvas setup sight (On canvas Current) (Some name) no_answer
    ∙ ap (λ (given : Option HandleValue). drawn sight (On canvas Current) (Some name) given) (none_given setup (canvas_asks sight (On canvas Current)) no_answer asks) in
    subst (λ (s : Sight). slice_get s.own (length sight.own) ≡ Some (object.Shown (current_seen sight canvas))) (sym drawn_is)
    (is ∙ ap (λ (texture : Option HandleValue). Some (object.Shown texture)) same)

-- ---- calls of a lane, one after another

-- such names stand at their places for what their canvases had, among what a lane has made, or among all that was made
abbrev pub ShownFrom : ℕ → List Object → List (Sight × PlayedCall) → Type 0
ShownFrom first own seen = (seen_then : Sight) (canvas name : ℕ) → Contains {X = Sight × PlayedCall} seen (seen_then, (Canvas (On canvas Current) (Some name), None))
    → slice_get own (name - first) ≡ Some (object.Shown (current_seen seen_then canvas))

abbrev pub ShownAll : List Object → List (Sight × PlayedCall) → Type 0
ShownAll objects seen = (seen_then : Sight) (canvas name : ℕ) → Contains {X = Sight × PlayedCall} seen (seen_then, (Canvas (On canvas Current) (Some name), None))
    → slice_get objects name ≡ Some (object.Shown (current_seen seen_then canvas))

single : {X : Type 0} (x y : X) → Contains (x ∷ []) y → x ≡ y
single x y there = elim (Contains-push_cases [] x y there) [ inl none ↦ absurd (omega (arith, none.1)) | inr same ↦ same ]

pub plain_contains : (setup : Setup) (sight : Sight) (calls : List PlayedCall) (seen_then : Sight) (c : PlayedCall)
    → Contains {X = Sight × PlayedCall} (with_sights setup sight calls) (seen_then, c) → Contains {X = PlayedCall} calls c
plain_contains setup sight [] seen_then c there = absurd (omega (arith, there.1))
plain_contains setup sight (call ∷ calls) seen_then c there =
    elim (Contains-append_cases ((sight, call) ∷ []) (with_sights setup (after_call setup sight (with_answer call)) calls) (seen_then, c) there) [
      | inl here ↦ let same : call ≡ c = ap (λ (x : Sight × PlayedCall). x.1) (single (sight, call) (seen_then, c) here) in
          subst (λ (x : PlayedCall). Contains {X = PlayedCall} (call ∷ calls) x) same (0, omega arith, refl)
      | inr later ↦ Contains-append_right (call ∷ []) calls c (plain_contains setup (after_call setup sight (with_answer call)) calls seen_then c later)
    ]

module _ (setup : Setup) where
  one_shown : (sight : Sight) (before : List (Sight × PlayedCall)) (call : PlayedCall) → ShownFrom sight.first sight.own before → RunsAs setup sight call.0 call.1
      → ((m : ℕ × Kind) → made_of call.0 ≡ Some m → m.0 ≡ sight.first + length sight.own)
      → ShownFrom sight.first (after_call setup sight (with_answer call)).own (before ++ (sight, call) ∷ [])
  one_shown sight before call was runs here = λ seen_then canvas name there.
      elim (Contains-push_cases before (sight, call) (seen_then, (Canvas (On canvas Current) (Some name), None)) there) [
        | inl old ↦ call_keeps setup sight call.0 (with_answer call).1 (name - sight.first) (current_seen seen_then canvas) (was seen_then canvas name old)
        | inr same ↦ let saw : sight ≡ seen_then = ap (λ (x : Sight × PlayedCall). x.0) same in
            let is : call ≡ (Canvas (On canvas Current) (Some name), None) = ap (λ (x : Sight × PlayedCall). x.1) same in
            let runs_so : RunsAs setup sight (Canvas (On canvas Current) (Some name)) None = subst (λ (c : PlayedCall). RunsAs setup sight c.0 c.1) is runs in
            let made : made_of call.0 ≡ Some (name, kinds.CanvasTexture) = ap (λ (c : PlayedCall). made_of c.0) is in
            let next : name ≡ sight.first + length sight.own = here (name, kinds.CanvasTexture) made in
            let place : length sight.own ≡ name - sight.first = omega (arith, next) in
            subst (λ n. slice_get (after_call setup sight (with_answer call)).own n ≡ Some (object.Shown (current_seen seen_then canvas))) place
            (subst (λ (s : Sight). slice_get (after_call setup sight (with_answer call)).own (length sight.own) ≡ Some (object.Shown (current_seen s canvas))) saw
            (subst (λ (c : PlayedCall). slice_get (after_call setup sight (with_answer c)).own (length sight.own) ≡ Some (object.Shown (current_seen sight canvas))) (sym is)
            (current_new setup sight canvas name (drawn_as setup sight (On canvas Current) (Some name) None runs_so))))
      ]

  pub lane_shown : (calls : List PlayedCall) (before : List (Sight × PlayedCall)) (sight : Sight) → ShownFrom sight.first sight.own before → Runs setup sight calls
      → AreFrom (sight.first + length sight.own) (slots_of (made_in (calls_in calls)))
      → ShownFrom (after_calls setup sight (map with_answer calls)).first (after_calls setup sight (map with_answer calls)).own (before ++ with_sights setup sight calls)
  lane_shown [] before sight was runs from = subst (λ (cs : List (Sight × PlayedCall)). ShownFrom sight.first sight.own cs) (sym (append-nil before)) was
  lane_shown (call ∷ calls) before sight was runs from =
      let after : Sight = after_call setup sight (with_answer call) in
      let end : Sight = after_calls setup after (map with_answer calls) in
      let answered : IsAnsweredCall (with_answer call) = call_answered setup sight call runs.0 in
      let first_is : after.first ≡ sight.first = same_first setup sight call.0 (with_answer call).1 in
      let length_is : length after.own ≡ length sight.own + length (made_by call.0) = call_length setup sight call.0 (with_answer call).1 answered in
      let grown : (sight.first + length sight.own) + length (made_by call.0) ≡ after.first + length after.own = omega (arith, first_is, length_is) in
      subst (λ (cs : List (Sight × PlayedCall)). ShownFrom end.first end.own cs) (append_assoc before ((sight, call) ∷ []) (with_sights setup after calls))
      (lane_shown calls (before ++ (sight, call) ∷ []) after
      (subst (λ n. ShownFrom n after.own (before ++ (sight, call) ∷ [])) (sym first_is)
      (one_shown sight before call was runs.0 (first_from (sight.first + length sight.own) (made_of call.0) (made_in (calls_in calls)) from)))
      runs.1
      (subst (λ n. AreFrom n (slots_of (made_in (calls_in calls)))) grown
      (from_back (sight.first + length sight.own) (made_by call.0) (made_in (calls_in calls)) from)))

  pub none_shown : (first : ℕ) → ShownFrom first [] []
  none_shown first = λ seen_then canvas name there. absurd (omega (arith, there.1))

  -- ---- lanes of a phase

  -- a name that a lane makes is none of those before its own
  pub own_named : (sight : Sight) (calls : List PlayedCall) (first : ℕ) (seen_then : Sight) (canvas name : ℕ) → AreFrom first (slots_of (made_in (calls_in calls)))
      → Contains {X = Sight × PlayedCall} (with_sights setup sight calls) (seen_then, (Canvas (On canvas Current) (Some name), None)) → first ≤ name
  own_named sight calls first seen_then canvas name from there =
      at_least first (made_in (calls_in calls)) name kinds.CanvasTexture from
      (maker_contains calls (Canvas (On canvas Current) (Some name), None) (name, kinds.CanvasTexture)
      (plain_contains setup sight calls seen_then (Canvas (On canvas Current) (Some name), None) there) refl)

  lane_joined : (objects own : List Object) (seen : List (Sight × PlayedCall)) (sight : Sight) (calls : List PlayedCall) → ShownAll objects seen
      → ShownFrom (length objects) own (with_sights setup sight calls) → AreFrom (length objects) (slots_of (made_in (calls_in calls)))
      → ShownAll (objects ++ own) (seen ++ with_sights setup sight calls)
  lane_joined objects own seen sight calls was made from = λ seen_then canvas name there.
      elim (Contains-append_cases seen (with_sights setup sight calls) (seen_then, (Canvas (On canvas Current) (Some name), None)) there) [
        | inl old ↦ at_append objects own name (object.Shown (current_seen seen_then canvas)) (was seen_then canvas name old)
        | inr new ↦ at_behind objects own name (own_named sight calls (length objects) seen_then canvas name from new) ∙ made seen_then canvas name new
      ]

  pub lanes_shown : (others : List Object) (lanes : List (List PlayedCall)) (objects : List Object) (seen : List (Sight × PlayedCall)) → ShownAll objects seen
      → AllRun setup others (length objects) lanes
      → AreFrom (length objects) (slots_of (flat_map made_in (map calls_in lanes)))
      → ShownAll (gathered objects (ended_from setup others (length objects) (answered_lanes lanes))) (seen ++ lanes_sights setup others (length objects) lanes)
  lanes_shown others [] objects seen was runs from = subst (ShownAll objects) (sym (append-nil seen)) was
  lanes_shown others (calls ∷ lanes) objects seen was runs from =
      let first : ℕ = length objects in
      let start : Sight = start_at setup others first in
      let sight : Sight = after_calls setup start (map with_answer calls) in
      let sights : List (Sight × PlayedCall) = with_sights setup start calls in
      let ours : Slots = made_in (calls_in calls) in
      let rest : Slots = flat_map made_in (map calls_in lanes) in
      let numbers : AreFrom first (slots_of ours) = from_front first ours rest from in
      let zero_is : first ≡ first + 0 = omega arith in
      let numbers_start : AreFrom (first + 0) (slots_of ours) = subst (λ n. AreFrom n (slots_of ours)) zero_is numbers in
      let made : ShownFrom first sight.own sights
      = subst (λ n. ShownFrom n sight.own sights) (first_after setup (map with_answer calls) start)
      (lane_shown calls [] start (none_shown first) runs.0 numbers_start) in
      let same : made_in (map (λ (c : Answered). c.0) (map with_answer calls)) ≡ ours = ap (λ (cs : List BoundCall). made_in cs) (lane_same calls) in
      let count : length sight.own ≡ 0 + length ours = lane_length setup calls start (lane_answered setup calls start runs.0) in
      let more : length (objects ++ sight.own) ≡ length objects + length sight.own = length-append objects sight.own in
      let next : length (objects ++ sight.own) ≡ first + length ours = omega (arith, more, count) in
      let next_answered : length (objects ++ sight.own) ≡ first + count_made (map (λ (c : Answered). c.0) (map with_answer calls))
      = next ∙ ap (λ (ms : Slots). first + length ms) (sym same) in
      let end : ShownAll (gathered (objects ++ sight.own) (ended_from setup others (length (objects ++ sight.own)) (answered_lanes lanes)))
      ((seen ++ sights) ++ lanes_sights setup others (length (objects ++ sight.own)) lanes)
      = lanes_shown others lanes (objects ++ sight.own) (seen ++ sights) (lane_joined objects sight.own seen start calls was made numbers)
      (subst (λ n. AllRun setup others n lanes) (sym next) runs.1) (subst (λ n. AreFrom n (slots_of rest)) (sym next) (from_back first ours rest from)) in
      subst (λ n. ShownAll (gathered (objects ++ sight.own) (ended_from setup others n (answered_lanes lanes)))
      (seen ++ (sights ++ lanes_sights setup others (first + count_made (calls_in calls)) lanes))) next_answered
      (subst (λ n. ShownAll (gathered (objects ++ sight.own) (ended_from setup others (length (objects ++ sight.own)) (answered_lanes lanes)))
      (seen ++ (sights ++ lanes_sights setup others n lanes))) next
      (subst (ShownAll (gathered (objects ++ sight.own) (ended_from setup others (length (objects ++ sight.own)) (answered_lanes lanes))))
      (append_assoc seen sights (lanes_sights setup others (length (objects ++ sight.own)) lanes)) end))
