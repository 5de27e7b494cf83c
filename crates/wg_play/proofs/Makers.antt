-- What a call has made stands at the place of its slot, with the handle that its entry gave.
use Rattle.std.proofs.Common.{◌≡◌, true, ℕ, ◌+◌, ◌-◌, ◌≤◌, Option, Some, None, List, [], ◌∷◌, ◌++◌, length, map, refl, sym, ap, subst, ◌∙◌, inl, inr, arith, append_assoc, append-nil}
use Rattle.std.specs.Prelude.{All, Contains, option_map, option_and_then, slice_get, unwrap_or}
use Rattle.std.specs.List.{flat_map}
use Rattle.std.specs.Option.{option_map_or, option_to_list}
use Rattle.std.proofs.lemmas.Bool.{cases_eq}
use Rattle.std.proofs.lemmas.List.{length-append}
use Rattle.std.proofs.lemmas.List.Elements.{All-nil, All-cons, All-head, All-tail, Contains-append_left, Contains-append_right, Contains-append_cases, Contains-push_cases}
use Rattle.wg_types.specs.Handles.{HandleValue}
use Rattle.wg_types.specs.Commands.{Command}
use Rattle.wg_types.specs.declared.canvases.CanvasCall.TheVariants.{Configure, Current, Present}
use Rattle.wg_types.specs.declared.canvases.CanvasOf.{CanvasOf}
use Rattle.wg_types.specs.declared.canvases.CanvasOf.TheVariants.{Create, On}
use Rattle.wg_types.specs.declared.handles.Info.{Info}
use Rattle.wg_types.specs.declared.handles.Info.TheVariants as info
use Rattle.wg_types.specs.declared.requests.RequestOf.{RequestOf}
use Rattle.wg_types.specs.declared.textures.TextureInfo.{TextureInfo}
use Rattle.wg_trace.specs.declared.replies.Answer.{Answer}
use Rattle.wg_trace.specs.declared.replies.Answer.TheVariants.{Made, Queued, Promised, Plain, BadCompletion}
use Rattle.wg_types.specs.declared.wanted.Kind.{Kind}
use Rattle.wg_canvas.specs.Canvases.{CanvasValue, texture_at, texture_of, texture_asked, asked_at as stage_asked, act_asked, info_of, filled_at, acted}
use Rattle.wg_canvas.specs.declared.canvas.Setting.{Setting}
use Rattle.wg_canvas.specs.declared.canvas.Stage.{Stage}
use Rattle.wg_canvas.specs.declared.canvas.Stage.TheVariants.{Unset, Empty, Filled}
use Rattle.wg_encoder.specs.Recorders.{RecorderValue}
use Rattle.wg_history.specs.declared.events.Setup.{Setup}
use Rattle.wg_history.specs.Entries.{Entry}
use Rattle.wg_calls.specs.Calls.{handle_of, taken_out}
use Rattle.wg_script.specs.CallOf.{BoundCall}
use Rattle.wg_script.specs.declared.calls.CallOf.TheVariants.{Record, Ask, Canvas}
use Rattle.wg_names.specs.Uses.{made_of}
use Rattle.wg_names.specs.Bound.{made_by, made_in}
use Rattle.wg_play.specs.declared.objects.Object.{Object}
use Rattle.wg_play.specs.declared.objects.Object.TheVariants as object
use Rattle.wg_play.specs.declared.objects.Stand.{Stand}
use Rattle.wg_play.specs.Canvases.{canvas_at, redrawn, with_canvas, canvas_asked, given_by, acted_at, shown_at}
use Rattle.wg_calls.specs.Encoders.{ended_by}
use Rattle.wg_play.specs.Objects.{unknown, handle_in, changed, with_recorder, recorded_by, recorded_on, begun_by, object_of}
use Rattle.wg_play.specs.Sights.{Sight, place_in}
use Rattle.wg_play.specs.Lanes.{kept, canvas_asks, new_canvas, drawn, command_seen, stand_seen, info_sent, handle_known, handle_kept, count_made, gathered}
use Rattle.wg_play.specs.Late.{is_made, IsAnswerTo, Answered, IsAnsweredCall, after_call, after_calls}
use Rattle.wg_play.specs.Found.{ended_from, phase_of}
use Rattle.wg_play.specs.Played.{PlayedCall, calls_in, with_answer, answered_lanes}
use Rattle.wg_play.proofs.Slots.{own_at, other_at, at_append, at_new}
use Rattle.wg_play.proofs.Passage.{event_answered}
use Rattle.wg_play.proofs.Redrawn.{own_canvas, redrawn_own, redrawn_other, redrawn_length, redrawn_handle}
use Rattle.wg_play.proofs.Following.{ended_on, with_kept, after_record, after_ask, after_canvas, same_first, FitsSlot, handle_fits}
use Rattle.wg_play.proofs.Lateness.{ended_length}
use Rattle.wg_play.proofs.Making.{call_length}
use Rattle.wg_play.proofs.Numbered.{only, Slots, AreFrom, slots_of, first_from, from_front, from_back}
use Rattle.wg_play.proofs.Holding.{stage_filled, call_makes}
use Rattle.wg_play.proofs.LateLaw.{first_after}
use Rattle.wg_play.proofs.FoundLaw.{at_least, at_behind}
use Rattle.wg_play.proofs.Running.{RunsAs, Runs, call_answered, lane_answered}

-- ---- lists of calls

pub lane_same : (calls : List PlayedCall) → map (λ (c : Answered). c.0) (map with_answer calls) ≡ calls_in calls
lane_same [] = refl
lane_same (call ∷ calls) = ap (λ (cs : List BoundCall). call.0 ∷ cs) (lane_same calls)

pub lanes_same : (lanes : List (List PlayedCall)) → phase_of (answered_lanes lanes) ≡ map calls_in lanes
lanes_same [] = refl
lanes_same (calls ∷ lanes) =
    ap (λ (cs : List BoundCall). cs ∷ phase_of (answered_lanes lanes)) (lane_same calls) ∙ ap (λ (ls : List (List BoundCall)). calls_in calls ∷ ls)
    (lanes_same lanes)

pub calls_more : (before after : List PlayedCall) → calls_in (before ++ after) ≡ calls_in before ++ calls_in after
calls_more [] after = refl
calls_more (call ∷ before) after = ap (λ (cs : List BoundCall). call.0 ∷ cs) (calls_more before after)

-- what a call of some makes is among what they make
only_one : (x y : PlayedCall) → Contains (x ∷ []) y → x ≡ y
only_one x y there = elim (Contains-push_cases [] x y there) [ inl none ↦ absurd (omega (arith, none.1)) | inr same ↦ same ]

pub new_contains : (found : Option (ℕ × Kind)) (m : ℕ × Kind) → found ≡ Some m → Contains (option_to_list found) m
new_contains found m e = subst (λ (o : Option (ℕ × Kind)). Contains (option_to_list o) m) (sym e) (0, omega arith, refl)

pub maker_contains : (plays : List PlayedCall) (maker : PlayedCall) (m : ℕ × Kind) → Contains plays maker → made_of maker.0 ≡ Some m
    → Contains (made_in (calls_in plays)) m
maker_contains [] maker m there makes = absurd (omega (arith, there.1))
maker_contains (call ∷ plays) maker m there makes = elim (Contains-append_cases (call ∷ []) plays maker there) [
  | inl here ↦ Contains-append_left (made_by call.0) (made_in (calls_in plays)) m
      (new_contains (made_of call.0) m (ap (λ (c : PlayedCall). made_of c.0) (only_one call maker here) ∙ makes))
  | inr later ↦ Contains-append_right (made_by call.0) (made_in (calls_in plays)) m (maker_contains plays maker m later makes)
]

-- and of what they make there is a call that makes it
pub record IsMadeIn (plays : List PlayedCall) (m : ℕ × Kind) : Type 0 where
  pub maker : PlayedCall
  pub is_there : Contains plays maker
  pub makes : made_of maker.0 ≡ Some m

pub made_among : (plays : List PlayedCall) (m : ℕ × Kind) → Contains (made_in (calls_in plays)) m → IsMadeIn plays m
made_among [] m there = absurd (omega (arith, there.1))
made_among (call ∷ plays) m there = elim (Contains-append_cases (made_by call.0) (made_in (calls_in plays)) m there) [
  | inl here ↦ record { maker = call; is_there = (0, omega arith, refl); makes = only (made_of call.0) m here }
  | inr later ↦ let rest = made_among plays m later in
      record { maker = rest.maker; is_there = Contains-append_right (call ∷ []) plays rest.maker rest.is_there; makes = rest.makes }
]

pub lane_length : (setup : Setup) (calls : List PlayedCall) (sight : Sight) → All IsAnsweredCall (map with_answer calls)
    → length (after_calls setup sight (map with_answer calls)).own ≡ length sight.own + length (made_in (calls_in calls))
lane_length setup [] sight all = omega arith
lane_length setup (call ∷ calls) sight all =
    let after : Sight = after_call setup sight (with_answer call) in
    let one : length after.own ≡ length sight.own + length (made_by call.0)
    = call_length setup sight call.0 (with_answer call).1 (All-head IsAnsweredCall (with_answer call) (map with_answer calls) all) in
    let rest = lane_length setup calls after (All-tail IsAnsweredCall (with_answer call) (map with_answer calls) all) in
    let both : length (made_by call.0 ++ made_in (calls_in calls)) ≡ length (made_by call.0) + length (made_in (calls_in calls))
    = length-append (made_by call.0) (made_in (calls_in calls)) in
    omega (arith, one, rest, both)

-- ---- the handle of what a call made

abbrev pub IsAnswer : Setup → Answer → HandleValue → Type 0
IsAnswer setup answer handle = (handle.reference.device ≡ setup.serial) × (answer ≡ Made handle.reference.number handle.valid)

-- that of an object is of its entry, and so is that of the texture of a canvas which was made by one
abbrev pub IsFromCanvas : Setup → HandleValue → CanvasOf ℕ → Option Entry → Type 0
IsFromCanvas setup handle (Create width height) found = Unit {0}
IsFromCanvas setup handle (On canvas call) None = Unit {0}
IsFromCanvas setup handle (On canvas call) (Some entry) = IsAnswer setup entry.reply.answer handle

abbrev pub IsFrom : Setup → HandleValue → BoundCall → Option Entry → Type 0
IsFrom setup handle (Record on command made) found = Unit {0}
IsFrom setup handle (Ask request made) None = ⊥
IsFrom setup handle (Ask request made) (Some entry) = IsAnswer setup entry.reply.answer handle
IsFrom setup handle (Canvas call made) found = IsFromCanvas setup handle call found

pub record IsMadeAt (setup : Setup) (objects : List Object) (place : ℕ) (maker : PlayedCall) : Type 0 where
  pub what : Object
  pub is : slice_get objects place ≡ Some what
  pub of : IsFrom setup (handle_in what) maker.0 maker.1

made_append : (setup : Setup) (objects more : List Object) (place : ℕ) (maker : PlayedCall) → IsMadeAt setup objects place maker
    → IsMadeAt setup (objects ++ more) place maker
made_append setup objects more place maker was = record { what = was.what; is = at_append objects more place was.what was.is; of = was.of }

same_handle : (change : RecorderValue → RecorderValue) (x : Object) → handle_in (changed x change) ≡ handle_in x
same_handle change (object.Made handle recorder) = refl
same_handle change (object.Pass encoder number) = refl
same_handle change (object.Canvas canvas) = refl
same_handle change (object.Shown texture) = refl

made_changed : (setup : Setup) (change : RecorderValue → RecorderValue) (objects : List Object) (at place : ℕ) (maker : PlayedCall)
    → IsMadeAt setup objects place maker → IsMadeAt setup (with_recorder objects at change) place maker
made_changed setup change objects at place maker was = elim (cases_eq at place) [
  | inl same ↦ subst (λ n. IsMadeAt setup (with_recorder objects n change) place maker) (sym same) (record {
    what = changed was.what change;
    is = own_at change objects place ∙ ap (option_map (λ (x : Object). changed x change)) was.is;
    of = subst (λ (h : HandleValue). IsFrom setup h maker.0 maker.1) (sym (same_handle change was.what)) was.of;
  })
  | inr differs ↦ record { what = was.what; is = other_at change objects at place differs ∙ was.is; of = was.of }
]

ended_made : (setup : Setup) (sight : Sight) (ended : Option ℕ) (place : ℕ) (maker : PlayedCall) → IsMadeAt setup sight.own place maker
    → IsMadeAt setup (ended_on sight ended) place maker
ended_made setup sight None place maker was = was
ended_made setup sight (Some encoder) place maker was = made_changed setup taken_out sight.own (place_in sight encoder) place maker was

kept_made : (setup : Setup) (objects : List Object) (handle : Option HandleValue) (place : ℕ) (maker : PlayedCall) → IsMadeAt setup objects place maker
    → IsMadeAt setup (with_kept setup.limits objects handle) place maker
kept_made setup objects None place maker was = was
kept_made setup objects (Some handle) place maker was = made_append setup objects (object_of setup.limits handle ∷ []) place maker was

made_redrawn : (setup : Setup) (change : CanvasValue → CanvasValue) (objects : List Object) (at place : ℕ) (maker : PlayedCall)
    → IsMadeAt setup objects place maker → IsMadeAt setup (with_canvas objects at change) place maker
made_redrawn setup change objects at place maker was = elim (cases_eq at place) [
  | inl same ↦ subst (λ n. IsMadeAt setup (with_canvas objects n change) place maker) (sym same) (record {
    what = redrawn was.what change;
    is = redrawn_own change objects place ∙ ap (option_map (λ (x : Object). redrawn x change)) was.is;
    of = subst (λ (h : HandleValue). IsFrom setup h maker.0 maker.1) (sym (redrawn_handle change was.what)) was.of;
  })
  | inr differs ↦ record { what = was.what; is = redrawn_other change objects at place differs ∙ was.is; of = was.of }
]

drawn_made : (setup : Setup) (sight : Sight) (call : CanvasOf ℕ) (made : Option ℕ) (given : Option HandleValue) (place : ℕ) (maker : PlayedCall)
    → IsMadeAt setup sight.own place maker → IsMadeAt setup (drawn sight call made given).own place maker
drawn_made setup sight (Create width height) made given place maker was = made_append setup sight.own (new_canvas width height made) place maker was
drawn_made setup sight (On canvas call) made given place maker was =
    let at : ℕ = place_in sight canvas in
    let objects : List Object = acted_at sight.own at call given in
    made_append setup objects (shown_at objects at call made) place maker (made_redrawn setup (λ found. acted found call given) sight.own at place maker was)

-- The texture that a currentTexture shows which asks for one was made by its answer.

abbrev kept_if : Sight → Option (RequestOf HandleValue) → Option Sight
kept_if new asked = option_map_or (λ (request : RequestOf HandleValue). None) asked (Some new)

made_from : (setup : Setup) (setting : Setting) (known : TextureInfo) (answer : Answer) → is_made answer ≡ true
    → IsAnswer setup answer (unwrap_or (texture_at (option_map_or (filled_at (Empty setting)) (handle_of setup.serial (info.Texture known) answer) (Empty setting))) unknown)
made_from setup setting known (Made number valid) made = (refl, refl)
made_from setup setting known (Queued op) made = absurd (cc (made))
made_from setup setting known Promised made = absurd (cc (made))
made_from setup setting known Plain made = absurd (cc (made))
made_from setup setting known BadCompletion made = absurd (cc (made))

stage_from : (setup : Setup) (new : Sight) (canvas : CanvasValue) (answer : Answer) (stage : Stage) → kept_if new (stage_asked canvas stage) ≡ None → is_made answer ≡ true
    → IsAnswer setup answer (unwrap_or (texture_at (option_map_or (filled_at stage) (given_by setup (stage_asked canvas stage) answer) stage)) unknown)
stage_from setup new canvas answer Unset unkept made = absurd (cc (unkept))
stage_from setup new canvas answer (Empty setting) unkept made = made_from setup setting (info_of canvas setting) answer made
stage_from setup new canvas answer (Filled setting texture) unkept made = absurd (cc (unkept))

canvas_from : (setup : Setup) (new : Sight) (found : Option CanvasValue) (answer : Answer) → kept_if new (option_and_then (λ c. act_asked c Current) found) ≡ None → is_made answer ≡ true
    → IsAnswer setup answer (unwrap_or (option_and_then texture_of (option_map (λ c. acted c Current (given_by setup (option_and_then (λ c. act_asked c Current) found) answer)) found)) unknown)
canvas_from setup new None answer unkept made = absurd (cc (unkept))
canvas_from setup new (Some canvas) answer unkept made =
    subst (λ (stage : Stage). IsAnswer setup answer (unwrap_or (texture_at stage) unknown)) (sym (stage_filled canvas (given_by setup (texture_asked canvas) answer)))
    (stage_from setup new canvas answer canvas.stage unkept made)

shown_from : (setup : Setup) (sight new : Sight) (place : ℕ) (answer : Answer) → kept_if new (canvas_asked sight.own place Current) ≡ None → is_made answer ≡ true
    → IsAnswer setup answer (unwrap_or (option_and_then texture_of (canvas_at (acted_at sight.own place Current (given_by setup (canvas_asked sight.own place Current) answer)) place)) unknown)
shown_from setup sight new place answer unkept made =
    subst (λ (found : Option CanvasValue). IsAnswer setup answer (unwrap_or (option_and_then texture_of found) unknown))
    (sym (own_canvas (λ c. acted c Current (given_by setup (canvas_asked sight.own place Current) answer)) sight.own place))
    (canvas_from setup new (canvas_at sight.own place) answer unkept made)

-- where a call became an entry, it was not kept, and the entry was answered as it must be
SentAs : Sight → BoundCall → Option Entry → Type 0
SentAs sight call found = (entry : Entry) → found ≡ Some entry → (kept sight call ≡ None) × IsAnswerTo call entry.reply.answer

current_from : (setup : Setup) (sight : Sight) (canvas name : ℕ) (found : Option Entry) → SentAs sight (Canvas (On canvas Current) (Some name)) found
    → IsFromCanvas setup (unwrap_or (option_and_then texture_of (canvas_at (acted_at sight.own (place_in sight canvas) Current
    (given_by setup (canvas_asked sight.own (place_in sight canvas) Current) (with_answer (Canvas (On canvas Current) (Some name), found)).1)) (place_in sight canvas))) unknown) (On canvas Current) found
unfolding SentAs
current_from setup sight canvas name None sent = tt
current_from setup sight canvas name (Some entry) sent =
    let as_sent = sent entry refl in
    shown_from setup sight (drawn sight (On canvas Current) (Some name) None) (place_in sight canvas) entry.reply.answer as_sent.0 (as_sent.1 refl)

-- what a call of a canvas makes stands at the next place
drawn_new : (setup : Setup) (sight : Sight) (call : CanvasOf ℕ) (made : Option ℕ) (found : Option Entry) (slot : ℕ) (k : Kind) → SentAs sight (Canvas call made) found
    → made_of (Canvas call made) ≡ Some (slot, k)
    → IsMadeAt setup (drawn sight call made (given_by setup (canvas_asks sight call) (with_answer (Canvas call made, found)).1)).own (length sight.own) (Canvas call made, found)
drawn_new setup sight call None found slot k sent e = absurd (cc (e))
drawn_new setup sight (Create width height) (Some name) found slot k sent e =
    let new : Object = object.Canvas (record { width = width; height = height; stage = Unset }) in
    record { what = new; is = at_new sight.own new; of = tt }
drawn_new setup sight (On canvas (Configure format usage)) (Some name) found slot k sent e = absurd (cc (e))
drawn_new setup sight (On canvas Current) (Some name) found slot k sent e =
    let at : ℕ = place_in sight canvas in
    let given : Option HandleValue = given_by setup (canvas_asked sight.own at Current) (with_answer (Canvas (On canvas Current) (Some name), found)).1 in
    let objects : List Object = acted_at sight.own at Current given in
    let new : Object = object.Shown (option_and_then texture_of (canvas_at objects at)) in
    let count : length objects ≡ length sight.own = redrawn_length (λ c. acted c Current given) sight.own at in
    record {
      what = new;
      is = subst (λ n. slice_get (objects ++ new ∷ []) n ≡ Some new) count (at_new objects new);
      of = current_from setup sight canvas name found sent;
    }
drawn_new setup sight (On canvas Present) (Some name) found slot k sent e = absurd (cc (e))

-- it stays where it is
call_leaves : (setup : Setup) (sight : Sight) (call : BoundCall) (answer : Answer) (place : ℕ) (maker : PlayedCall) → IsMadeAt setup sight.own place maker
    → IsMadeAt setup (after_call setup sight (call, answer)).own place maker
call_leaves setup sight (Record on command made) answer place maker was =
    let stand : Stand = stand_seen sight on in
    let found : Command = command_seen sight command in
    subst (λ (s : Sight). IsMadeAt setup s.own place maker) (sym (after_record setup sight on command made answer))
    (made_append setup (recorded_on sight.own stand found) (begun_by sight.own stand.encoder found made) place maker
    (made_changed setup (recorded_by stand.on found) sight.own stand.encoder place maker was))
call_leaves setup sight (Ask request made) answer place maker was =
    subst (λ (s : Sight). IsMadeAt setup s.own place maker) (sym (after_ask setup sight request made answer))
    (kept_made setup (ended_on sight (ended_by request)) (handle_kept setup sight request made answer) place maker
    (ended_made setup sight (ended_by request) place maker was))
call_leaves setup sight (Canvas call made) answer place maker was =
    subst (λ (s : Sight). IsMadeAt setup s.own place maker) (sym (after_canvas setup sight call made answer))
    (drawn_made setup sight call made (given_by setup (canvas_asks sight call) answer) place maker was)

pub handle_from : (setup : Setup) (known : Info) (answer : Answer) (handle : HandleValue) → handle_of setup.serial known answer ≡ Some handle
    → IsAnswer setup answer handle
handle_from setup known (Made number valid) handle e =
    let new : HandleValue = record { reference = record { device = setup.serial; number = number }; valid = valid; info = known } in
    let same : new ≡ handle = cc (e) in
    subst (IsAnswer setup (Made number valid)) same (refl, refl)
handle_from setup known (Queued op) handle e = absurd (cc (e))
handle_from setup known Promised handle e = absurd (cc (e))
handle_from setup known Plain handle e = absurd (cc (e))
handle_from setup known BadCompletion handle e = absurd (cc (e))

pub kept_from : (setup : Setup) (known : Option Info) (answer : Answer) (made : Option ℕ) (handle : HandleValue)
    → option_and_then (λ (slot : ℕ). handle_known setup known answer) made ≡ Some handle → IsAnswer setup answer handle
kept_from setup known answer None handle e = absurd (cc (e))
kept_from setup None answer (Some slot) handle e = absurd (cc (e))
kept_from setup (Some x) answer (Some slot) handle e = handle_from setup x answer handle e

new_made : (setup : Setup) (objects : List Object) (handle : Option HandleValue) (slot : ℕ) (k : Kind) (maker : PlayedCall) → FitsSlot handle (Some (slot, k))
    → ((h : HandleValue) → handle ≡ Some h → IsFrom setup h maker.0 maker.1) → IsMadeAt setup (with_kept setup.limits objects handle) (length objects) maker
new_made setup objects None slot k maker fits from = absurd fits
new_made setup objects (Some handle) slot k maker fits from =
    record { what = object_of setup.limits handle; is = at_new objects (object_of setup.limits handle); of = from handle refl }

module _ (setup : Setup) where
  sent_as : (sight : Sight) (call : BoundCall) (found : Option Entry) → RunsAs setup sight call found → SentAs sight call found
  unfolding SentAs
  sent_as sight call None runs = λ entry e. absurd (cc (e))
  sent_as sight call (Some x) runs = λ entry e. (let same : x ≡ entry = cc (e) in
      (runs.0, subst (λ (y : Entry). IsAnswerTo call y.reply.answer) same (event_answered setup sight call x runs.0 runs.1 runs.2)))

  -- and what a call has made stands at the next place
  call_new : (sight : Sight) (call : BoundCall) (found : Option Entry) (slot : ℕ) (k : Kind) → RunsAs setup sight call found → made_of call ≡ Some (slot, k)
      → IsMadeAt setup (after_call setup sight (with_answer (call, found))).own (length sight.own) (call, found)
  call_new sight (Record on command made) found slot k runs e =
      let there = call_makes setup sight (Record on command made) (with_answer (Record on command made, found)).1 slot k tt tt e in
      record { what = there.what; is = there.is; of = tt }
  call_new sight (Ask request made) None slot k runs e = absurd (cc (runs))
  call_new sight (Ask request made) (Some entry) slot k runs e =
      let answer : Answer = entry.reply.answer in
      let handle : Option HandleValue = handle_kept setup sight request made answer in
      let fits : FitsSlot handle (Some (slot, k)) = subst (FitsSlot handle) e
      (handle_fits setup sight request made answer (call_answered setup sight (Ask request made, Some entry) runs)) in
      subst (λ (s : Sight). IsMadeAt setup s.own (length sight.own) (Ask request made, Some entry))
      (sym (after_ask setup sight request made answer))
      (subst (λ n. IsMadeAt setup (with_kept setup.limits (ended_on sight (ended_by request)) handle) n (Ask request made, Some entry))
      (ended_length sight (ended_by request))
      (new_made setup (ended_on sight (ended_by request)) handle slot k (Ask request made, Some entry) fits
      (λ h x. kept_from setup (info_sent sight request) answer made h x)))
  call_new sight (Canvas call made) found slot k runs e =
      let answer : Answer = (with_answer (Canvas call made, found)).1 in
      subst (λ (s : Sight). IsMadeAt setup s.own (length sight.own) (Canvas call made, found)) (sym (after_canvas setup sight call made answer))
      (drawn_new setup sight call made found slot k (sent_as sight (Canvas call made) found runs) e)

  -- ---- calls of a lane, one after another

  abbrev pub MadeFrom : ℕ → List Object → List PlayedCall → Type 0
  MadeFrom first own plays = (maker : PlayedCall) (slot : ℕ) (k : Kind) → Contains plays maker → made_of maker.0 ≡ Some (slot, k)
      → IsMadeAt setup own (slot - first) maker

  pub none_made : (first : ℕ) → MadeFrom first [] []
  none_made first = λ maker slot k there makes. absurd (omega (arith, there.1))

  one_made : (sight : Sight) (before : List PlayedCall) (call : PlayedCall) → MadeFrom sight.first sight.own before → RunsAs setup sight call.0 call.1
      → ((m : ℕ × Kind) → made_of call.0 ≡ Some m → m.0 ≡ sight.first + length sight.own)
      → MadeFrom sight.first (after_call setup sight (with_answer call)).own (before ++ call ∷ [])
  one_made sight before call was runs here = λ maker slot k there makes. elim (Contains-push_cases before call maker there) [
    | inl old ↦ call_leaves setup sight call.0 (with_answer call).1 (slot - sight.first) maker (was maker slot k old makes)
    | inr same ↦ let own : List Object = (after_call setup sight (with_answer call)).own in
        let is : made_of call.0 ≡ Some (slot, k) = ap (λ (c : PlayedCall). made_of c.0) same ∙ makes in
        let next : slot ≡ sight.first + length sight.own = here (slot, k) is in
        let place : length sight.own ≡ slot - sight.first = omega (arith, next) in
        subst (λ n. IsMadeAt setup own n maker) place
        (subst (λ (c : PlayedCall). IsMadeAt setup own (length sight.own) c) same (call_new sight call.0 call.1 slot k runs is))
  ]

  pub lane_made : (calls before : List PlayedCall) (sight : Sight) → MadeFrom sight.first sight.own before → Runs setup sight calls
      → AreFrom (sight.first + length sight.own) (slots_of (made_in (calls_in calls)))
      → MadeFrom (after_calls setup sight (map with_answer calls)).first (after_calls setup sight (map with_answer calls)).own (before ++ calls)
  lane_made [] before sight was runs from = subst (λ cs. MadeFrom sight.first sight.own cs) (sym (append-nil before)) was
  lane_made (call ∷ calls) before sight was runs from =
      let after : Sight = after_call setup sight (with_answer call) in
      let end : Sight = after_calls setup after (map with_answer calls) in
      let answered : IsAnsweredCall (with_answer call) = call_answered setup sight call runs.0 in
      let first_is : after.first ≡ sight.first = same_first setup sight call.0 (with_answer call).1 in
      let length_is : length after.own ≡ length sight.own + length (made_by call.0) = call_length setup sight call.0 (with_answer call).1 answered in
      let grown : (sight.first + length sight.own) + length (made_by call.0) ≡ after.first + length after.own = omega (arith, first_is, length_is) in
      subst (λ cs. MadeFrom end.first end.own cs) (append_assoc before (call ∷ []) calls)
      (lane_made calls (before ++ call ∷ []) after
      (subst (λ n. MadeFrom n after.own (before ++ call ∷ [])) (sym first_is)
      (one_made sight before call was runs.0 (first_from (sight.first + length sight.own) (made_of call.0) (made_in (calls_in calls)) from)))
      runs.1
      (subst (λ n. AreFrom n (slots_of (made_in (calls_in calls)))) grown
      (from_back (sight.first + length sight.own) (made_by call.0) (made_in (calls_in calls)) from)))

  -- ---- lanes of a phase

  abbrev pub start_at : List Object → ℕ → Sight
  start_at others first = record { others = others; first = first; own = [] }

  -- the lanes run, from the one on whose first slot is this
  abbrev pub AllRun : List Object → ℕ → List (List PlayedCall) → Type 0
  AllRun others first [] = Unit {0}
  AllRun others first (calls ∷ lanes) = Runs setup (start_at others first) calls × AllRun others (first + count_made (calls_in calls)) lanes

  pub all_answered : (others : List Object) (first : ℕ) (lanes : List (List PlayedCall)) → AllRun others first lanes
      → All (All IsAnsweredCall) (answered_lanes lanes)
  all_answered others first [] runs = All-nil (All IsAnsweredCall)
  all_answered others first (calls ∷ lanes) runs =
      All-cons (All IsAnsweredCall) (map with_answer calls) (answered_lanes lanes) (lane_answered setup calls (start_at others first) runs.0)
      (all_answered others (first + count_made (calls_in calls)) lanes runs.1)

  -- what calls have made stands at their slots
  abbrev pub MadeAll : List Object → List PlayedCall → Type 0
  MadeAll objects plays = (maker : PlayedCall) (slot : ℕ) (k : Kind) → Contains plays maker → made_of maker.0 ≡ Some (slot, k)
      → IsMadeAt setup objects slot maker

  lane_joined : (objects own : List Object) (plays ours : List PlayedCall) → MadeAll objects plays → MadeFrom (length objects) own ours
      → AreFrom (length objects) (slots_of (made_in (calls_in ours)))
      → MadeAll (objects ++ own) (plays ++ ours)
  lane_joined objects own plays ours was made from = λ maker slot k there makes. elim (Contains-append_cases plays ours maker there) [
    | inl old ↦ made_append setup objects own slot maker (was maker slot k old makes)
    | inr new ↦ let le : length objects ≤ slot = at_least (length objects) (made_in (calls_in ours)) slot k from
        (maker_contains ours maker (slot, k) new makes) in
        let here = made maker slot k new makes in
        record { what = here.what; is = at_behind objects own slot le ∙ here.is; of = here.of }
  ]

  pub lanes_joined : (others : List Object) (lanes : List (List PlayedCall)) (objects : List Object) (plays : List PlayedCall) → MadeAll objects plays
      → AllRun others (length objects) lanes
      → AreFrom (length objects) (slots_of (flat_map made_in (map calls_in lanes)))
      → MadeAll (gathered objects (ended_from setup others (length objects) (answered_lanes lanes))) (plays ++ flat_map (λ calls. calls) lanes)
  lanes_joined others [] objects plays was runs from = subst (MadeAll objects) (sym (append-nil plays)) was
  lanes_joined others (calls ∷ lanes) objects plays was runs from =
      let first : ℕ = length objects in
      let start : Sight = start_at others first in
      let sight : Sight = after_calls setup start (map with_answer calls) in
      let ours : Slots = made_in (calls_in calls) in
      let rest : Slots = flat_map made_in (map calls_in lanes) in
      let numbers : AreFrom first (slots_of ours) = from_front first ours rest from in
      let zero_is : first ≡ first + 0 = omega arith in
      let numbers_start : AreFrom (first + 0) (slots_of ours) = subst (λ n. AreFrom n (slots_of ours)) zero_is numbers in
      let made : MadeFrom first sight.own calls
      = subst (λ n. MadeFrom n sight.own calls) (first_after setup (map with_answer calls) start)
      (lane_made calls [] start (none_made first) runs.0 numbers_start) in
      let same : made_in (map (λ (c : Answered). c.0) (map with_answer calls)) ≡ ours = ap (λ (cs : List BoundCall). made_in cs) (lane_same calls) in
      let count : length sight.own ≡ 0 + length ours = lane_length setup calls start (lane_answered setup calls start runs.0) in
      let more : length (objects ++ sight.own) ≡ length objects + length sight.own = length-append objects sight.own in
      let next : length (objects ++ sight.own) ≡ first + length ours = omega (arith, more, count) in
      let next_answered : length (objects ++ sight.own) ≡ first + count_made (map (λ (c : Answered). c.0) (map with_answer calls))
      = next ∙ ap (λ (ms : Slots). first + length ms) (sym same) in
      let end : MadeAll (gathered (objects ++ sight.own) (ended_from setup others (length (objects ++ sight.own)) (answered_lanes lanes)))
      ((plays ++ calls) ++ flat_map (λ cs. cs) lanes)
      = lanes_joined others lanes (objects ++ sight.own) (plays ++ calls) (lane_joined objects sight.own plays calls was made numbers)
      (subst (λ n. AllRun others n lanes) (sym next) runs.1) (subst (λ n. AreFrom n (slots_of rest)) (sym next) (from_back first ours rest from)) in
      subst (λ n. MadeAll (gathered (objects ++ sight.own) (ended_from setup others n (answered_lanes lanes)))
      (plays ++ (calls ++ flat_map (λ cs. cs) lanes))) next_answered
      (subst (MadeAll (gathered (objects ++ sight.own) (ended_from setup others (length (objects ++ sight.own)) (answered_lanes lanes))))
      (append_assoc plays calls (flat_map (λ cs. cs) lanes)) end)
