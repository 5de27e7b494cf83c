-- What each call does to the recorders and the passes of a lane's places.
use Rattle.std.proofs.Common.{◌≡◌, ℕ, ◌+◌, ◌-◌, ◌≤◌, Bool, true, false, ◌||◌, ◌==◌, Option, Some, None, List, [], ◌∷◌, ◌++◌, length, refl, sym, ap, subst, ◌∙◌, inl, inr, arith, if◌then◌else◌}
use Rattle.std.specs.Prelude.{option_map, slice_get}
use Rattle.std.specs.Option.{option_map_or}
use Rattle.std.proofs.lemmas.Bool.{cases_eq, eq-eqb, ne_eqb}
use Rattle.wg_types.specs.Handles.{HandleValue}
use Rattle.wg_types.specs.declared.limits.Limits.{Limits}
use Rattle.wg_types.specs.declared.canvases.CanvasOf.{CanvasOf}
use Rattle.wg_types.specs.declared.canvases.CanvasOf.TheVariants.{Create, On as OnCanvas}
use Rattle.wg_types.specs.declared.commands.On.{On}
use Rattle.wg_trace.specs.declared.replies.Answer.{Answer}
use Rattle.wg_types.specs.Commands.{Command}
use Rattle.wg_model.specs.Walk.{begins_pass}
use Rattle.wg_canvas.specs.Canvases.{acted}
use Rattle.wg_encoder.specs.Recorders.{RecorderValue, has_taken, recorded}
use Rattle.wg_encoder.proofs.TakeLemmas.{counted}
use Rattle.wg_history.specs.declared.events.Setup.{Setup}
use Rattle.wg_calls.specs.Calls.{taken_out}
use Rattle.wg_script.specs.CallOf.{BoundCall}
use Rattle.wg_script.specs.declared.calls.CallOf.TheVariants.{Record, Ask, Canvas}
use Rattle.wg_play.specs.declared.objects.Object.{Object}
use Rattle.wg_play.specs.declared.objects.Object.TheVariants as object
use Rattle.wg_play.specs.declared.objects.Stand.{Stand}
use Rattle.wg_play.specs.Canvases.{given_by, acted_at, shown_at}
use Rattle.wg_calls.specs.Encoders.{is_begun, ended_by}
use Rattle.wg_play.specs.Objects.{recorder_at, with_recorder, recorded_by, recorded_on, begun_by, taken_on, object_of}
use Rattle.wg_play.specs.Sights.{Sight, place_in}
use Rattle.wg_play.specs.Lanes.{canvas_asks, new_canvas, drawn, command_seen, stand_seen, handle_kept}
use Rattle.wg_play.specs.Late.{finishes, after_call}
use Rattle.wg_play.proofs.Slots.{own_recorder, other_recorder, pass_with, length_with, at_append, recorder_append}
use Rattle.wg_play.proofs.Redrawn.{redrawn_recorder, redrawn_pass}
use Rattle.wg_play.proofs.Following.{ended_on, with_kept, after_record, after_ask, after_canvas}

pub or_false : (b : Bool) → (b || false) ≡ b
or_false true = refl
or_false false = refl

or_true : (b : Bool) → (b || true) ≡ true
or_true true = refl
or_true false = refl

-- The recorder of a place after a call, which finishes it or does not: it has begun as many passes as before, or more.
pub record Kept (objects : List Object) (place : ℕ) (finished : Bool) (old : RecorderValue) : Type 0 where
  pub recorder : RecorderValue
  pub is : recorder_at objects place ≡ Some recorder
  pub passes : old.passes ≤ recorder.passes
  pub taken : has_taken recorder ≡ (has_taken old || finished)

same_kept : (objects : List Object) (place : ℕ) (r : RecorderValue) → recorder_at objects place ≡ Some r → Kept objects place false r
same_kept objects place r e = record { recorder = r; is = e; passes = omega arith; taken = sym (or_false (has_taken r)) }

kept_append : (objects more : List Object) (place : ℕ) (finished : Bool) (r : RecorderValue) → Kept objects place finished r → Kept (objects ++ more) place finished r
kept_append objects more place finished r kept = record {
  recorder = kept.recorder;
  is = recorder_append objects more place kept.recorder kept.is;
  passes = kept.passes;
  taken = kept.taken;
}

-- ---- a recording call

counts : (b : Bool) (n : ℕ) → n ≤ (if b then n + 1 else n)
counts true n = omega arith
counts false n = omega arith

more_passes : (on : On) (command : Command) (b : Bool) (r : RecorderValue) → r.passes ≤ (if b then recorded r on command else r).passes
more_passes on command true r = counts (begins_pass on command) r.passes
more_passes on command false r = omega arith

same_taken : (on : On) (command : Command) (b : Bool) (r : RecorderValue) → has_taken (if b then recorded r on command else r) ≡ has_taken r
same_taken on command true r = refl
same_taken on command false r = refl

own_recorded : (objects : List Object) (place : ℕ) (on : On) (command : Command) (r : RecorderValue) → recorder_at objects place ≡ Some r → Kept (with_recorder objects place (recorded_by on command)) place false r
own_recorded objects place on command r e = record {
  recorder = recorded_by on command r;
  is = own_recorder (recorded_by on command) objects place ∙ ap (option_map (recorded_by on command)) e;
  passes = more_passes on command (is_begun on r.passes) r;
  taken = same_taken on command (is_begun on r.passes) r ∙ sym (or_false (has_taken r));
}

recorded_kept : (objects : List Object) (stand : Stand) (command : Command) (place : ℕ) (r : RecorderValue) → recorder_at objects place ≡ Some r → Kept (recorded_on objects stand command) place false r
recorded_kept objects stand command place r e = elim (cases_eq stand.encoder place) [
  | inl same ↦ subst (λ n. Kept (with_recorder objects n (recorded_by stand.on command)) place false r) (sym same) (own_recorded objects place stand.on command r e)
  | inr differs ↦ same_kept (recorded_on objects stand command) place r (other_recorder (recorded_by stand.on command) objects stand.encoder place differs ∙ e)
]

-- ---- a finish

own_taken : (objects : List Object) (place : ℕ) (r : RecorderValue) → recorder_at objects place ≡ Some r → Kept (taken_on objects place) place true r
own_taken objects place r e = record {
  recorder = taken_out r;
  is = own_recorder taken_out objects place ∙ ap (option_map taken_out) e;
  passes = omega arith;
  taken = counted r.takes ∙ sym (or_true (has_taken r));
}

taken_kept : (objects : List Object) (first encoder place : ℕ) (r : RecorderValue) → first ≤ encoder → recorder_at objects place ≡ Some r → Kept (taken_on objects (encoder - first)) place (encoder == first + place) r
taken_kept objects first encoder place r from e = elim (cases_eq (encoder - first) place) [
  | inl same ↦ let is : encoder ≡ first + place = omega (arith, from, same) in
      subst (λ n. Kept (taken_on objects n) place (encoder == first + place) r) (sym same) (subst (λ b. Kept (taken_on objects place) place b r) (sym (eq-eqb encoder (first + place) is)) (own_taken objects place r e))
  | inr differs ↦ subst (λ b. Kept (taken_on objects (encoder - first)) place b r) (sym (ne_eqb encoder (first + place) (λ q. differs (let is : encoder - first ≡ place = omega (arith, q) in is))))
      (same_kept (taken_on objects (encoder - first)) place r (other_recorder taken_out objects (encoder - first) place differs ∙ e))
]

-- the encoder that a call ends is one of the lane's own
abbrev pub EndsOwn : ℕ → Option ℕ → Type 0
EndsOwn first ended = (encoder : ℕ) → ended ≡ Some encoder → first ≤ encoder

ended_kept : (sight : Sight) (ended : Option ℕ) (place : ℕ) (r : RecorderValue) → EndsOwn sight.first ended → recorder_at sight.own place ≡ Some r
    → Kept (ended_on sight ended) place (option_map_or (λ encoder. encoder == sight.first + place) ended false) r
ended_kept sight None place r owns e = same_kept sight.own place r e
ended_kept sight (Some encoder) place r owns e = taken_kept sight.own sight.first encoder place r (owns encoder refl) e

ended_pass : (sight : Sight) (ended : Option ℕ) (place encoder number : ℕ) → slice_get sight.own place ≡ Some (object.Pass encoder number)
    → slice_get (ended_on sight ended) place ≡ Some (object.Pass encoder number)
ended_pass sight None place encoder number e = e
ended_pass sight (Some ended) place encoder number e = pass_with taken_out sight.own (place_in sight ended) place encoder number e

pub ended_length : (sight : Sight) (ended : Option ℕ) → length (ended_on sight ended) ≡ length sight.own
ended_length sight None = refl
ended_length sight (Some encoder) = length_with taken_out sight.own (place_in sight encoder)

-- ---- what is made

made_kept : (limits : Limits) (objects : List Object) (handle : Option HandleValue) (place : ℕ) (finished : Bool) (r : RecorderValue) → Kept objects place finished r → Kept (with_kept limits objects handle) place finished r
made_kept limits objects None place finished r kept = kept
made_kept limits objects (Some handle) place finished r kept = kept_append objects (object_of limits handle ∷ []) place finished r kept

made_pass : (limits : Limits) (objects : List Object) (handle : Option HandleValue) (place encoder number : ℕ) → slice_get objects place ≡ Some (object.Pass encoder number)
    → slice_get (with_kept limits objects handle) place ≡ Some (object.Pass encoder number)
made_pass limits objects None place encoder number e = e
made_pass limits objects (Some handle) place encoder number e = at_append objects (object_of limits handle ∷ []) place (object.Pass encoder number) e

-- ---- a call of a canvas

drawn_kept : (sight : Sight) (call : CanvasOf ℕ) (made : Option ℕ) (given : Option HandleValue) (place : ℕ) (r : RecorderValue) → recorder_at sight.own place ≡ Some r
    → Kept (drawn sight call made given).own place false r
drawn_kept sight (Create width height) made given place r e = kept_append sight.own (new_canvas width height made) place false r (same_kept sight.own place r e)
drawn_kept sight (OnCanvas canvas call) made given place r e =
    let at : ℕ = place_in sight canvas in
    let objects : List Object = acted_at sight.own at call given in
    kept_append objects (shown_at objects at call made) place false r
    (same_kept objects place r (redrawn_recorder (λ found. acted found call given) sight.own at place ∙ e))

drawn_pass : (sight : Sight) (call : CanvasOf ℕ) (made : Option ℕ) (given : Option HandleValue) (place encoder number : ℕ) → slice_get sight.own place ≡ Some (object.Pass encoder number)
    → slice_get (drawn sight call made given).own place ≡ Some (object.Pass encoder number)
drawn_pass sight (Create width height) made given place encoder number e = at_append sight.own (new_canvas width height made) place (object.Pass encoder number) e
drawn_pass sight (OnCanvas canvas call) made given place encoder number e =
    let at : ℕ = place_in sight canvas in
    let objects : List Object = acted_at sight.own at call given in
    at_append objects (shown_at objects at call made) place (object.Pass encoder number)
    (redrawn_pass (λ found. acted found call given) sight.own at place encoder number e)

-- ---- a call

abbrev pub Owns : ℕ → BoundCall → Type 0
Owns first (Record on command made) = Unit {0}
Owns first (Ask request made) = EndsOwn first (ended_by request)
Owns first (Canvas call made) = Unit {0}

pub call_keeps : (setup : Setup) (sight : Sight) (call : BoundCall) (answer : Answer) (place : ℕ) (r : RecorderValue) → Owns sight.first call → recorder_at sight.own place ≡ Some r
    → Kept (after_call setup sight (call, answer)).own place (finishes (sight.first + place) call) r
call_keeps setup sight (Record on command made) answer place r owns e =
    let stand : Stand = stand_seen sight on in
    let found : Command = command_seen sight command in
    subst (λ (s : Sight). Kept s.own place false r) (sym (after_record setup sight on command made answer))
    (kept_append (recorded_on sight.own stand found) (begun_by sight.own stand.encoder found made) place false r (recorded_kept sight.own stand found place r e))
call_keeps setup sight (Ask request made) answer place r owns e =
    subst (λ (s : Sight). Kept s.own place (finishes (sight.first + place) (Ask request made)) r) (sym (after_ask setup sight request made answer))
    (made_kept setup.limits (ended_on sight (ended_by request)) (handle_kept setup sight request made answer) place (finishes (sight.first + place) (Ask request made)) r
    (ended_kept sight (ended_by request) place r owns e))
call_keeps setup sight (Canvas call made) answer place r owns e =
    subst (λ (s : Sight). Kept s.own place false r) (sym (after_canvas setup sight call made answer))
    (drawn_kept sight call made (given_by setup (canvas_asks sight call) answer) place r e)

pub call_leaves : (setup : Setup) (sight : Sight) (call : BoundCall) (answer : Answer) (place encoder number : ℕ) → slice_get sight.own place ≡ Some (object.Pass encoder number)
    → slice_get (after_call setup sight (call, answer)).own place ≡ Some (object.Pass encoder number)
call_leaves setup sight (Record on command made) answer place encoder number e =
    let stand : Stand = stand_seen sight on in
    let found : Command = command_seen sight command in
    ap (λ (s : Sight). slice_get s.own place) (after_record setup sight on command made answer)
    ∙ at_append (recorded_on sight.own stand found) (begun_by sight.own stand.encoder found made) place (object.Pass encoder number)
    (pass_with (recorded_by stand.on found) sight.own stand.encoder place encoder number e)
call_leaves setup sight (Ask request made) answer place encoder number e =
    ap (λ (s : Sight). slice_get s.own place) (after_ask setup sight request made answer)
    ∙ made_pass setup.limits (ended_on sight (ended_by request)) (handle_kept setup sight request made answer) place encoder number
    (ended_pass sight (ended_by request) place encoder number e)
call_leaves setup sight (Canvas call made) answer place encoder number e =
    ap (λ (s : Sight). slice_get s.own place) (after_canvas setup sight call made answer)
    ∙ drawn_pass sight call made (given_by setup (canvas_asks sight call) answer) place encoder number e
