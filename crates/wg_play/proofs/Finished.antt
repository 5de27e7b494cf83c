-- The encoders and passes of a lane after some of its calls: an encoder has ended exactly where one of them finishes it.
use Rattle.std.proofs.Common.{◌≡◌, ℕ, ◌+◌, ◌-◌, ◌<◌, ◌≤◌, nat_lt, true, false, ◌||◌, ◌==◌, Option, Some, None, List, [], ◌∷◌, ◌++◌, length, map, refl, sym, ap, ap₂, subst, ◌∙◌, inl, inr, arith, append_assoc}
use Rattle.std.specs.Prelude.{All, Contains, slice_get}
use Rattle.std.specs.Option.{option_map_or, option_to_list}
use Rattle.std.specs.List.{list_any}
use Rattle.std.proofs.lemmas.Bool.{ne_eqb}
use Rattle.std.proofs.lemmas.Bool.Decides.{nat_tests}
use Rattle.std.proofs.lemmas.List.{append-nil}
use Rattle.std.proofs.lemmas.List.Folds.{list_any-append}
use Rattle.std.proofs.lemmas.List.Elements.{All-nil, All-cons, All-head, All-tail, All-contains, Contains-append_cases}
use Rattle.wg_types.specs.declared.wanted.Kind.{Kind}
use Rattle.wg_types.specs.declared.wanted.Kind.TheVariants as kind
use Rattle.wg_types.specs.declared.wanted.Wanted.TheVariants as wanted
use Rattle.wg_types.specs.Wanted.{admits}
use Rattle.wg_types.specs.Commands.{place_wanted, kind_begun}
use Rattle.wg_types.specs.declared.commands.CommandOf.{CommandOf}
use Rattle.wg_trace.specs.declared.replies.Answer.{Answer}
use Rattle.wg_encoder.specs.Recorders.{RecorderValue, has_taken}
use Rattle.wg_script.specs.CallOf.{BoundCall}
use Rattle.wg_script.specs.declared.calls.CallOf.TheVariants.{Record, Ask, Canvas}
use Rattle.wg_names.specs.Uses.{made_of}
use Rattle.wg_names.specs.Bound.{made_by, made_in, CallIsBound, LaneIsBound}
use Rattle.wg_play.specs.declared.objects.Object.{Object}
use Rattle.wg_play.specs.declared.objects.Object.TheVariants as object
use Rattle.wg_history.specs.declared.events.Setup.{Setup}
use Rattle.wg_calls.specs.Encoders.{ended_by}
use Rattle.wg_play.specs.Objects.{recorder_at}
use Rattle.wg_play.specs.Sights.{Sight, place_in}
use Rattle.wg_play.specs.Found.{is_pass, has_recorder, StandsAt}
use Rattle.wg_play.specs.Late.{Answered, IsAnswerTo, IsAnsweredCall, after_call, after_calls, finishes}
use Rattle.wg_play.proofs.Following.{same_first, MakesAs}
use Rattle.wg_play.proofs.Holding.{call_stands, call_makes}
use Rattle.wg_play.proofs.Lateness.{or_false, Owns, call_keeps, call_leaves}
use Rattle.wg_play.proofs.Making.{call_length, canvas_no_encoder, encoder_made, pass_made, pass_begun}
use Rattle.wg_play.proofs.Places.{place_of_begin, is_encoder}
use Rattle.wg_play.proofs.Sending.{finish_own, makes_as}
use Rattle.wg_play.proofs.Numbered.{only, Slots, AreFrom, slots_of, first_from, from_back, made_more}

-- ---- what a call finishes was made by its own lane

abbrev IsBelow : ℕ → ℕ × Kind → Type 0
IsBelow count m = m.0 < count

abbrev IsAbove : ℕ → ℕ × Kind → Type 0
IsAbove first m = first ≤ m.0

pub call_owns : (first : ℕ) (made ours : Slots) (call : BoundCall) → All (IsAbove first) ours → CallIsBound made ours call → Owns first call
call_owns first made ours (Record on command slot) above bound = tt
call_owns first made ours (Ask request slot) above bound = λ encoder e. let ended = finish_own made ours request encoder bound e in All-contains (IsAbove first) ours (encoder, ended.kind) above ended.own
call_owns first made ours (Canvas call slot) above bound = tt

ended_unborn : (ended : Option ℕ) (count n : ℕ) → ((encoder : ℕ) → ended ≡ Some encoder → encoder < count) → count ≤ n → option_map_or (λ encoder. encoder == n) ended false ≡ false
ended_unborn None count n below from = refl
ended_unborn (Some encoder) count n below from = let less : encoder < count = below encoder refl in ne_eqb encoder n (λ e. absurd (omega (arith, less, from, e)))

call_unborn : (made ours : Slots) (count n : ℕ) (call : BoundCall) → All (IsBelow count) ours → count ≤ n → CallIsBound made ours call → finishes n call ≡ false
call_unborn made ours count n (Record on command slot) below from bound = refl
call_unborn made ours count n (Ask request slot) below from bound =
    ended_unborn (ended_by request) count n (λ encoder e. let ended = finish_own made ours request encoder bound e in All-contains (IsBelow count) ours (encoder, ended.kind) below ended.own) from
call_unborn made ours count n (Canvas call slot) below from bound = refl

-- ---- what a lane has made after some calls

-- an encoder of a kind, which has ended where one of the calls finishes it
pub record IsEncoder (first : ℕ) (own : List Object) (before : List BoundCall) (place : ℕ) (k : Kind) : Type 0 where
  pub recorder : RecorderValue
  pub is : recorder_at own place ≡ Some recorder
  pub stands : StandsAt own place k
  pub taken : has_taken recorder ≡ list_any (finishes (first + place)) before

-- a pass that was begun on a command encoder
pub record IsPass (first : ℕ) (own : List Object) (before : List BoundCall) (place : ℕ) : Type 0 where
  pub encoder : ℕ
  pub number : ℕ
  pub is : slice_get own place ≡ Some (object.Pass encoder number)
  pub holder : IsEncoder first own before encoder kind.Encoder
  pub begun : nat_lt number holder.recorder.passes ≡ true

pub record Stands (first : ℕ) (own : List Object) (before : List BoundCall) : Type 0 where
  pub below : All (IsBelow (first + length own)) (made_in before)
  pub above : All (IsAbove first) (made_in before)
  pub unborn : (n : ℕ) → first + length own ≤ n → list_any (finishes n) before ≡ false
  pub encoders : (slot : ℕ) (k : Kind) → has_recorder k ≡ true → Contains (made_in before) (slot, k) → IsEncoder first own before (slot - first) k
  pub passes : (slot : ℕ) (k : Kind) → is_pass k ≡ true → Contains (made_in before) (slot, k) → IsPass first own before (slot - first)

pub no_calls : (first : ℕ) → Stands first [] []
no_calls first = record {
  below = All-nil (IsBelow (first + 0));
  above = All-nil (IsAbove first);
  unborn = λ n from. refl;
  encoders = λ slot k p there. absurd (omega (arith, there.1));
  passes = λ slot k p there. absurd (omega (arith, there.1));
}

finished_more : (before : List BoundCall) (call : BoundCall) (n : ℕ) → list_any (finishes n) (before ++ call ∷ []) ≡ list_any (finishes n) before || finishes n call
finished_more before call n = list_any-append (finishes n) before (call ∷ []) ∙ ap (λ b. list_any (finishes n) before || b) (or_false (finishes n call))

-- ---- one more call

encoder_after : (setup : Setup) (sight : Sight) (before : List BoundCall) (call : BoundCall) (answer : Answer) (place : ℕ) (k : Kind) → Owns sight.first call → IsEncoder sight.first sight.own before place k
    → IsEncoder sight.first (after_call setup sight (call, answer)).own (before ++ call ∷ []) place k
encoder_after setup sight before call answer place k owns was =
    let kept = call_keeps setup sight call answer place was.recorder owns was.is in
    record {
      recorder = kept.recorder;
      is = kept.is;
      stands = call_stands setup sight call answer place k was.stands;
      taken = kept.taken ∙ (ap (λ b. b || finishes (sight.first + place) call) was.taken ∙ sym (finished_more before call (sight.first + place)));
    }

more_begun : (number old new : ℕ) → nat_lt number old ≡ true → old ≤ new → nat_lt number new ≡ true
more_begun number old new begun more = grind (arith, nat_tests, begun, more)

pass_after : (setup : Setup) (sight : Sight) (before : List BoundCall) (call : BoundCall) (answer : Answer) (place : ℕ) → Owns sight.first call → IsPass sight.first sight.own before place
    → IsPass sight.first (after_call setup sight (call, answer)).own (before ++ call ∷ []) place
unfolding encoder_after
pass_after setup sight before call answer place owns was =
    let kept = call_keeps setup sight call answer was.encoder was.holder.recorder owns was.holder.is in
    record {
      encoder = was.encoder;
      number = was.number;
      is = call_leaves setup sight call answer place was.encoder was.number was.is;
      holder = encoder_after setup sight before call answer was.encoder kind.Encoder owns was.holder;
      begun = more_begun was.number was.holder.recorder.passes kept.recorder.passes was.begun kept.passes;
    }

-- no call has finished the encoder that is made
encoder_first : (setup : Setup) (sight : Sight) (made : Slots) (before : List BoundCall) (call : BoundCall) (answer : Answer) (slot : ℕ) (k : Kind) → has_recorder k ≡ true → Stands sight.first sight.own before
    → CallIsBound made (made_in before) call → IsAnswerTo call answer → slot ≡ sight.first + length sight.own → made_of call ≡ Some (slot, k)
    → IsEncoder sight.first (after_call setup sight (call, answer)).own (before ++ call ∷ []) (slot - sight.first) k
encoder_first setup sight made before call answer slot k p was bound answered here makes =
    let own : List Object = (after_call setup sight (call, answer)).own in
    let fit : MakesAs sight call = makes_as sight made (made_in before) call (λ n x q there. (was.encoders n x q there).stands)
    (λ asked name is. absurd (canvas_no_encoder asked name slot k p (sym (ap (λ (c : BoundCall). made_of c) is) ∙ makes))) bound in
    let fresh = encoder_made setup sight call answer slot k p answered fit makes in
    let place : length sight.own ≡ slot - sight.first = omega (arith, here) in
    let again : sight.first + (slot - sight.first) ≡ slot = omega (arith, here) in
    let from : sight.first + length sight.own ≤ slot = omega (arith, here) in
    let unborn : list_any (finishes slot) (before ++ call ∷ []) ≡ false
    = finished_more before call slot ∙ ap₂ (λ a b. a || b) (was.unborn slot from) (call_unborn made (made_in before) (sight.first + length sight.own) slot call was.below from bound) in
    record {
      recorder = fresh.recorder;
      is = ap (λ n. recorder_at own n) (sym place) ∙ fresh.is;
      stands = subst (λ n. StandsAt own n k) place (call_makes setup sight call answer slot k answered fit makes);
      taken = fresh.unended ∙ sym (ap (λ n. list_any (finishes n) (before ++ call ∷ [])) again ∙ unborn);
    }

pass_on : (setup : Setup) (sight : Sight) (before : List BoundCall) (on made slot : ℕ) (command : CommandOf ℕ) (answer : Answer) (k : Kind) → IsEncoder sight.first sight.own before (place_in sight on) kind.Encoder
    → slot ≡ sight.first + length sight.own → kind_begun command ≡ Some k
    → IsPass sight.first (after_call setup sight (Record on command (Some made), answer)).own (before ++ Record on command (Some made) ∷ []) (slot - sight.first)
pass_on setup sight before on made slot command answer k holder here begins =
    let own : List Object = (after_call setup sight (Record on command (Some made), answer)).own in
    let new = pass_begun setup sight on made command answer holder.recorder k holder.is begins in
    let place : length sight.own ≡ slot - sight.first = omega (arith, here) in
    let encoder : ℕ = place_in sight on in
    record {
      encoder = encoder;
      number = holder.recorder.passes;
      is = ap (λ n. slice_get own n) (sym place) ∙ new.is;
      holder = record {
        recorder = new.recorder;
        is = new.recorder_is;
        stands = call_stands setup sight (Record on command (Some made)) answer encoder kind.Encoder holder.stands;
        taken = new.taken ∙ (holder.taken ∙ sym (finished_more before (Record on command (Some made)) (sight.first + encoder) ∙ or_false (list_any (finishes (sight.first + encoder)) before)));
      };
      begun = new.begun;
    }

-- the encoder on which a pass is begun is the lane's own
pub begun_on : (first : ℕ) (own : List Object) (made : Slots) (before : List BoundCall) (on : ℕ) (command : CommandOf ℕ) (slot : Option ℕ) → Stands first own before → CallIsBound made (made_in before) (Record on command slot)
    → place_wanted command ≡ wanted.Encoder → IsEncoder first own before (on - first) kind.Encoder
begun_on first own made before on command slot was bound place =
    was.encoders on kind.Encoder refl (subst (λ k. Contains (made_in before) (on, k)) (is_encoder bound.place (ap (λ w. admits w bound.place) (sym place) ∙ bound.takes)) bound.own)

pass_first : (setup : Setup) (sight : Sight) (made : Slots) (before : List BoundCall) (call : BoundCall) (answer : Answer) (slot : ℕ) (k : Kind) → is_pass k ≡ true → Stands sight.first sight.own before
    → CallIsBound made (made_in before) call → slot ≡ sight.first + length sight.own → made_of call ≡ Some (slot, k)
    → IsPass sight.first (after_call setup sight (call, answer)).own (before ++ call ∷ []) (slot - sight.first)
pass_first setup sight made before call answer slot k p was bound here makes =
    let begins = pass_made call slot k p makes in
    let holder = begun_on sight.first sight.own made before begins.on begins.command (Some begins.slot) was (subst (λ c. CallIsBound made (made_in before) c) begins.is bound) (place_of_begin begins.command begins.kind begins.kind_is) in
    subst (λ c. IsPass sight.first (after_call setup sight (c, answer)).own (before ++ c ∷ []) (slot - sight.first)) (sym begins.is)
    (pass_on setup sight before begins.on begins.slot slot begins.command answer begins.kind holder here begins.kind_is)

below_more : (made : Slots) (found : Option (ℕ × Kind)) (old new : ℕ) → All (IsBelow old) made → new ≡ old + length (option_to_list found) → ((m : ℕ × Kind) → found ≡ Some m → m.0 ≡ old)
    → All (IsBelow new) (made ++ option_to_list found)
below_more [] None old new below count here = All-nil (IsBelow new)
below_more [] (Some x) old new below count here =
    let e : x.0 ≡ old = here x refl in
    All-cons (IsBelow new) x [] (omega (arith, e, count)) (All-nil (IsBelow new))
below_more (x ∷ made) found old new below count here =
    let less : x.0 < old = All-head (IsBelow old) x made below in
    All-cons (IsBelow new) x (made ++ option_to_list found) (omega (arith, less, count)) (below_more made found old new (All-tail (IsBelow old) x made below) count here)

above_more : (made : Slots) (found : Option (ℕ × Kind)) (first old : ℕ) → first ≤ old → All (IsAbove first) made → ((m : ℕ × Kind) → found ≡ Some m → m.0 ≡ old) → All (IsAbove first) (made ++ option_to_list found)
above_more [] None first old from above here = All-nil (IsAbove first)
above_more [] (Some x) first old from above here = let e : x.0 ≡ old = here x refl in All-cons (IsAbove first) x [] (omega (arith, e, from)) (All-nil (IsAbove first))
above_more (x ∷ made) found first old from above here =
    All-cons (IsAbove first) x (made ++ option_to_list found) (All-head (IsAbove first) x made above) (above_more made found first old from (All-tail (IsAbove first) x made above) here)

one_more : (setup : Setup) (sight : Sight) (made : Slots) (before : List BoundCall) (call : BoundCall) (answer : Answer) → Stands sight.first sight.own before → CallIsBound made (made_in before) call → IsAnswerTo call answer
    → ((m : ℕ × Kind) → made_of call ≡ Some m → m.0 ≡ sight.first + length sight.own) → Stands sight.first (after_call setup sight (call, answer)).own (before ++ call ∷ [])
one_more setup sight made before call answer was bound answered here =
    let own : List Object = (after_call setup sight (call, answer)).own in
    let old : ℕ = sight.first + length sight.own in
    let length_is : length own ≡ length sight.own + length (made_by call) = call_length setup sight call answer answered in
    let grown : sight.first + length own ≡ old + length (made_by call) = omega (arith, length_is) in
    let from : sight.first ≤ old = omega arith in
    let owns = call_owns sight.first made (made_in before) call was.above bound in
    let new_made : made_in (before ++ call ∷ []) ≡ made_in before ++ made_by call = made_more before call in
    record {
      below = subst (λ ms. All (IsBelow (sight.first + length own)) ms) (sym new_made) (below_more (made_in before) (made_of call) old (sight.first + length own) was.below grown here);
      above = subst (λ ms. All (IsAbove sight.first) ms) (sym new_made) (above_more (made_in before) (made_of call) sight.first old from was.above here);
      unborn = λ n there. (
          let less : old ≤ n = omega (arith, there, grown) in
          finished_more before call n ∙ ap₂ (λ a b. a || b) (was.unborn n less) (call_unborn made (made_in before) old n call was.below less bound));
      encoders = λ slot k p there. elim (Contains-append_cases (made_in before) (made_by call) (slot, k) (subst (λ ms. Contains ms (slot, k)) new_made there)) [
        | inl earlier ↦ encoder_after setup sight before call answer (slot - sight.first) k owns (was.encoders slot k p earlier)
        | inr new ↦ let makes : made_of call ≡ Some (slot, k) = only (made_of call) (slot, k) new in
            encoder_first setup sight made before call answer slot k p was bound answered (here (slot, k) makes) makes
      ];
      passes = λ slot k p there. elim (Contains-append_cases (made_in before) (made_by call) (slot, k) (subst (λ ms. Contains ms (slot, k)) new_made there)) [
        | inl earlier ↦ pass_after setup sight before call answer (slot - sight.first) owns (was.passes slot k p earlier)
        | inr new ↦ let makes : made_of call ≡ Some (slot, k) = only (made_of call) (slot, k) new in
            pass_first setup sight made before call answer slot k p was bound (here (slot, k) makes) makes
      ];
    }

-- ---- calls one after another

pub all_after : (setup : Setup) (made : Slots) (calls : List Answered) (before : List BoundCall) (sight : Sight) → Stands sight.first sight.own before → All IsAnsweredCall calls
    → LaneIsBound made (made_in before) (map (λ call. call.0) calls) → AreFrom (sight.first + length sight.own) (slots_of (made_in (map (λ call. call.0) calls)))
    → Stands (after_calls setup sight calls).first (after_calls setup sight calls).own (before ++ map (λ call. call.0) calls)
all_after setup made [] before sight was answered bound from = subst (λ cs. Stands sight.first sight.own cs) (sym (append-nil before)) was
all_after setup made (call ∷ calls) before sight was answered bound from =
    let after : Sight = after_call setup sight call in
    let here : IsAnsweredCall call = All-head IsAnsweredCall call calls answered in
    let rest : List BoundCall = map (λ (c : Answered). c.0) calls in
    let first_is : after.first ≡ sight.first = same_first setup sight call.0 call.1 in
    let length_is : length after.own ≡ length sight.own + length (made_by call.0) = call_length setup sight call.0 call.1 here in
    let grown : (sight.first + length sight.own) + length (made_by call.0) ≡ after.first + length after.own = omega (arith, first_is, length_is) in
    subst (λ cs. Stands (after_calls setup after calls).first (after_calls setup after calls).own cs) (append_assoc before (call.0 ∷ []) rest)
    (all_after setup (made ++ made_by call.0) calls (before ++ call.0 ∷ []) after
    (subst (λ n. Stands n after.own (before ++ call.0 ∷ [])) (sym first_is)
    (one_more setup sight made before call.0 call.1 was bound.0 here (first_from (sight.first + length sight.own) (made_of call.0) (made_in rest) from)))
    (All-tail IsAnsweredCall call calls answered)
    (subst (λ ms. LaneIsBound (made ++ made_by call.0) ms rest) (sym (made_more before call.0)) bound.1)
    (subst (λ n. AreFrom n (slots_of (made_in rest))) grown (from_back (sight.first + length sight.own) (made_by call.0) (made_in rest) from)))
