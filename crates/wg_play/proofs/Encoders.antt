-- The encoder of a recording call is the one on which, by the calls before it, its pass was begun.
use Rattle.std.proofs.Common.{◌≡◌, ℕ, zero, suc, ◌+◌, ◌-◌, ◌<◌, ◌≤◌, ◌==◌, ◌&&◌, Bool, true, false, Option, Some, None, is_some, List, [], ◌∷◌, ◌++◌, length, map, get_or, refl, ap, ap₂, sym, ◌∙◌, subst, inl, inr, arith, append_assoc, append-nil, if◌then◌else◌}
use Rattle.std.specs.Prelude.{All, Contains, unwrap_or, slice_get}
use Rattle.std.specs.Option.{option_map_or, option_to_list}
use Rattle.std.proofs.lemmas.Bool.{eqb-true, eq-eqb}
use Rattle.std.proofs.lemmas.List.Concat.{flat_map-append}
use Rattle.std.proofs.lemmas.List.Elements.{All-nil, All-cons, All-head, All-tail, Contains-append_left, Contains-append_right}
use Rattle.wg_types.specs.Commands.{bracket, kind_begun}
use Rattle.wg_types.specs.declared.commands.CommandOf.{CommandOf}
use Rattle.wg_types.specs.declared.wanted.Kind.{Kind}
use Rattle.wg_history.specs.declared.events.Setup.{Setup}
use Rattle.wg_script.specs.CallOf.{BoundCall}
use Rattle.wg_script.specs.declared.calls.CallOf.TheVariants.{Record, Ask, Canvas}
use Rattle.wg_names.specs.Uses.{made_as, made_of}
use Rattle.wg_names.specs.Bound.{made_by, made_in, CallIsBound, LaneIsBound}
use Rattle.wg_play.specs.declared.objects.Object.{Object}
use Rattle.wg_play.specs.declared.objects.Object.TheVariants as object
use Rattle.wg_play.specs.declared.objects.Stand.{Stand}
use Rattle.wg_play.specs.Sights.{Sight, place_in}
use Rattle.wg_play.specs.Lanes.{stand_seen}
use Rattle.wg_play.specs.Late.{Answered, IsAnsweredCall, after_call, after_calls, begun_as, encoder_of}
use Rattle.wg_play.specs.Found.{has_recorder}
use Rattle.wg_play.specs.Played.{PlayedCall, calls_in, with_answer}
use Rattle.wg_play.proofs.Slots.{stand_encoder, stand_pass}
use Rattle.wg_play.proofs.Places.{place_of_begin, stands_on}
use Rattle.wg_play.proofs.Making.{no_encoder, pass_made, pass_begun}
use Rattle.wg_play.proofs.Lateness.{call_leaves}
use Rattle.wg_play.proofs.LateLaw.{first_after}
use Rattle.wg_play.proofs.Numbered.{Slots, AreFrom, slots_of, first_from, from_front, from_back, call_in, lane_front}
use Rattle.wg_play.proofs.Finished.{Stands, no_calls, begun_on, all_after as all_stand}
use Rattle.wg_play.proofs.FoundLaw.{at_least, below}
use Rattle.wg_play.proofs.Makers.{lane_same, calls_more, new_contains, made_among, lane_length}

-- ---- what calls make, and which passes they begin

one_begun : (found : Option Kind) (b : Bool) (made slot on e : ℕ) → (made == slot) ≡ b → (if is_some found && b then Some on else None) ≡ Some e
    → (k : Kind) × (made_as (Some made) found ≡ Some (slot, k))
one_begun None b made slot on e is h = absurd (cc (h))
one_begun (Some k) true made slot on e is h = (k, subst (λ n. made_as (Some made) (Some k) ≡ Some (n, k)) (eqb-true made slot is) refl)
one_begun (Some k) false made slot on e is h = absurd (cc (h))

-- a call that begins a pass as a slot makes it
begun_made : (call : BoundCall) (slot e : ℕ) → begun_as slot call ≡ Some e → (k : Kind) × (made_of call ≡ Some (slot, k))
begun_made (Record on command None) slot e h = absurd (cc (h))
begun_made (Record on command (Some made)) slot e h = one_begun (kind_begun command) (made == slot) made slot on e refl h
begun_made (Ask request made) slot e h = absurd (cc (h))
begun_made (Canvas call made) slot e h = absurd (cc (h))

begun_here : (on slot : ℕ) (command : CommandOf ℕ) (k : Kind) → kind_begun command ≡ Some k → begun_as slot (Record on command (Some slot)) ≡ Some on
begun_here on slot command k e = ap₂ (λ (o : Option Kind) (b : Bool). if is_some o && b then Some on else None) e (eq-eqb slot slot refl)

encoder_not_begun : (call : BoundCall) (slot : ℕ) (k : Kind) → has_recorder k ≡ true → made_of call ≡ Some (slot, k) → begun_as slot call ≡ None
encoder_not_begun (Record on command None) slot k p e = refl
encoder_not_begun (Record on command (Some made)) slot k p e = absurd (no_encoder (bracket command) made slot k p e)
encoder_not_begun (Ask request made) slot k p e = refl
encoder_not_begun (Canvas call made) slot k p e = refl

abbrev NotMade : List BoundCall → ℕ → Type 0
NotMade calls slot = (k : Kind) → Contains (made_in calls) (slot, k) → ⊥

not_begun : (call : BoundCall) (slot : ℕ) (found : Option ℕ) → begun_as slot call ≡ found → ((k : Kind) → Contains (made_by call) (slot, k) → ⊥)
    → begun_as slot call ≡ None
not_begun call slot None is none = is
not_begun call slot (Some e) is none = let made = begun_made call slot e is in absurd (none made.0 (new_contains (made_of call) (slot, made.0) made.1))

none_begun : (calls rest : List BoundCall) (slot : ℕ) → NotMade calls slot → encoder_of (calls ++ rest) slot ≡ encoder_of rest slot
none_begun [] rest slot none = refl
none_begun (call ∷ calls) rest slot none =
    ap (λ (o : Option ℕ). unwrap_or o (encoder_of (calls ++ rest) slot))
    (not_begun call slot (begun_as slot call) refl (λ k there. none k (Contains-append_left (made_by call) (made_in calls) (slot, k) there)))
    ∙ none_begun calls rest slot (λ k there. none k (Contains-append_right (made_by call) (made_in calls) (slot, k) there))

-- ---- a list at one of its elements

abbrev Split : {X : Type 0} → List X → X → Type 0
Split {X} xs x = (a : List X) × (b : List X) × (xs ≡ a ++ x ∷ b)

split_by : {X : Type 0} (xs : List X) (x : X) (k : ℕ) → k < length xs → get_or xs k x ≡ x → Split xs x
split_by [] x k less is = absurd (omega (arith, less))
split_by (y ∷ xs) x zero less is = ([], xs, ap (λ z. z ∷ xs) is)
split_by (y ∷ xs) x (suc k) less is =
    let rest = split_by xs x k (omega (arith, less)) is in
    (y ∷ rest.0, rest.1, ap (λ zs. y ∷ zs) rest.2)

-- ---- what calls leave

pass_stays : (setup : Setup) (calls : List Answered) (sight : Sight) (place encoder number : ℕ) → slice_get sight.own place ≡ Some (object.Pass encoder number)
    → slice_get (after_calls setup sight calls).own place ≡ Some (object.Pass encoder number)
pass_stays setup [] sight place encoder number is = is
pass_stays setup (call ∷ calls) sight place encoder number is =
    pass_stays setup calls (after_call setup sight call) place encoder number (call_leaves setup sight call.0 call.1 place encoder number is)

after_split : (setup : Setup) (a : List PlayedCall) (call : PlayedCall) (b : List PlayedCall) (sight : Sight)
    → after_calls setup sight (map with_answer (a ++ call ∷ b))
    ≡ after_calls setup (after_call setup (after_calls setup sight (map with_answer a)) (with_answer call)) (map with_answer b)
after_split setup [] call b sight = refl
after_split setup (first ∷ a) call b sight = after_split setup a call b (after_call setup sight (with_answer first))

all_before : (P : Answered → Type 0) (a : List PlayedCall) (rest : List PlayedCall) → All P (map with_answer (a ++ rest)) → All P (map with_answer a)
all_before P [] rest all = All-nil P
all_before P (call ∷ a) rest all =
    All-cons P (with_answer call) (map with_answer a) (All-head P (with_answer call) (map with_answer (a ++ rest)) all)
    (all_before P a rest (All-tail P (with_answer call) (map with_answer (a ++ rest)) all))

-- ---- the encoder of a call

abbrev begin_at : List Object → ℕ → Sight
begin_at others first = record { others = others; first = first; own = [] }

abbrev sight_with : Setup → List Object → ℕ → List PlayedCall → Sight
sight_with setup others first calls = after_calls setup (begin_at others first) (map with_answer calls)

lane_stands : (setup : Setup) (others : List Object) (first : ℕ) (visible : Slots) (calls : List PlayedCall) (rest : List BoundCall)
    → LaneIsBound visible [] (calls_in calls ++ rest)
    → AreFrom first (slots_of (made_in (calls_in calls))) → All IsAnsweredCall (map with_answer calls)
    → Stands (sight_with setup others first calls).first (sight_with setup others first calls).own (calls_in calls)
lane_stands setup others first visible calls rest bound numbers answered =
    let sight : Sight = sight_with setup others first calls in
    let same : map (λ (c : Answered). c.0) (map with_answer calls) ≡ calls_in calls = lane_same calls in
    let zero_is : first ≡ first + 0 = omega arith in
    subst (λ (cs : List BoundCall). Stands sight.first sight.own cs) same
    (all_stand setup visible (map with_answer calls) [] (begin_at others first) (no_calls first) answered
    (subst (λ (cs : List BoundCall). LaneIsBound visible [] cs) (sym same) (lane_front visible [] (calls_in calls) rest bound))
    (subst (λ (cs : List BoundCall). AreFrom (first + 0) (slots_of (made_in cs))) (sym same)
    (subst (λ n. AreFrom n (slots_of (made_in (calls_in calls)))) zero_is numbers)))

-- a slot that one of some calls makes: what is made before it has lower slots, and what is made after it has higher ones
record MadeOnce (first : ℕ) (calls : List BoundCall) (slot : ℕ) (front : List BoundCall) (call : BoundCall) (back : List BoundCall) : Type 0 where
  numbers : AreFrom first (slots_of (made_in front))
  here : slot ≡ first + length (made_in front)
  before : NotMade front slot
  after : NotMade back slot

made_once : (first : ℕ) (front : List BoundCall) (call : BoundCall) (back : List BoundCall) (slot : ℕ) (k : Kind)
    → AreFrom first (slots_of (made_in (front ++ call ∷ back))) → made_of call ≡ Some (slot, k)
    → MadeOnce first (front ++ call ∷ back) slot front call back
made_once first front call back slot k numbers makes =
    let parts : made_in (front ++ call ∷ back) ≡ made_in front ++ (made_by call ++ made_in back) = flat_map-append made_by front (call ∷ back) in
    let all : AreFrom first (slots_of (made_in front ++ (made_by call ++ made_in back)))
    = subst (λ (ms : Slots). AreFrom first (slots_of ms)) parts numbers in
    let low : AreFrom first (slots_of (made_in front)) = from_front first (made_in front) (made_by call ++ made_in back) all in
    let rest : AreFrom (first + length (made_in front)) (slots_of (made_by call ++ made_in back))
    = from_back first (made_in front) (made_by call ++ made_in back) all in
    let here : slot ≡ first + length (made_in front) = first_from (first + length (made_in front)) (made_of call) (made_in back) rest (slot, k) makes in
    let one : length (made_by call) ≡ 1 = ap (λ (o : Option (ℕ × Kind)). length (option_to_list o)) makes in
    let high : AreFrom ((first + length (made_in front)) + length (made_by call)) (slots_of (made_in back))
    = from_back (first + length (made_in front)) (made_by call) (made_in back) rest in
    record {
      numbers = low;
      here = here;
      before = λ x there. (let less : slot < first + length (made_in front) = below first (made_in front) slot x low there in absurd
          (omega (arith, less, here)));
      after = λ x there. (let from : (first + length (made_in front)) + length (made_by call) ≤ slot = at_least
          ((first + length (made_in front)) + length (made_by call)) (made_in back) slot x high there in
          absurd (omega (arith, from, here, one)));
    }

begun_slot : (call : BoundCall) (e slot : ℕ) (command : CommandOf ℕ) (k : Kind) (on : ℕ) (place : Kind) → call ≡ Record e command (Some slot)
    → kind_begun command ≡ Some k → made_of call ≡ Some (on, place) → slot ≡ on
begun_slot call e slot command k on place is begins makes =
    let new : Option (ℕ × Kind) = made_as (Some slot) (Some k) in
    let same : new ≡ Some (on, place) = sym (ap (λ (c : BoundCall). made_of c) is ∙ ap (λ (o : Option Kind). made_as (Some slot) o) begins) ∙ makes in
    ap (λ (o : Option (ℕ × Kind)). option_map_or (λ (m : ℕ × Kind). m.0) o 0) same

-- where some object stands that an earlier call has made: on an encoder itself
stand_of_encoder : (setup : Setup) (others : List Object) (first : ℕ) (before : List PlayedCall) (on : ℕ) (k : Kind) → has_recorder k ≡ true → let sight = sight_with setup others first before in
    Stands sight.first sight.own (calls_in before) → first ≤ on → Contains (made_in (calls_in before)) (on, k) → first +
    (stand_seen sight on).encoder ≡ on
stand_of_encoder setup others first before on k p stands from own =
    let sight : Sight = sight_with setup others first before in
    let same : sight.first ≡ first = first_after setup (map with_answer before) (begin_at others first) in
    let found = stands.encoders on k p own in
    let stand_is : (stand_seen sight on).encoder ≡ on - sight.first
    = ap (λ (s : Stand). s.encoder) (stand_encoder sight.own (on - sight.first) found.recorder found.is) in
    omega (arith, stand_is, same, from)

-- or on a pass of the encoder on which that was begun
record BegunAt (setup : Setup) (others : List Object) (first : ℕ) (front : List PlayedCall) (call : PlayedCall) (e : ℕ) : Type 0 where
  number : ℕ
  is : slice_get (after_call setup (sight_with setup others first front) (with_answer call)).own (length (sight_with setup others first front).own)
      ≡ Some (object.Pass (place_in (sight_with setup others first front) e) number)

begun_at : (setup : Setup) (others : List Object) (first : ℕ) (front : List PlayedCall) (call : PlayedCall) (visible : Slots) (e slot : ℕ)
    (command : CommandOf ℕ) (k : Kind) → call.0 ≡ Record e command (Some slot)
    → kind_begun command ≡ Some k → CallIsBound visible (made_in (calls_in front)) call.0
    → Stands (sight_with setup others first front).first (sight_with setup others first front).own (calls_in front)
    → BegunAt setup others first front call e
begun_at setup others first front call visible e slot command k is begins bound stands =
    let sight : Sight = sight_with setup others first front in
    let there : CallIsBound visible (made_in (calls_in front)) (Record e command (Some slot))
    = subst (λ (c : BoundCall). CallIsBound visible (made_in (calls_in front)) c) is bound in
    let holder = begun_on sight.first sight.own visible (calls_in front) e command (Some slot) stands there (place_of_begin command k begins) in
    let new = pass_begun setup sight e slot command (with_answer call).1 holder.recorder k holder.is begins in
    record {
      number = holder.recorder.passes;
      is = subst (λ (c : BoundCall). slice_get (after_call setup sight (c, (with_answer call).1)).own (length sight.own) ≡ Some
          (object.Pass (place_in sight e) holder.recorder.passes)) (sym is) new.is;
    }

pub encoder_is : (setup : Setup) (others : List Object) (first : ℕ) (visible : Slots) (before : List PlayedCall) (on : ℕ) (command : CommandOf ℕ)
    (made : Option ℕ) (after : List BoundCall)
    → LaneIsBound visible [] (calls_in before ++ Record on command made ∷ after) → AreFrom first (slots_of (made_in (calls_in before)))
    → All IsAnsweredCall (map with_answer before)
    → first + (stand_seen (sight_with setup others first before) on).encoder ≡ encoder_of (calls_in before) on
encoder_is setup others first visible before on command made after bound numbers answered =
    let sight : Sight = sight_with setup others first before in
    let ours : Slots = made_in (calls_in before) in
    let here = call_in visible [] (calls_in before) (Record on command made) after bound in
    let from : first ≤ on = at_least first ours on here.place numbers here.own in
    let maker = made_among before (on, here.place) here.own in
    let split = split_by before maker.maker maker.is_there.0 maker.is_there.1 maker.is_there.2 in
    let front : List PlayedCall = split.0 in
    let back : List PlayedCall = split.1 in
    let call : PlayedCall = maker.maker in
    let calls : calls_in before ≡ calls_in front ++ call.0 ∷ calls_in back
    = ap (λ (cs : List PlayedCall). calls_in cs) split.2 ∙ calls_more front (call ∷ back) in
    let once = made_once first (calls_in front) call.0 (calls_in back) on here.place
    (subst (λ (cs : List BoundCall). AreFrom first (slots_of (made_in cs))) calls numbers) maker.makes in
    let found : encoder_of (calls_in before) on ≡ unwrap_or (begun_as on call.0) (encoder_of (calls_in back) on)
    = ap (λ (cs : List BoundCall). encoder_of cs on) calls ∙ none_begun (calls_in front) (call.0 ∷ calls_in back) on once.before in
    elim (stands_on command here.place here.takes) [
      | inl encoder ↦
          let stands = lane_stands setup others first visible before (Record on command made ∷ after) bound numbers answered in
          let none : begun_as on call.0 ≡ None = encoder_not_begun call.0 on here.place encoder maker.makes in
          let last : encoder_of (calls_in back) on ≡ on = ap (λ (cs : List BoundCall). encoder_of cs on) (sym (append-nil (calls_in back))) ∙ none_begun
          (calls_in back) [] on once.after in
          stand_of_encoder setup others first before on here.place encoder stands from here.own ∙ sym
          (found ∙ (ap (λ (o : Option ℕ). unwrap_or o (encoder_of (calls_in back) on)) none ∙ last))
      | inr pass ↦
          let begin = pass_made call.0 on here.place pass maker.makes in
          let slot_is : begin.slot ≡ on = begun_slot call.0 begin.on begin.slot begin.command begin.kind on here.place begin.is begin.kind_is maker.makes in
          let e : ℕ = begin.on in
          let begun : begun_as on call.0 ≡ Some e
          = ap (λ (c : BoundCall). begun_as on c) begin.is ∙
          (ap (λ n. begun_as on (Record e begin.command (Some n))) slot_is ∙ begun_here e on begin.command begin.kind begin.kind_is) in
          let lane : LaneIsBound visible [] (calls_in front ++ call.0 ∷ (calls_in back ++ Record on command made ∷ after))
          = subst (λ (cs : List BoundCall). LaneIsBound visible [] cs)
          (ap (λ (cs : List BoundCall). cs ++ Record on command made ∷ after) calls ∙ append_assoc (calls_in front) (call.0 ∷ calls_in back)
          (Record on command made ∷ after)) bound in
          let all_answered : All IsAnsweredCall (map with_answer (front ++ call ∷ back))
          = subst (λ (cs : List PlayedCall). All IsAnsweredCall (map with_answer cs)) split.2 answered in
          let front_answered : All IsAnsweredCall (map with_answer front) = all_before IsAnsweredCall front (call ∷ back) all_answered in
          let stands = lane_stands setup others first visible front
          (call.0 ∷ (calls_in back ++ Record on command made ∷ after)) lane once.numbers front_answered in
          let bound_there = call_in visible [] (calls_in front) call.0 (calls_in back ++ Record on command made ∷ after) lane in
          let new = begun_at setup others first front call
          (visible ++ made_in (calls_in front)) e begin.slot begin.command begin.kind begin.is begin.kind_is bound_there stands in
          let old : Sight = sight_with setup others first front in
          let old_first : old.first ≡ first = first_after setup (map with_answer front) (begin_at others first) in
          let first_is : sight.first ≡ first = first_after setup (map with_answer before) (begin_at others first) in
          let count = lane_length setup front (begin_at others first) front_answered in
          let slot_here : on ≡ first + length (made_in (calls_in front)) = once.here in
          let place : length old.own ≡ on - sight.first = omega (arith, count, first_is, slot_here) in
          let whole : sight ≡ after_calls setup (after_call setup old (with_answer call)) (map with_answer back)
          = ap (λ (cs : List PlayedCall). sight_with setup others first cs) split.2 ∙ after_split setup front call back (begin_at others first) in
          let there : slice_get sight.own (on - sight.first) ≡ Some (object.Pass (place_in old e) new.number)
          = subst (λ n. slice_get sight.own n ≡ Some (object.Pass (place_in old e) new.number)) place
          (ap (λ (s : Sight). slice_get s.own (length old.own)) whole ∙ pass_stays setup (map with_answer back) (after_call setup old (with_answer call))
          (length old.own) (place_in old e) new.number new.is) in
          let stand_is : (stand_seen sight on).encoder ≡ e - old.first
          = ap (λ (s : Stand). s.encoder) (stand_pass sight.own (on - sight.first) (place_in old e) new.number there) in
          let on_bound : CallIsBound (visible ++ made_in (calls_in front)) (made_in (calls_in front)) (Record e begin.command (Some begin.slot))
          = subst (λ (c : BoundCall). CallIsBound (visible ++ made_in (calls_in front)) (made_in (calls_in front)) c) begin.is bound_there in
          let low : first ≤ e = at_least first (made_in (calls_in front)) e on_bound.place once.numbers on_bound.own in
          let sum : first + (stand_seen sight on).encoder ≡ e = omega (arith, stand_is, old_first, low) in
          sum ∙ sym (found ∙ ap (λ (o : Option ℕ). unwrap_or o (encoder_of (calls_in back) on)) begun)
    ]
