-- In a lane of a bound script a recording call is late exactly where a call before it finishes its encoder, or its pass has ended.
use Rattle.std.proofs.Common.{◌≡◌, ℕ, ◌+◌, ◌-◌, not, Bool, true, false, ◌||◌, Some, List, [], ◌∷◌, ◌++◌, map, refl, sym, ap, ap₂, subst, ◌∙◌, inl, inr, arith}
use Rattle.std.specs.Prelude.{Contains}
use Rattle.std.specs.Option.{option_map_or}
use Rattle.std.specs.List.{flat_map, list_any}
use Rattle.std.proofs.lemmas.List.Concat.{flat_map-append}
use Rattle.wg_types.specs.declared.wanted.Kind.{Kind}
use Rattle.wg_types.specs.Wanted.{admits}
use Rattle.wg_types.specs.Commands.{place_wanted}
use Rattle.wg_types.specs.declared.commands.CommandOf.{CommandOf}
use Rattle.wg_types.specs.declared.commands.On.{On}
use Rattle.wg_types.specs.declared.commands.On.TheVariants.{Encoder, Pass}
use Rattle.wg_encoder.specs.Recorders.{RecorderValue, has_taken, pass_ended as ended_within}
use Rattle.wg_script.specs.CallOf.{BoundCall}
use Rattle.wg_script.specs.declared.calls.CallOf.TheVariants.{Record}
use Rattle.wg_names.specs.Bound.{made_by, made_in, LaneIsBound}
use Rattle.wg_play.specs.declared.objects.Object.{Object}
use Rattle.wg_play.specs.declared.objects.Stand.{Stand}
use Rattle.wg_history.specs.declared.events.Setup.{Setup}
use Rattle.wg_calls.specs.Encoders.{is_begun}
use Rattle.wg_play.specs.Objects.{recorder_at, stand_at, is_late_by, is_late_on}
use Rattle.wg_play.specs.Sights.{Sight}
use Rattle.wg_play.specs.Lanes.{stand_seen}
use Rattle.wg_play.specs.Late.{Answered, after_calls, slots_before, finishes, stands_on_ended, has_pass_ended, LateIsFinished}
use Rattle.wg_play.proofs.Slots.{stand_encoder, stand_pass}
use Rattle.wg_play.proofs.Following.{same_first}
use Rattle.wg_play.proofs.Places.{stands_on}
use Rattle.wg_play.proofs.Numbered.{Slots, AreFrom, slots_of, from_front, lane_in, lane_from, call_in, lane_front}
use Rattle.wg_play.proofs.Finished.{IsEncoder, IsPass, Stands, no_calls, all_after}

-- an end of the encoder and an end of the pass are both found in the recorder
late_of : (on : On) (r : RecorderValue) (finished : Bool) → has_taken r ≡ finished → is_begun on r.passes ≡ true → is_late_by on r ≡ finished || stands_on_ended on (Some r)
late_of Encoder r finished taken begun = ap (λ b. b || false) taken
late_of (Pass number) r finished taken begun = ap₂ (λ a b. not a || (b || ended_within r.targets r.commands number)) begun taken

abbrev LateAt : ℕ → List Object → List BoundCall → Stand → Type 0
LateAt first own before stand = is_late_on own stand ≡ list_any (finishes (first + stand.encoder)) before || has_pass_ended own stand

late_by : (first : ℕ) (own : List Object) (before : List BoundCall) (stand : Stand) (r : RecorderValue) → recorder_at own stand.encoder ≡ Some r → has_taken r ≡ list_any (finishes (first + stand.encoder)) before
    → is_begun stand.on r.passes ≡ true → LateAt first own before stand
late_by first own before stand r is taken begun =
    ap (λ found. option_map_or (is_late_by stand.on) found true) is
    ∙ (late_of stand.on r (list_any (finishes (first + stand.encoder)) before) taken begun
    ∙ ap (λ found. list_any (finishes (first + stand.encoder)) before || stands_on_ended stand.on found) (sym is))

late_encoder : (first : ℕ) (own : List Object) (before : List BoundCall) (place : ℕ) (k : Kind) → IsEncoder first own before place k → LateAt first own before (stand_at own place)
late_encoder first own before place k at =
    subst (λ stand. LateAt first own before stand) (sym (stand_encoder own place at.recorder at.is))
    (late_by first own before (record { encoder = place; on = Encoder }) at.recorder at.is at.taken refl)

late_pass : (first : ℕ) (own : List Object) (before : List BoundCall) (place : ℕ) → IsPass first own before place → LateAt first own before (stand_at own place)
late_pass first own before place at =
    subst (λ stand. LateAt first own before stand) (sym (stand_pass own place at.encoder at.number at.is))
    (late_by first own before (record { encoder = at.encoder; on = Pass at.number }) at.holder.recorder at.holder.is at.holder.taken at.begun)

late_found : (first : ℕ) (own : List Object) (before : List BoundCall) (slot : ℕ) (command : CommandOf ℕ) (place : Kind) → Stands first own before → Contains (made_in before) (slot, place) → admits (place_wanted command) place ≡ true
    → LateAt first own before (stand_at own (slot - first))
late_found first own before slot command place was there takes = elim (stands_on command place takes) [
  | inl encoder ↦ late_encoder first own before (slot - first) place (was.encoders slot place encoder there)
  | inr pass ↦ late_pass first own before (slot - first) (was.passes slot place pass there)
]

pub first_after : (setup : Setup) (calls : List Answered) (sight : Sight) → (after_calls setup sight calls).first ≡ sight.first
first_after setup [] sight = refl
first_after setup (call ∷ calls) sight = first_after setup calls _ ∙ same_first setup sight call.0 call.1

pub late_is_finished : LateIsFinished
late_is_finished earlier later lanes_before lanes_after answered after on command made bound all setup others =
    let before : List BoundCall = map (λ (c : Answered). c.0) answered in
    let call : BoundCall = Record on command made in
    let calls : List BoundCall = before ++ call ∷ after in
    let first : ℕ = slots_before earlier lanes_before in
    let start : Sight = record { others = others; first = first; own = [] } in
    let sight : Sight = after_calls setup start answered in
    let visible : Slots = flat_map (flat_map made_in) earlier in
    let lane : LaneIsBound visible [] calls = lane_in earlier later lanes_before lanes_after calls bound.used in
    let parts : made_in calls ≡ made_in before ++ made_in (call ∷ after) = flat_map-append made_by before (call ∷ after) in
    let numbers : AreFrom first (slots_of (made_in before))
    = from_front first (made_in before) (made_in (call ∷ after)) (subst (λ ms. AreFrom first (slots_of ms)) parts (lane_from earlier later lanes_before lanes_after calls bound.count bound.numbered)) in
    let zero_is : first ≡ first + 0 = omega arith in
    let stands : Stands sight.first sight.own before
    = all_after setup visible answered [] start (no_calls first) all (lane_front visible [] before (call ∷ after) lane) (subst (λ n. AreFrom n (slots_of (made_in before))) zero_is numbers) in
    let here = call_in visible [] before call after lane in
    subst (λ n. LateAt n sight.own before (stand_seen sight on)) (first_after setup answered start)
    (late_found sight.first sight.own before on command here.place stands here.own here.takes)
