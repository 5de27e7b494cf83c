-- In a lane of a bound script each call finds what it uses, and what a phase has made stands at its slots for those after it.
use Rattle.std.proofs.Common.{◌≡◌, ℕ, zero, suc, ◌+◌, ◌-◌, ◌<◌, ◌≤◌, nat_lt, true, false, List, [], ◌∷◌, ◌++◌, length, map, refl, sym, ap, subst, ◌∙◌, inl, inr, arith, append_assoc, if◌then◌else◌}
use Rattle.std.specs.Prelude.{All, Contains, slice_get}
use Rattle.std.specs.Option.{option_map_or}
use Rattle.std.specs.List.{flat_map}
use Rattle.std.proofs.lemmas.Bool.Decides.{nat_tests}
use Rattle.std.proofs.lemmas.List.{append-nil, length-append}
use Rattle.std.proofs.lemmas.List.Concat.{flat_map-append}
use Rattle.std.proofs.lemmas.List.Elements.{All-nil, All-cons, All-head, All-tail, All-contains, All-weaker, Contains-append_cases}
use Rattle.wg_types.specs.Commands.{named_on, place_wanted}
use Rattle.wg_types.specs.Wanted.{admits}
use Rattle.wg_types.specs.declared.commands.CommandOf.{CommandOf}
use Rattle.wg_types.specs.Requests.{named as asked_of}
use Rattle.wg_types.specs.declared.wanted.Kind.{Kind}
use Rattle.wg_types.specs.declared.wanted.Kind.TheVariants as kinds
use Rattle.wg_types.specs.declared.wanted.Wanted.{Wanted}
use Rattle.wg_history.specs.declared.events.Setup.{Setup}
use Rattle.wg_script.specs.CallOf.{BoundCall}
use Rattle.wg_script.specs.declared.calls.CallOf.TheVariants.{Record, Ask, Canvas}
use Rattle.wg_names.specs.Bound.{made_by, made_in, all_made, numbers_below, IsFound, CallIsBound, LaneIsBound, IsBound, CallIsSet, LaneIsSet}
use Rattle.wg_play.specs.declared.objects.Object.{Object}
use Rattle.wg_play.specs.Objects.{handle_in, handle_at, reference_at, recorder_at, stand_at, unknown}
use Rattle.wg_play.specs.declared.objects.Stand.{Stand}
use Rattle.wg_play.specs.Sights.{Sight, place_in}
use Rattle.wg_play.specs.Lanes.{gathered}
use Rattle.wg_play.specs.Late.{Answered, IsAnsweredCall, after_calls, slots_before}
use Rattle.wg_play.specs.Found.{has_recorder, IsOpenFor, StandsAt, SlotsStand, SlotIsSeen, IsSeenAs, CallIsFound, BoundIsFound, GatheredIsHeld, ended_from, phase_of}
use Rattle.wg_play.proofs.Following.{same_others}
use Rattle.wg_play.proofs.Numbered.{all_at, all_configured, lane_set, set_in, set_front, Slots, AreFrom, slots_of, from_zero, from_front, from_back, phase_at, lane_in, lane_from, call_in, lane_front}
use Rattle.wg_play.proofs.Sending.{finish_own, open_at, sends_as}
use Rattle.wg_play.proofs.Finished.{IsEncoder, IsPass, Stands, no_calls, all_after}
use Rattle.wg_play.proofs.Places.{stands_on}
use Rattle.wg_play.proofs.Slots.{stand_encoder, stand_pass}
use Rattle.wg_play.proofs.Holding.{stands_append, HoldsFrom, AreSet, canvas_seen, HoldsSet, none_set, all_held}
use Rattle.wg_play.proofs.LateLaw.{first_after}

-- ---- slots within bounds

IsWithin : ℕ → ℕ → ℕ × Kind → Type 0
IsWithin low high m = (low ≤ m.0) × (m.0 < high)

wider : (low high under over : ℕ) → under ≤ low → high ≤ over → (m : ℕ × Kind) → IsWithin low high m → IsWithin under over m
unfolding IsWithin
wider low high under over a b m within = (omega (arith, a, within.0), omega (arith, b, within.1))

within_from : (k : ℕ) (ms : Slots) → AreFrom k (slots_of ms) → All (IsWithin k (k + length ms)) ms
unfolding IsWithin
within_from k [] from = All-nil (IsWithin k (k + 0))
within_from k (m ∷ ms) from =
    let here : m.0 ≡ k = from.0 in
    let low : k ≤ k + 1 = omega arith in
    let high : (k + 1) + length ms ≤ k + length (m ∷ ms) = omega arith in
    All-cons (IsWithin k (k + length (m ∷ ms))) m ms (omega (arith, here), omega (arith, here))
    (All-weaker (IsWithin (k + 1) ((k + 1) + length ms)) (IsWithin k (k + length (m ∷ ms))) (wider (k + 1) ((k + 1) + length ms) k (k + length (m ∷ ms)) low high) ms (within_from (k + 1) ms from.1))

pub at_least : (k : ℕ) (ms : Slots) (slot : ℕ) (kind : Kind) → AreFrom k (slots_of ms) → Contains ms (slot, kind) → k ≤ slot
unfolding IsWithin
at_least k ms slot kind from there = (All-contains (IsWithin k (k + length ms)) ms (slot, kind) (within_from k ms from) there).0

pub below : (k : ℕ) (ms : Slots) (slot : ℕ) (kind : Kind) → AreFrom k (slots_of ms) → Contains ms (slot, kind) → slot < k + length ms
unfolding IsWithin
below k ms slot kind from there = (All-contains (IsWithin k (k + length ms)) ms (slot, kind) (within_from k ms from) there).1

pub earlier_from : (earlier rest : List (List (List BoundCall))) (count : ℕ) → all_made (earlier ++ rest) ≡ numbers_below count → AreFrom 0 (slots_of (flat_map (flat_map made_in) earlier))
earlier_from earlier rest count numbered =
    from_front 0 (flat_map (flat_map made_in) earlier) (flat_map (flat_map made_in) rest)
    (subst (λ ms. AreFrom 0 (slots_of ms)) (flat_map-append (flat_map made_in) earlier rest) (subst (AreFrom 0) (sym numbered) (from_zero count)))

-- ---- what a lane sees

pub others_after : (setup : Setup) (calls : List Answered) (sight : Sight) → (after_calls setup sight calls).others ≡ sight.others
others_after setup [] sight = refl
others_after setup (call ∷ calls) sight = others_after setup calls _ ∙ same_others setup sight call.0 call.1

seen_other : (sight : Sight) (slot : ℕ) (kind : Kind) → slot < sight.first → StandsAt sight.others slot kind → SlotIsSeen sight slot kind
seen_other sight slot kind less was =
    let is : nat_lt slot sight.first ≡ true = grind (arith, nat_tests, less) in
    record {
      what = was.what;
      is = ap (λ b. if b then slice_get sight.others slot else slice_get sight.own (place_in sight slot)) is ∙ was.is;
      handle = ap (λ b. if b then handle_at sight.others slot else handle_at sight.own (place_in sight slot)) is ∙ ap (λ found. option_map_or handle_in found unknown) was.is;
      of = was.of;
    }

seen_own : (sight : Sight) (slot : ℕ) (kind : Kind) → sight.first ≤ slot → StandsAt sight.own (place_in sight slot) kind → SlotIsSeen sight slot kind
seen_own sight slot kind from was =
    let is : nat_lt slot sight.first ≡ false = grind (arith, nat_tests, from) in
    record {
      what = was.what;
      is = ap (λ b. if b then slice_get sight.others slot else slice_get sight.own (place_in sight slot)) is ∙ was.is;
      handle = ap (λ b. if b then handle_at sight.others slot else handle_at sight.own (place_in sight slot)) is ∙ ap (λ found. option_map_or handle_in found unknown) was.is;
      of = was.of;
    }

abbrev pub SeesAll : Sight → Slots → Type 0
SeesAll sight made = (slot : ℕ) (kind : Kind) → Contains made (slot, kind) → SlotIsSeen sight slot kind

abbrev OwnsAll : Sight → Slots → Type 0
OwnsAll sight ours = (slot : ℕ) (kind : Kind) → Contains ours (slot, kind) → StandsAt sight.own (place_in sight slot) kind

keys_found : (sight : Sight) (made ours : Slots) → SeesAll sight made → OwnsAll sight ours → (keys : List (ℕ × Wanted)) → All (IsFound made ours) keys → All (IsSeenAs sight made) keys
keys_found sight made ours seen own keys all =
    All-weaker (IsFound made ours) (IsSeenAs sight made)
    (λ key found. record { kind = found.kind; was_made = found.stands; fits = found.fits; seen = seen key.0 found.kind found.stands; own = λ want. own key.0 found.kind (found.own want) }) keys all

-- the encoder on which a recording call stands has a recorder, which is open for it
abbrev OpenAt : List Object → Stand → Type 0
OpenAt own stand = IsOpenFor (reference_at own stand.encoder) (recorder_at own stand.encoder)

open_encoder : (first : ℕ) (own : List Object) (before : List BoundCall) (place : ℕ) (k : Kind) → has_recorder k ≡ true → IsEncoder first own before place k → OpenAt own (stand_at own place)
open_encoder first own before place k p at = subst (OpenAt own) (sym (stand_encoder own place at.recorder at.is)) (open_at own place k p at.stands).is_open

open_pass : (first : ℕ) (own : List Object) (before : List BoundCall) (place : ℕ) → IsPass first own before place → OpenAt own (stand_at own place)
open_pass first own before place at = subst (OpenAt own) (sym (stand_pass own place at.encoder at.number at.is)) (open_at own at.encoder kinds.Encoder refl at.holder.stands).is_open

open_stand : (first : ℕ) (own : List Object) (before : List BoundCall) (slot : ℕ) (command : CommandOf ℕ) (place : Kind) → Stands first own before → Contains (made_in before) (slot, place) → admits (place_wanted command) place ≡ true
    → OpenAt own (stand_at own (slot - first))
open_stand first own before slot command place was there takes = elim (stands_on command place takes) [
  | inl encoder ↦ open_encoder first own before (slot - first) place encoder (was.encoders slot place encoder there)
  | inr pass ↦ open_pass first own before (slot - first) (was.passes slot place pass there)
]

call_found : (sight : Sight) (made : Slots) (before : List BoundCall) (done : List ℕ) → SeesAll sight made → OwnsAll sight (made_in before) → Stands sight.first sight.own before
    → AreSet sight.first sight.own done → (call : BoundCall) → CallIsBound made (made_in before) call → CallIsSet done call → CallIsFound sight made call
call_found sight made before done seen own was sets (Record on command slot) bound set = record {
  place = bound.place;
  takes = bound.takes;
  stands = own on bound.place bound.own;
  encoder = open_stand sight.first sight.own before on command bound.place was bound.own bound.takes;
  found = keys_found sight made (made_in before) seen own (named_on bound.place command) bound.found;
}
call_found sight made before done seen own was sets (Ask request slot) bound set =
    let sends = sends_as sight made (made_in before) request (λ n k p there. own n k there) bound in
    record {
      found = keys_found sight made (made_in before) seen own (asked_of request) bound;
      ends = λ encoder e. (
          let ended = finish_own made (made_in before) request encoder bound e in
          (open_at sight.own (place_in sight encoder) ended.kind ended.recorded (own encoder ended.kind ended.own)).is_open);
      verb = sends.verb;
      makes = sends.makes;
    }
call_found sight made before done seen own was sets (Canvas call slot) bound set = canvas_seen sight made (made_in before) done call own sets bound set

-- What a lane sees at a call of it: what earlier phases and its own calls up to that have made.
pub record SeesBefore (earlier : List (List (List BoundCall))) (before : List BoundCall) (sight : Sight) (call : BoundCall) : Type 0 where
  pub seen : SeesAll sight (flat_map (flat_map made_in) earlier ++ made_in before)
  pub found : CallIsFound sight (flat_map (flat_map made_in) earlier ++ made_in before) call

pub sees_before : (earlier later : List (List (List BoundCall))) (lanes_before lanes_after : List (List BoundCall)) (answered : List Answered) (call : BoundCall) (after : List BoundCall)
    → IsBound (earlier ++ (lanes_before ++ (map (λ (c : Answered). c.0) answered ++ call ∷ after) ∷ lanes_after) ∷ later)
    → All IsAnsweredCall answered → (setup : Setup) (others : List Object) → SlotsStand others (flat_map (flat_map made_in) earlier)
    → SeesBefore earlier (map (λ (c : Answered). c.0) answered) (after_calls setup (record { others = others; first = slots_before earlier lanes_before; own = [] }) answered) call
sees_before earlier later lanes_before lanes_after answered call after bound all setup others holds =
    let before : List BoundCall = map (λ (c : Answered). c.0) answered in
    let calls : List BoundCall = before ++ call ∷ after in
    let first : ℕ = slots_before earlier lanes_before in
    let start : Sight = record { others = others; first = first; own = [] } in
    let sight : Sight = after_calls setup start answered in
    let visible : Slots = flat_map (flat_map made_in) earlier in
    let lane = lane_in earlier later lanes_before lanes_after calls bound.used in
    let parts : made_in calls ≡ made_in before ++ made_in (call ∷ after) = flat_map-append made_by before (call ∷ after) in
    let numbers : AreFrom first (slots_of (made_in before))
    = from_front first (made_in before) (made_in (call ∷ after)) (subst (λ ms. AreFrom first (slots_of ms)) parts (lane_from earlier later lanes_before lanes_after calls bound.count bound.numbered)) in
    let zero_is : first ≡ first + 0 = omega arith in
    let bound_before = lane_front visible [] before (call ∷ after) lane in
    let set = lane_set earlier later lanes_before lanes_after calls bound.set in
    let both : HoldsSet sight.first sight.own (made_in before) (all_configured before)
    = all_held setup visible answered [] [] start (none_set first) all bound_before (set_front [] before (call ∷ after) set)
    (subst (λ n. AreFrom n (slots_of (made_in before))) zero_is numbers) in
    let held : HoldsFrom sight.first sight.own (made_in before) = both.held in
    let same : sight.first ≡ first = first_after setup answered start in
    let seen_before : AreFrom 0 (slots_of visible) = earlier_from earlier ((lanes_before ++ calls ∷ lanes_after) ∷ later) bound.count bound.numbered in
    let seen : SeesAll sight (visible ++ made_in before)
    = λ slot kind there. elim (Contains-append_cases visible (made_in before) (slot, kind) there) [
      | inl other ↦ let less : slot < 0 + length visible = below 0 visible slot kind seen_before other in
          let under : slot < sight.first = omega (arith, less, same) in
          seen_other sight slot kind under (subst (λ objects. StandsAt objects slot kind) (sym (others_after setup answered start)) (holds.stands slot kind other))
      | inr mine ↦ let from : first ≤ slot = at_least first (made_in before) slot kind numbers mine in
          let over : sight.first ≤ slot = omega (arith, from, same) in
          seen_own sight slot kind over (held.stands slot kind mine)
    ] in
    let stands : Stands sight.first sight.own before
    = all_after setup visible answered [] start (no_calls first) all bound_before (subst (λ n. AreFrom n (slots_of (made_in before))) zero_is numbers) in
    record {
      seen = seen;
      found = call_found sight (visible ++ made_in before) before (all_configured before) seen held.stands stands both.sets call (call_in visible [] before call after lane)
          (set_in [] before call after set);
    }

pub bound_is_found : BoundIsFound
bound_is_found earlier later lanes_before lanes_after answered call after bound all setup others holds =
    (sees_before earlier later lanes_before lanes_after answered call after bound all setup others holds).found

-- ---- what a phase has made

pub at_behind : (objects more : List Object) (n : ℕ) → length objects ≤ n → slice_get (objects ++ more) n ≡ slice_get more (n - length objects)
at_behind [] more n le = let e : n ≡ n - 0 = omega arith in ap (slice_get more) e
at_behind (x ∷ objects) more zero le = absurd (omega (arith, le))
at_behind (x ∷ objects) more (suc n) le =
    let less : length objects ≤ n = omega (arith, le) in
    let e : n - length objects ≡ suc n - length (x ∷ objects) = omega arith in
    at_behind objects more n less ∙ ap (slice_get more) e

stands_behind : (objects more : List Object) (slot : ℕ) (kind : Kind) → length objects ≤ slot → StandsAt more (slot - length objects) kind → StandsAt (objects ++ more) slot kind
stands_behind objects more slot kind le was = record { what = was.what; is = at_behind objects more slot le ∙ was.is; of = was.of }

lane_held : (objects own : List Object) (made ours : Slots) → SlotsStand objects made → HoldsFrom (length objects) own ours → AreFrom (length objects) (slots_of ours) → SlotsStand (objects ++ own) (made ++ ours)
lane_held objects own made ours was held from =
    let a : length (objects ++ own) ≡ length objects + length own = length-append objects own in
    let b : length (made ++ ours) ≡ length made + length ours = length-append made ours in
    let c : length objects ≡ length made = was.count in
    let d : length own ≡ length ours = held.count in
    record {
      count = omega (arith, a, b, c, d);
      stands = λ slot kind there. elim (Contains-append_cases made ours (slot, kind) there) [
        | inl old ↦ stands_append objects own slot kind (was.stands slot kind old)
        | inr new ↦ stands_behind objects own slot kind (at_least (length objects) ours slot kind from new) (held.stands slot kind new)
      ];
    }

gathered_held : (setup : Setup) (others : List Object) (visible : Slots) (lanes : List (List Answered)) (objects : List Object) (made : Slots) → SlotsStand objects made → All (All IsAnsweredCall) lanes
    → All (LaneIsBound visible []) (phase_of lanes) → All (LaneIsSet []) (phase_of lanes) → AreFrom (length objects) (slots_of (flat_map made_in (phase_of lanes))) → SlotsStand (gathered objects (ended_from setup others (length objects) lanes)) (made ++ flat_map made_in (phase_of lanes))
gathered_held setup others visible [] objects made was all bound set from = subst (SlotsStand objects) (sym (append-nil made)) was
gathered_held setup others visible (calls ∷ lanes) objects made was all bound set from =
    let first : ℕ = length objects in
    let start : Sight = record { others = others; first = first; own = [] } in
    let sight : Sight = after_calls setup start calls in
    let ours : Slots = made_in (map (λ (c : Answered). c.0) calls) in
    let rest : Slots = flat_map made_in (phase_of lanes) in
    let numbers : AreFrom first (slots_of ours) = from_front first ours rest from in
    let zero_is : first ≡ first + 0 = omega arith in
    let bound_calls : List BoundCall = map (λ (c : Answered). c.0) calls in
    let there : HoldsSet sight.first sight.own ours (all_configured bound_calls)
    = all_held setup visible calls [] [] start (none_set first) (All-head (All IsAnsweredCall) calls lanes all) (All-head (LaneIsBound visible []) bound_calls (phase_of lanes) bound)
    (All-head (LaneIsSet []) bound_calls (phase_of lanes) set) (subst (λ n. AreFrom n (slots_of ours)) zero_is numbers) in
    let held : HoldsFrom first sight.own ours = subst (λ n. HoldsFrom n sight.own ours) (first_after setup calls start) there.held in
    let more : length (objects ++ sight.own) ≡ length objects + length sight.own = length-append objects sight.own in
    let count : length sight.own ≡ length ours = held.count in
    let next : length (objects ++ sight.own) ≡ first + length ours = omega (arith, more, count) in
    let end : SlotsStand (gathered (objects ++ sight.own) (ended_from setup others (length (objects ++ sight.own)) lanes)) ((made ++ ours) ++ rest)
    = gathered_held setup others visible lanes (objects ++ sight.own) (made ++ ours) (lane_held objects sight.own made ours was held numbers) (All-tail (All IsAnsweredCall) calls lanes all)
    (All-tail (LaneIsBound visible []) bound_calls (phase_of lanes) bound) (All-tail (LaneIsSet []) bound_calls (phase_of lanes) set)
    (subst (λ n. AreFrom n (slots_of rest)) (sym next) (from_back first ours rest from)) in
    subst (λ n. SlotsStand (gathered (objects ++ sight.own) (ended_from setup others n lanes)) (made ++ (ours ++ rest))) next
    (subst (SlotsStand (gathered (objects ++ sight.own) (ended_from setup others (length (objects ++ sight.own)) lanes))) (append_assoc made ours rest) end)

pub gathered_is_held : GatheredIsHeld
gathered_is_held earlier later lanes bound all setup others holds =
    let before : Slots = flat_map (flat_map made_in) earlier in
    let here : Slots = flat_map made_in (phase_of lanes) in
    let rest : Slots = flat_map (flat_map made_in) later in
    let whole : flat_map (flat_map made_in) (earlier ++ phase_of lanes ∷ later) ≡ before ++ (here ++ rest) = flat_map-append (flat_map made_in) earlier (phase_of lanes ∷ later) in
    let from : AreFrom 0 (slots_of (before ++ (here ++ rest))) = subst (λ ms. AreFrom 0 (slots_of ms)) whole (subst (AreFrom 0) (sym bound.numbered) (from_zero bound.count)) in
    let count : length others ≡ length before = holds.count in
    let first : 0 + length before ≡ length others = omega (arith, count) in
    let numbers : AreFrom (length others) (slots_of here) = subst (λ n. AreFrom n (slots_of here)) first (from_front (0 + length before) here rest (from_back 0 before (here ++ rest) from)) in
    let end : before ++ here ≡ flat_map (flat_map made_in) (earlier ++ phase_of lanes ∷ [])
    = ap (λ ms. before ++ ms) (sym (append-nil here)) ∙ sym (flat_map-append (flat_map made_in) earlier (phase_of lanes ∷ [])) in
    subst (SlotsStand (gathered others (ended_from setup others (length others) lanes))) end (gathered_held setup others before lanes others before holds all (phase_at [] earlier later (phase_of lanes) bound.used)
    (all_at (All (LaneIsSet [])) earlier later (phase_of lanes) bound.set) numbers)
