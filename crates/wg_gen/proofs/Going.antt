-- The lanes of a generated script take turns: each is at a stage, and a turn of one leaves the others at theirs.
use Rattle.std.proofs.Common.{◌≡◌, ◌<◌, ℕ, zero, suc, ◌+◌, ◌*◌, Bool, true, false, ◌&&◌, Option, Some, None, List, [], ◌∷◌, ◌++◌, length, set, refl, sym, ap, subst, ◌∙◌, arith, if◌then◌else◌}
use Rattle.std.specs.Prelude.{All, is_none, option_and_then}
use Rattle.std.proofs.lemmas.List.Elements.{All-head, All-tail}
use Rattle.wg_trace.specs.declared.replies.Reply.{Reply}
use Rattle.wg_history.specs.declared.events.Event.{Event}
use Rattle.wg_history.specs.declared.events.Event.TheVariants as event
use Rattle.wg_history.specs.Entries.{Entry, Past}
use Rattle.wg_history.specs.Objects.{count}
use Rattle.wg_history.specs.Operations.{issued}
use Rattle.wg_history.specs.Answers.{reply_to}
use Rattle.wg_play.specs.declared.objects.Object.{Object}
use Rattle.wg_play.specs.Lanes.{LaneState, next_event}
use Rattle.wg_play.specs.Turns.{Midway, lane_at, taken, turned, through, phase_by}
use Rattle.wg_play.specs.Play.{after_}
use Rattle.wg_gen.specs.declared.draws.Spot.{Spot}
use Rattle.wg_gen.proofs.Facts.{device, IsSpot, write, finish, submit, made, queued, entry_of, Calm, Encodes, Submits, IsOwn}
use Rattle.wg_gen.proofs.Stages.{Stage, between, written, opened, finished, lane_in, spent, command_buffer, SeesBuffers}
use Rattle.wg_gen.proofs.History.{write_answer, write_calm, create_answer, create_calm, finish_answer, finish_calm, submit_answer, submit_calm}
use Rattle.wg_gen.proofs.Own.{encodes_new, submits_new, encodes_stays, submits_stays, write_own, create_own, finish_own, submit_own}
use Rattle.wg_gen.proofs.Steps.{between_none, write_next, write_after, create_next, create_after, finish_next, finish_after, submit_next, submit_after}

-- ---- a phase on its way

abbrev pub Way : Type 0
Way = Midway next_event (after_ device)

abbrev pub turn : Way → ℕ → Option LaneState → Option Way
turn s n found = turned next_event (after_ device) device s n found

abbrev pub lane_number : List LaneState → ℕ → Option LaneState
lane_number lanes n = lane_at next_event (after_ device) lanes n

abbrev pub all_through : List LaneState → Bool
all_through lanes = through next_event (after_ device) lanes

abbrev pair : Way → List ℕ → Way × List ℕ
pair s left = (s, left)

-- a phase that is through ends where it is, and another goes on
phase_ends : (P : Way → Type 0) (s t : Way) (rest left : List ℕ) (other : Option (Way × List ℕ)) → P s → (other ≡ Some (t, rest) → P t × (all_through t.lanes ≡ true))
    → (if all_through s.lanes then Some (s, left) else other) ≡ Some (t, rest) → P t × (all_through t.lanes ≡ true)
phase_ends P s t rest left other holds go is = by_end (all_through s.lanes) refl is
  where
    by_end : (b : Bool) → all_through s.lanes ≡ b → (if b then Some (s, left) else other) ≡ Some (t, rest) → P t × (all_through t.lanes ≡ true)
    by_end true end e =
        let both : pair s left ≡ pair t rest = cc (e) in
        subst (λ (u : Way). P u × (all_through u.lanes ≡ true)) (ap (λ (p : Way × List ℕ). p.0) both) (holds, end)
    by_end false end e = go e

after_turn : (P : Way → Type 0) → ((s t : Way) (n : ℕ) → P s → turn s n (lane_number s.lanes n) ≡ Some t → P t) → (s t : Way) (n : ℕ) (left rest : List ℕ) → P s
    → ((u : Way) → P u → phase_by next_event (after_ device) device left u ≡ Some (t, rest) → P t × (all_through t.lanes ≡ true))
    → (found : Option Way) → turn s n (lane_number s.lanes n) ≡ found → option_and_then (phase_by next_event (after_ device) device left) found ≡ Some (t, rest) → P t × (all_through t.lanes ≡ true)
after_turn P step s t n left rest holds again None turned e = absurd (cc (e))
after_turn P step s t n left rest holds again (Some u) turned e = again u (step s u n holds turned) e

-- what each turn keeps holds once the phase is through
pub phase_keeps : (P : Way → Type 0) → ((s t : Way) (n : ℕ) → P s → turn s n (lane_number s.lanes n) ≡ Some t → P t)
    → (ns : List ℕ) (s t : Way) (rest : List ℕ) → P s → phase_by next_event (after_ device) device ns s ≡ Some (t, rest) → P t × (all_through t.lanes ≡ true)
phase_keeps P step [] s t rest holds is = phase_ends P s t rest [] None holds (λ e. absurd (cc (e))) is
phase_keeps P step (n ∷ ns) s t rest holds is =
    phase_ends P s t rest (n ∷ ns) (option_and_then (phase_by next_event (after_ device) device ns) (turn s n (lane_number s.lanes n))) holds
    (after_turn P step s t n ns rest holds (λ u kept e. phase_keeps P step ns u t rest kept e) (turn s n (lane_number s.lanes n)) refl) is

-- a turn is of a lane that has a next event
pub record IsTurn (s t : Way) (n : ℕ) : Type 0 where
  pub lane : LaneState
  pub event : Event
  pub at : lane_number s.lanes n ≡ Some lane
  pub next : next_event lane ≡ Some event
  pub is : t ≡ record { past = entry_of n event (reply_to device s.past event) ∷ s.past; lanes = set s.lanes n (after_ device lane (reply_to device s.past event)) }

pub turn_is : (s t : Way) (n : ℕ) → turn s n (lane_number s.lanes n) ≡ Some t → IsTurn s t n
turn_is s t n turned = by_lane (lane_number s.lanes n) refl turned
  where
    by_event : (lane : LaneState) → lane_number s.lanes n ≡ Some lane → (found : Option Event) → next_event lane ≡ found → taken next_event (after_ device) device s n lane found ≡ Some t → IsTurn s t n
    by_event lane at None next e = absurd (cc (e))
    by_event lane at (Some event) next e = record { lane = lane; event = event; at = at; next = next; is = cc (sym e) }

    by_lane : (found : Option LaneState) → lane_number s.lanes n ≡ found → turn s n found ≡ Some t → IsTurn s t n
    by_lane None at e = absurd (cc (e))
    by_lane (Some lane) at e = by_event lane at (next_event lane) refl e

-- ---- a lane at its stage

abbrev pub spots_in : Stage → List Spot
spots_in (between spots) = spots
spots_in (written spot spots) = spot ∷ spots
spots_in (opened n spot spots) = spot ∷ spots
spots_in (finished n m spots) = spots

-- how many entries and operations are still to come
abbrev pub entries_in : Stage → ℕ
entries_in (between spots) = 4 * length spots
entries_in (written spot spots) = 3 + 4 * length spots
entries_in (opened n spot spots) = 2 + 4 * length spots
entries_in (finished n m spots) = 1 + 4 * length spots

abbrev pub ops_in : Stage → ℕ
ops_in (between spots) = 2 * length spots
ops_in (written spot spots) = 1 + 2 * length spots
ops_in (opened n spot spots) = 1 + 2 * length spots
ops_in (finished n m spots) = 1 + 2 * length spots

-- what the lane has open
abbrev pub Has : Past → ℕ → Stage → Type 0
Has past who (between spots) = Unit {0}
Has past who (written spot spots) = Unit {0}
Has past who (opened n spot spots) = Encodes past who n
Has past who (finished n m spots) = Submits past who m

pub record IsAt (past : Past) (others : List Object) (who : ℕ) (lane : LaneState) (entries ops : ℕ) : Type 0 where
  pub first : ℕ
  pub before : List Object
  pub stage : Stage
  pub is : lane ≡ lane_in others first before stage
  pub sees : SeesBuffers others first
  pub spots : All IsSpot (spots_in stage)
  pub has : Has past who stage
  pub entries_are : entries ≡ entries_in stage
  pub ops_are : ops ≡ ops_in stage

-- the lanes from number `who` on, and how much is still to come of all
abbrev pub AllAt : Past → List Object → ℕ → List LaneState → ℕ → ℕ → Type 0
AllAt past others who [] entries ops = (entries ≡ 0) × (ops ≡ 0)
AllAt past others who (lane ∷ lanes) entries ops =
    (e : ℕ) × (o : ℕ) × (es : ℕ) × (os : ℕ) × IsAt past others who lane e o × AllAt past others (suc who) lanes es os × (entries ≡ e + es) × (ops ≡ o + os)

-- ---- a turn of the lane itself

-- What a lane's entry leaves: the past is calm, and the entry is of the lane's own objects alone. Less is to come by it.
pub record Steps (past : Past) (others : List Object) (who : ℕ) (lane : LaneState) (entries ops : ℕ) (event : Event) (reply : Reply) : Type 0 where
  pub calm : Calm 8 (entry_of who event reply ∷ past)
  pub own : IsOwn past (entry_of who event reply)
  pub entries_left : ℕ
  pub ops_left : ℕ
  pub at : IsAt (entry_of who event reply ∷ past) others who (after_ device lane reply) entries_left ops_left
  pub one : entries ≡ suc entries_left
  pub ops_are : ops + issued past ≡ ops_left + issued (entry_of who event reply ∷ past)

module _ (past : Past) (calm : Calm 8 past) (others : List Object) (who first : ℕ) (before : List Object) (sees : SeesBuffers others first) where
  abbrev StepsFrom : Stage → Event → Reply → Type 0
  StepsFrom stage event reply = Steps past others who (lane_in others first before stage) (entries_in stage) (ops_in stage) event reply

  write_steps : (spot : Spot) (spots : List Spot) → All IsSpot (spot ∷ spots) → StepsFrom (between (spot ∷ spots)) (write spot) (queued past)
  write_steps spot spots all = record {
    calm = write_calm past who spot calm (All-head IsSpot spot spots all);
    own = write_own past who spot (queued past);
    entries_left = 3 + 4 * length spots;
    ops_left = 1 + 2 * length spots;
    at = record {
      first = first;
      before = before;
      stage = written spot spots;
      is = write_after others first before spot spots (queued past);
      sees = sees;
      spots = all;
      has = tt;
      entries_are = refl;
      ops_are = refl;
    };
    one = omega arith;
    ops_are = omega arith;
  }

  create_steps : (spot : Spot) (spots : List Spot) → All IsSpot (spot ∷ spots) → StepsFrom (written spot spots) event.CreateEncoder (made past)
  create_steps spot spots all = record {
    calm = create_calm past who calm;
    own = create_own past who (made past);
    entries_left = 2 + 4 * length spots;
    ops_left = 1 + 2 * length spots;
    at = record {
      first = first;
      before = before;
      stage = opened (count past) spot spots;
      is = create_after others first before spot spots (count past) (made past) refl;
      sees = sees;
      spots = all;
      has = encodes_new past who calm;
      entries_are = refl;
      ops_are = refl;
    };
    one = omega arith;
    ops_are = refl;
  }

  finish_steps : (n : ℕ) (spot : Spot) (spots : List Spot) → All IsSpot (spot ∷ spots) → Encodes past who n → StepsFrom (opened n spot spots) (finish n spot) (made past)
  finish_steps n spot spots all has = record {
    calm = finish_calm past who n spot calm (All-head IsSpot spot spots all) has;
    own = finish_own past who n spot (made past) has;
    entries_left = 1 + 4 * length spots;
    ops_left = 1 + 2 * length spots;
    at = record {
      first = first;
      before = before;
      stage = finished n (count past) spots;
      is = finish_after others first before n spot spots (count past) (made past) sees (All-head IsSpot spot spots all) refl;
      sees = sees;
      spots = All-tail IsSpot spot spots all;
      has = submits_new past who n spot calm;
      entries_are = refl;
      ops_are = refl;
    };
    one = omega arith;
    ops_are = refl;
  }

  submit_steps : (n m : ℕ) (spots : List Spot) → All IsSpot spots → Submits past who m → StepsFrom (finished n m spots) (submit m) (queued past)
  submit_steps n m spots all has = record {
    calm = submit_calm past who m calm has;
    own = submit_own past who m (queued past) has;
    entries_left = 4 * length spots;
    ops_left = 2 * length spots;
    at = record {
      first = first;
      before = before ++ spent n ∷ command_buffer m ∷ [];
      stage = between spots;
      is = submit_after others first before n m spots (queued past);
      sees = sees;
      spots = all;
      has = tt;
      entries_are = refl;
      ops_are = refl;
    };
    one = omega arith;
    ops_are = omega arith;
  }

  -- the event that a lane has next at a stage is answered so
  same_event : (stage : Stage) (sent known : Event) (reply : Reply) → Some known ≡ Some sent → reply_to device past known ≡ reply → StepsFrom stage known reply → StepsFrom stage sent (reply_to device past sent)
  same_event stage sent known reply same answer steps =
      let is : known ≡ sent = cc (same) in
      subst (λ (e : Event). StepsFrom stage e (reply_to device past e)) is (subst (λ (r : Reply). StepsFrom stage known r) (sym answer) steps)

  stage_steps : (stage : Stage) (sent : Event) → All IsSpot (spots_in stage) → Has past who stage → next_event (lane_in others first before stage) ≡ Some sent → StepsFrom stage sent (reply_to device past sent)
  stage_steps (between []) sent all has next = absurd (cc (sym (between_none others first before) ∙ next))
  stage_steps (between (spot ∷ spots)) sent all has next =
      same_event (between (spot ∷ spots)) sent (write spot) (queued past) (sym (write_next others first before spot spots sees (All-head IsSpot spot spots all)) ∙ next)
      (write_answer past spot calm (All-head IsSpot spot spots all)) (write_steps spot spots all)
  stage_steps (written spot spots) sent all has next =
      same_event (written spot spots) sent event.CreateEncoder (made past) (sym (create_next others first before spot spots) ∙ next) (create_answer past calm) (create_steps spot spots all)
  stage_steps (opened n spot spots) sent all has next =
      same_event (opened n spot spots) sent (finish n spot) (made past) (sym (finish_next others first before n spot spots sees (All-head IsSpot spot spots all)) ∙ next)
      (finish_answer past who n spot calm (All-head IsSpot spot spots all) has) (finish_steps n spot spots all has)
  stage_steps (finished n m spots) sent all has next =
      same_event (finished n m spots) sent (submit m) (queued past) (sym (submit_next others first before n m spots sees) ∙ next) (submit_answer past who m calm has) (submit_steps n m spots all has)

lane_steps : (past : Past) (others : List Object) (who : ℕ) (lane : LaneState) (entries ops : ℕ) (event : Event) → Calm 8 past → IsAt past others who lane entries ops → next_event lane ≡ Some event → Steps past others who lane entries ops event (reply_to device past event)
lane_steps past others who lane entries ops event calm at next =
    let here : Steps past others who (lane_in others at.first at.before at.stage) (entries_in at.stage) (ops_in at.stage) event (reply_to device past event)
    = stage_steps past calm others who at.first at.before at.sees at.stage event at.spots at.has (sym (ap next_event at.is) ∙ next) in
    let by_lane = subst (λ (l : LaneState). Steps past others who l (entries_in at.stage) (ops_in at.stage) event (reply_to device past event)) (sym at.is) here in
    let by_entries = subst (λ (e : ℕ). Steps past others who lane e (ops_in at.stage) event (reply_to device past event)) (sym at.entries_are) by_lane in
    subst (λ (o : ℕ). Steps past others who lane entries o event (reply_to device past event)) (sym at.ops_are) by_entries

-- ---- a turn of another lane

has_stays : (past : Past) (entry : Entry) (who : ℕ) (stage : Stage) → Has past who stage → IsOwn past entry → (entry.who ≡ who → ⊥) → Has (entry ∷ past) who stage
has_stays past entry who (between spots) has own other = tt
has_stays past entry who (written spot spots) has own other = tt
has_stays past entry who (opened n spot spots) has own other = encodes_stays past entry who n has own other
has_stays past entry who (finished n m spots) has own other = submits_stays past entry who m has own other

at_stays : (past : Past) (entry : Entry) (others : List Object) (who : ℕ) (lane : LaneState) (entries ops : ℕ) → IsAt past others who lane entries ops → IsOwn past entry → (entry.who ≡ who → ⊥) → IsAt (entry ∷ past) others who lane entries ops
at_stays past entry others who lane entries ops at own other = record {
  first = at.first;
  before = at.before;
  stage = at.stage;
  is = at.is;
  sees = at.sees;
  spots = at.spots;
  has = has_stays past entry who at.stage at.has own other;
  entries_are = at.entries_are;
  ops_are = at.ops_are;
}

all_stay : (past : Past) (entry : Entry) (others : List Object) (who : ℕ) (lanes : List LaneState) (entries ops : ℕ) → AllAt past others who lanes entries ops → IsOwn past entry → entry.who < who → AllAt (entry ∷ past) others who lanes entries ops
all_stay past entry others who [] entries ops all own lt = all
all_stay past entry others who (lane ∷ lanes) entries ops all own lt = (
  all.0,
  all.1,
  all.2,
  all.3,
  at_stays past entry others who lane all.0 all.1 all.4 own (λ same. absurd (omega (arith, lt, same))),
  all_stay past entry others (suc who) lanes all.2 all.3 all.5 own (omega (arith, lt)),
  all.6,
  all.7,
)

-- ---- a turn

-- what a turn leaves of the lanes from number `who` on
pub record AllStep (past : Past) (others : List Object) (who : ℕ) (lanes : List LaneState) (entries ops : ℕ) (entry : Entry) : Type 0 where
  pub calm : Calm 8 (entry ∷ past)
  pub own : IsOwn past entry
  pub entries_left : ℕ
  pub ops_left : ℕ
  pub all : AllAt (entry ∷ past) others who lanes entries_left ops_left
  pub one : entries ≡ suc entries_left
  pub ops_are : ops + issued past ≡ ops_left + issued (entry ∷ past)

all_step : (past : Past) (others : List Object) (who n : ℕ) (lanes : List LaneState) (lane : LaneState) (entries ops : ℕ) (event : Event) → Calm 8 past → AllAt past others who lanes entries ops
    → lane_number lanes n ≡ Some lane → next_event lane ≡ Some event
    → AllStep past others who (set lanes n (after_ device lane (reply_to device past event))) entries ops (entry_of (who + n) event (reply_to device past event))
all_step past others who n [] lane entries ops event calm all at next = absurd (cc (at))
all_step past others who zero (other ∷ lanes) lane entries ops event calm all at next =
    let same : other ≡ lane = cc (at) in
    let here : who + 0 ≡ who = omega arith in
    let steps : Steps past others who lane all.0 all.1 event (reply_to device past event)
    = lane_steps past others who lane all.0 all.1 event calm (subst (λ (l : LaneState). IsAt past others who l all.0 all.1) same all.4) next in
    subst (λ (k : ℕ). AllStep past others who (after_ device lane (reply_to device past event) ∷ lanes) entries ops (entry_of k event (reply_to device past event))) (sym here) (record {
      calm = steps.calm;
      own = steps.own;
      entries_left = steps.entries_left + all.2;
      ops_left = steps.ops_left + all.3;
      all = (
        steps.entries_left,
        steps.ops_left,
        all.2,
        all.3,
        steps.at,
        all_stay past (entry_of who event (reply_to device past event)) others (suc who) lanes all.2 all.3 all.5 steps.own (omega arith),
        refl,
        refl,
      );
      one = omega (arith, steps.one, all.6);
      ops_are = omega (arith, steps.ops_are, all.7);
    })
all_step past others who (suc n) (other ∷ lanes) lane entries ops event calm all at next =
    let there : suc who + n ≡ who + suc n = omega arith in
    let entry : Entry = entry_of (who + suc n) event (reply_to device past event) in
    let steps : AllStep past others (suc who) (set lanes n (after_ device lane (reply_to device past event))) all.2 all.3 entry
    = subst (λ (k : ℕ). AllStep past others (suc who) (set lanes n (after_ device lane (reply_to device past event))) all.2 all.3 (entry_of k event (reply_to device past event))) there
    (all_step past others (suc who) n lanes lane all.2 all.3 event calm all.5 at next) in
    record {
      calm = steps.calm;
      own = steps.own;
      entries_left = all.0 + steps.entries_left;
      ops_left = all.1 + steps.ops_left;
      all = (
        all.0,
        all.1,
        steps.entries_left,
        steps.ops_left,
        at_stays past entry others who other all.0 all.1 all.4 steps.own (λ same. absurd (omega (arith, same))),
        steps.all,
        refl,
        refl,
      );
      one = omega (arith, steps.one, all.6);
      ops_are = omega (arith, steps.ops_are, all.7);
    }

-- ---- the phase of the lanes

-- The past is calm, each lane is at a stage, and what has happened and what is still to come make so many entries and operations.
pub record Goes (others : List Object) (entries ops : ℕ) (s : Way) : Type 0 where
  pub calm : Calm 8 s.past
  pub entries_left : ℕ
  pub ops_left : ℕ
  pub all : AllAt s.past others 0 s.lanes entries_left ops_left
  pub entries_are : entries_left + length s.past ≡ entries
  pub ops_are : ops_left + issued s.past ≡ ops

pub goes_on : (others : List Object) (entries ops : ℕ) (s t : Way) (n : ℕ) → Goes others entries ops s → turn s n (lane_number s.lanes n) ≡ Some t → Goes others entries ops t
goes_on others entries ops s t n goes turned =
    let is : IsTurn s t n = turn_is s t n turned in
    let entry : Entry = entry_of n is.event (reply_to device s.past is.event) in
    let lanes : List LaneState = set s.lanes n (after_ device is.lane (reply_to device s.past is.event)) in
    let none : 0 + n ≡ n = omega arith in
    let steps : AllStep s.past others 0 lanes goes.entries_left goes.ops_left entry
    = subst (λ (k : ℕ). AllStep s.past others 0 lanes goes.entries_left goes.ops_left (entry_of k is.event (reply_to device s.past is.event))) none
    (all_step s.past others 0 n s.lanes is.lane goes.entries_left goes.ops_left is.event goes.calm goes.all is.at is.next) in
    let more : length (entry ∷ s.past) ≡ suc (length s.past) = refl in
    subst (Goes others entries ops) (sym is.is) (record {
      calm = steps.calm;
      entries_left = steps.entries_left;
      ops_left = steps.ops_left;
      all = steps.all;
      entries_are = omega (arith, steps.one, goes.entries_are, more);
      ops_are = sym steps.ops_are ∙ goes.ops_are;
    })

-- once all lanes are through nothing is to come
stage_over : (others : List Object) (first : ℕ) (before : List Object) (stage : Stage) → SeesBuffers others first → All IsSpot (spots_in stage) → next_event (lane_in others first before stage) ≡ None → (entries_in stage ≡ 0) × (ops_in stage ≡ 0)
stage_over others first before (between []) sees all none = (refl, refl)
stage_over others first before (between (spot ∷ spots)) sees all none = absurd (cc (sym (write_next others first before spot spots sees (All-head IsSpot spot spots all)) ∙ none))
stage_over others first before (written spot spots) sees all none = absurd (cc (sym (create_next others first before spot spots) ∙ none))
stage_over others first before (opened n spot spots) sees all none = absurd (cc (sym (finish_next others first before n spot spots sees (All-head IsSpot spot spots all)) ∙ none))
stage_over others first before (finished n m spots) sees all none = absurd (cc (sym (submit_next others first before n m spots sees) ∙ none))

over : (past : Past) (others : List Object) (who : ℕ) (lane : LaneState) (entries ops : ℕ) → IsAt past others who lane entries ops → next_event lane ≡ None → (entries ≡ 0) × (ops ≡ 0)
over past others who lane entries ops at none =
    let end = stage_over others at.first at.before at.stage at.sees at.spots (sym (ap next_event at.is) ∙ none) in
    (at.entries_are ∙ end.0, at.ops_are ∙ end.1)

none_is : (found : Option Event) → is_none found ≡ true → found ≡ None
none_is None h = refl
none_is (Some event) h = absurd (cc (h))

both_are : (a b : Bool) → a && b ≡ true → (a ≡ true) × (b ≡ true)
both_are true b h = (refl, h)
both_are false b h = absurd (cc (h))

pub all_over : (past : Past) (others : List Object) (who : ℕ) (lanes : List LaneState) (entries ops : ℕ) → AllAt past others who lanes entries ops → all_through lanes ≡ true → (entries ≡ 0) × (ops ≡ 0)
all_over past others who [] entries ops all end = all
all_over past others who (lane ∷ lanes) entries ops all end =
    let both = both_are (is_none (next_event lane)) (all_through lanes) end in
    let one = over past others who lane all.0 all.1 all.4 (none_is (next_event lane) both.0) in
    let rest = all_over past others (suc who) lanes all.2 all.3 all.5 both.1 in
    (omega (arith, one.0, rest.0, all.6), omega (arith, one.1, rest.1, all.7))
