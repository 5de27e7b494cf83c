-- The phases of a generated script one after another, and how much their history has.
use Rattle.std.proofs.Common.{◌≡◌, ◌≤◌, ◌<◌, ℕ, zero, suc, ◌+◌, ◌*◌, Bool, true, false, ◌&&◌, Option, Some, None, List, [], ◌∷◌, ◌++◌, length, reverse, map, refl, sym, ap, subst, ◌∙◌, arith, append_assoc, append-nil, cond, if◌then◌else◌}
use Rattle.std.specs.Prelude.{is_none, option_and_then, option_map, count_by}
use Rattle.std.proofs.lemmas.List.{reverse-append, reverse-reverse, length-reverse, length-append}
use Rattle.std.proofs.lemmas.List.Sums.{sum_by_push, sum_by-cons}
use Rattle.wg_trace.specs.declared.replies.Answer.TheVariants.{Made}
use Rattle.wg_trace.specs.declared.replies.Reply.{Reply}
use Rattle.wg_types.specs.declared.requests.RequestOf.TheVariants.{Complete}
use Rattle.wg_history.specs.declared.events.Event.{Event}
use Rattle.wg_history.specs.declared.events.Event.TheVariants as event
use Rattle.wg_history.specs.Entries.{Entry, Past}
use Rattle.wg_history.specs.Objects.{count}
use Rattle.wg_history.specs.Operations.{is_queued, issued}
use Rattle.wg_history.specs.Answers.{reply_to}
use Rattle.wg_history.specs.Traces.{trace_after}
use Rattle.wg_script.specs.CallOf.{BoundCall}
use Rattle.wg_script.specs.declared.calls.CallOf.TheVariants.{Ask}
use Rattle.wg_play.specs.declared.objects.Object.{Object}
use Rattle.wg_play.specs.Lanes.{LaneState, next_event, settle, count_made, starts, starts_from, gathered}
use Rattle.wg_play.specs.Turns.{taken, phase_by}
use Rattle.wg_play.specs.Play.{after_, phases_by}
use Rattle.wg_gen.specs.declared.draws.Spot.{Spot}
use Rattle.wg_gen.specs.Generator.{spots, eight, creation, iterations, lane_of, lanes_from, ending, phases_of}
use Rattle.wg_gen.specs.Counts.{Tally, is_issue, is_fault, is_free, counts_in}
use Rattle.wg_gen.specs.Alike.{counts_for, CountsAlike}
use Rattle.wg_gen.proofs.Facts.{device, create_buffer, destroy, made, plain, entry_of, Calm, Ended}
use Rattle.wg_gen.proofs.Spots.{spots_are, spots_length}
use Rattle.wg_gen.proofs.Stages.{between, SeesBuffers, destructions, buffers_below, creating, destroying}
use Rattle.wg_gen.proofs.History.{calm_none, buffer_answer, buffer_calm}
use Rattle.wg_gen.proofs.Ends.{complete_answer, complete_ended, destroy_answer, destroy_ended}
use Rattle.wg_gen.proofs.Steps.{creating_none, creating_next, creating_after, buffers_at, buffers_length, destroying_none, destroying_next, destroying_after, complete_next, complete_after, creations_are, destructions_are}
use Rattle.wg_gen.proofs.Going.{Way, turn, lane_number, all_through, phase_keeps, IsAt, AllAt, Goes, goes_on, all_over}

-- ---- a phase of one lane

-- a turn of the one lane
record IsOne (past : Past) (lane : LaneState) (t : Way) : Type 0 where
  event : Event
  next : next_event lane ≡ Some event
  is : t ≡ record { past = entry_of 0 event (reply_to device past event) ∷ past; lanes = after_ device lane (reply_to device past event) ∷ [] }

alone : Past → LaneState → Way
alone past lane = record { past = past; lanes = lane ∷ [] }

one_turn : (past : Past) (lane : LaneState) (t : Way) (n : ℕ) → turn (alone past lane) n (lane_number (lane ∷ []) n) ≡ Some t → IsOne past lane t
unfolding alone
one_turn past lane t zero e = by_event (next_event lane) refl e
  where
    by_event : (found : Option Event) → next_event lane ≡ found → taken next_event (after_ device) device (alone past lane) 0 lane found ≡ Some t → IsOne past lane t
    by_event None next e = absurd (cc (e))
    by_event (Some event) next e = record { event = event; next = next; is = cc (sym e) }
one_turn past lane t (suc n) e = absurd (cc (e))

-- the one lane of a phase takes its turn, whose event and reply are known
known_turn : (s t : Way) (n : ℕ) (lane : LaneState) (event : Event) (reply : Reply) → s.lanes ≡ lane ∷ [] → turn s n (lane_number s.lanes n) ≡ Some t
    → next_event lane ≡ Some event → reply_to device s.past event ≡ reply → t ≡ record { past = entry_of 0 event reply ∷ s.past; lanes = after_ device lane reply ∷ [] }
unfolding alone
known_turn s t n lane event reply lanes turned next answer =
    let one : IsOne s.past lane t = one_turn s.past lane t n (subst (λ (ls : List LaneState). turn (record { past = s.past; lanes = ls }) n (lane_number ls n) ≡ Some t) lanes turned) in
    let same : one.event ≡ event = cc (sym one.next ∙ next) in
    one.is
    ∙ ap (λ (e : Event). record { past = entry_of 0 e (reply_to device s.past e) ∷ s.past; lanes = after_ device lane (reply_to device s.past e) ∷ [] }) same
    ∙ ap (λ (r : Reply). record { past = entry_of 0 event r ∷ s.past; lanes = after_ device lane r ∷ [] }) answer

-- and a lane that has no event takes none
no_turn : (s t : Way) (n : ℕ) (lane : LaneState) → s.lanes ≡ lane ∷ [] → turn s n (lane_number s.lanes n) ≡ Some t → next_event lane ≡ None → ⊥
unfolding alone
no_turn s t n lane lanes turned next =
    let one : IsOne s.past lane t = one_turn s.past lane t n (subst (λ (ls : List LaneState). turn (record { past = s.past; lanes = ls }) n (lane_number ls n) ≡ Some t) lanes turned) in
    absurd (cc (sym one.next ∙ next))

one_through : (lane : LaneState) → all_through (lane ∷ []) ≡ true → next_event lane ≡ None
one_through lane end = by_found (next_event lane) end
  where
    by_found : (found : Option Event) → is_none found && true ≡ true → found ≡ None
    by_found None h = refl
    by_found (Some event) h = absurd (cc (h))

-- ---- the buffers are created

record Creates (k n : ℕ) (s : Way) : Type 0 where
  all : k + n ≡ 8
  calm : Calm k s.past
  count_is : count s.past ≡ k
  length_is : length s.past ≡ k
  issued_is : issued s.past ≡ 0
  lanes : s.lanes ≡ creating k n ∷ []

record IsCreating (s : Way) : Type 0 where
  made : ℕ
  left : ℕ
  is : Creates made left s

creates_on : (s t : Way) (turned_by : ℕ) (k n : ℕ) → Creates k n s → turn s turned_by (lane_number s.lanes turned_by) ≡ Some t → IsCreating t
creates_on s t by k zero is turned = absurd (no_turn s t by (creating k 0) is.lanes turned (creating_none k))
creates_on s t by k (suc n) is turned =
    let lt : k < 8 = omega (arith, is.all) in
    let new : t ≡ record { past = entry_of 0 create_buffer (made s.past) ∷ s.past; lanes = after_ device (creating k (suc n)) (made s.past) ∷ [] }
    = known_turn s t by (creating k (suc n)) create_buffer (made s.past) is.lanes turned (creating_next k n) (buffer_answer k s.past is.calm is.count_is lt) in
    let answer : (made s.past).answer ≡ Made k true = ap (λ (c : ℕ). Made c true) is.count_is in
    subst IsCreating (sym new) (record {
      made = suc k;
      left = n;
      is = record {
        all = omega (arith, is.all);
        calm = buffer_calm k s.past 0 is.calm is.count_is lt;
        count_is = omega (arith, is.count_is);
        length_is = ap suc is.length_is;
        issued_is = is.issued_is;
        lanes = ap (λ (lane : LaneState). lane ∷ []) (creating_after k n (made s.past) answer);
      };
    })

creating_on : (s t : Way) (n : ℕ) → IsCreating s → turn s n (lane_number s.lanes n) ≡ Some t → IsCreating t
creating_on s t n is turned = creates_on s t n is.made is.left is.is turned

created : (s : Way) (k n : ℕ) → Creates k n s → all_through s.lanes ≡ true → Creates 8 0 s
created s k zero is end = subst (λ (m : ℕ). Creates m 0 s) (omega (arith, is.all)) is
created s k (suc n) is end = absurd (cc (sym (creating_next k n) ∙ one_through (creating k (suc n)) (sym (ap all_through is.lanes) ∙ end)))

-- ---- the lanes begin

-- each iteration makes two objects
iterations_make : (slot : ℕ) (list : List Spot) → count_made (iterations slot list) ≡ 2 * length list
iterations_make slot [] = refl
iterations_make slot (spot ∷ list) = omega (arith, iterations_make (slot + 2) list)

lane_makes : (n lane : ℕ) → count_made (lane_of n lane) ≡ 2 * n
lane_makes n lane = iterations_make (8 + 2 * (lane * n)) (spots n (lane + 1)) ∙ ap (λ (k : ℕ). 2 * k) (spots_length n (lane + 1))

buffers_seen : (more : List Object) (first : ℕ) → 8 ≤ first → SeesBuffers (buffers_below 8 ++ more) first
buffers_seen more first le = record { buffers = λ n lt. buffers_at 8 n more lt; later = le }

lane_starts : (past : Past) (n lane first : ℕ) → first ≡ 8 + 2 * (lane * n)
    → IsAt past (buffers_below 8) lane (record { sight = record { others = buffers_below 8; first = first; own = [] }; left = lane_of n lane }) (4 * n) (2 * n)
lane_starts past n lane first is = record {
  first = first;
  before = [];
  stage = between (spots n (lane + 1));
  is = ap (λ (slot : ℕ). record { sight = record { others = buffers_below 8; first = first; own = [] }; left = iterations slot (spots n (lane + 1)) }) (omega (arith, is));
  sees = buffers_seen [] first (omega (arith, is));
  spots = spots_are n (lane + 1);
  has = tt;
  entries_are = ap (λ (k : ℕ). 4 * k) (sym (spots_length n (lane + 1)));
  ops_are = ap (λ (k : ℕ). 2 * k) (sym (spots_length n (lane + 1)));
}

times_suc : (n l : ℕ) → n * suc l ≡ n + n * l
times_suc n l = omega arith

suc_times : (l n : ℕ) → suc l * n ≡ n + l * n
suc_times l n = omega arith

lanes_start : (past : Past) (n lane lanes first : ℕ) → first ≡ 8 + 2 * (lane * n) → AllAt past (buffers_below 8) lane (starts_from (buffers_below 8) first (lanes_from n lane lanes)) (4 * (n * lanes)) (2 * (n * lanes))
lanes_start past n lane zero first is = (omega arith, omega arith)
lanes_start past n lane (suc lanes) first is = (
  4 * n,
  2 * n,
  4 * (n * lanes),
  2 * (n * lanes),
  lane_starts past n lane first is,
  lanes_start past n (suc lane) lanes (first + count_made (lane_of n lane)) (omega (arith, is, lane_makes n lane, suc_times lane n)),
  omega (arith, times_suc n lanes),
  omega (arith, times_suc n lanes),
)

-- ---- the end

abbrev completing : List Object → ℕ → ℕ → List BoundCall → LaneState
completing others first op left = record { sight = record { others = others; first = first; own = [] }; left = Ask (Complete op) None ∷ left }

-- the device is told that all is complete, and then the buffers are destroyed
data IsEnding (op length_before : ℕ) (s : Way) : Type 0 where
  completes : (others : List Object) (first : ℕ) → SeesBuffers others first → Calm 8 s.past → issued s.past ≡ op → length s.past ≡ length_before → s.lanes ≡ completing others first op (destructions 0 8) ∷ [] → IsEnding op length_before s
  destroys : (others : List Object) (first k n : ℕ) → SeesBuffers others first → k + n ≡ 8 → Ended k s.past → issued s.past ≡ op → length s.past ≡ length_before + suc k → s.lanes ≡ destroying others first k n ∷ [] → IsEnding op length_before s

completes_on : (op before : ℕ) (s t : Way) (by : ℕ) (others : List Object) (first : ℕ) → 1 ≤ op → SeesBuffers others first → Calm 8 s.past → issued s.past ≡ op → length s.past ≡ before
    → s.lanes ≡ completing others first op (destructions 0 8) ∷ [] → turn s by (lane_number s.lanes by) ≡ Some t → IsEnding op before t
completes_on op before s t by others first some sees calm issued_is length_is lanes turned =
    let event : Event = event.Complete (issued s.past) in
    let start : s.lanes ≡ completing others first (issued s.past) (destructions 0 8) ∷ [] = lanes ∙ ap (λ (k : ℕ). completing others first k (destructions 0 8) ∷ []) (sym issued_is) in
    let le : 1 ≤ issued s.past = omega (arith, some, issued_is) in
    let new : t ≡ record { past = entry_of 0 event plain ∷ s.past; lanes = after_ device (completing others first (issued s.past) (destructions 0 8)) plain ∷ [] }
    = known_turn s t by (completing others first (issued s.past) (destructions 0 8)) event plain start turned (complete_next others first (issued s.past) (destructions 0 8)) (complete_answer s.past calm le) in
    subst (IsEnding op before) (sym new)
    (destroys others first 0 8 sees refl (complete_ended s.past 0 calm le) issued_is (omega (arith, length_is))
    (ap (λ (lane : LaneState). lane ∷ []) (complete_after others first (issued s.past) (destructions 0 8) plain)))

destroys_on : (op before : ℕ) (s t : Way) (by : ℕ) (others : List Object) (first k n : ℕ) → SeesBuffers others first → k + n ≡ 8 → Ended k s.past → issued s.past ≡ op → length s.past ≡ before + suc k
    → s.lanes ≡ destroying others first k n ∷ [] → turn s by (lane_number s.lanes by) ≡ Some t → IsEnding op before t
destroys_on op before s t by others first k zero sees all ended issued_is length_is lanes turned = absurd (no_turn s t by (destroying others first k 0) lanes turned (destroying_none others first k))
destroys_on op before s t by others first k (suc n) sees all ended issued_is length_is lanes turned =
    let lt : k < 8 = omega (arith, all) in
    let new : t ≡ record { past = entry_of 0 (destroy k) plain ∷ s.past; lanes = after_ device (destroying others first k (suc n)) plain ∷ [] }
    = known_turn s t by (destroying others first k (suc n)) (destroy k) plain lanes turned (destroying_next others first k n sees lt) (destroy_answer k s.past ended lt) in
    subst (IsEnding op before) (sym new)
    (destroys others first (suc k) n sees (omega (arith, all)) (destroy_ended k s.past 0 ended lt) issued_is (omega (arith, length_is))
    (ap (λ (lane : LaneState). lane ∷ []) (destroying_after others first k n plain)))

ending_on : (op before : ℕ) → 1 ≤ op → (s t : Way) (n : ℕ) → IsEnding op before s → turn s n (lane_number s.lanes n) ≡ Some t → IsEnding op before t
ending_on op before some s t n (completes others first sees calm issued_is length_is lanes) turned = completes_on op before s t n others first some sees calm issued_is length_is lanes turned
ending_on op before some s t n (destroys others first k m sees all ended issued_is length_is lanes) turned = destroys_on op before s t n others first k m sees all ended issued_is length_is lanes turned

-- a past in which all is over
record IsOver (op length_before : ℕ) (past : Past) : Type 0 where
  ended : Ended 8 past
  issued_is : issued past ≡ op
  length_is : length past ≡ length_before + 9

ending_over : (op before : ℕ) (s : Way) → IsEnding op before s → all_through s.lanes ≡ true → IsOver op before s.past
ending_over op before s (completes others first sees calm issued_is length_is lanes) end =
    absurd (cc (sym (complete_next others first op (destructions 0 8)) ∙ one_through (completing others first op (destructions 0 8)) (sym (ap all_through lanes) ∙ end)))
ending_over op before s (destroys others first k zero sees all ended issued_is length_is lanes) end =
    let eight_are : k ≡ 8 = omega (arith, all) in
    record { ended = subst (λ (m : ℕ). Ended m s.past) eight_are ended; issued_is = issued_is; length_is = omega (arith, length_is, eight_are) }
ending_over op before s (destroys others first k (suc n) sees all ended issued_is length_is lanes) end =
    let lt : k < 8 = omega (arith, all) in
    absurd (cc (sym (destroying_next others first k n sees lt) ∙ one_through (destroying others first k (suc n)) (sym (ap all_through lanes) ∙ end)))

-- ---- one phase after another

-- what is gathered begins with what there was
gathered_begins : (objects : List Object) (lanes : List LaneState) → (more : List Object) × (gathered objects lanes ≡ objects ++ more)
gathered_begins objects [] = ([], sym (append-nil objects))
gathered_begins objects (lane ∷ lanes) =
    let rest = gathered_begins (objects ++ (settle lane).sight.own) lanes in
    ((settle lane).sight.own ++ rest.0, rest.1 ∙ append_assoc objects ((settle lane).sight.own) rest.0)

abbrev Left : Type 0
Left = Way × List ℕ

-- a play goes on from a phase that is through
and_then_is : {X : Type 0} (f : Left → Option X) (found : Option Left) (x : X) → option_and_then f found ≡ Some x → (p : Left) × (found ≡ Some p) × (f p ≡ Some x)
and_then_is f None x e = absurd (cc (e))
and_then_is f (Some p) x e = (p, refl, e)

abbrev phase : List ℕ → Way → Option Left
phase turns s = phase_by next_event (after_ device) device turns s

no_phases : (objects : List Object) (turns : List ℕ) (past end : Past) → phases_by device [] objects turns past ≡ Some end → past ≡ end
no_phases objects [] past end e = cc (e)
no_phases objects (n ∷ turns) past end e = absurd (cc (e))

-- the last phase
last_over : (count lanes : ℕ) (turns : List ℕ) (objects : List Object) (past end : Past) → 1 ≤ count * lanes → SeesBuffers objects (length objects) → Calm 8 past → issued past ≡ 2 * (count * lanes)
    → phases_by device ((ending (count * lanes) ∷ []) ∷ []) objects turns past ≡ Some end → IsOver (2 * (count * lanes)) (length past) end
last_over count lanes turns objects past end some sees calm issued_is played =
    let op : ℕ = 2 * (count * lanes) in
    let s : Way = record { past = past; lanes = starts objects (ending (count * lanes) ∷ []) } in
    let through_is = and_then_is (λ p. phases_by device [] (gathered objects p.0.lanes) p.1 p.0.past) (phase turns s) end played in
    let begins : IsEnding op (length past) s
    = completes objects (length objects) sees calm issued_is refl (ap (λ (calls : List BoundCall). completing objects (length objects) op calls ∷ []) destructions_are) in
    let over = phase_keeps (IsEnding op (length past)) (ending_on op (length past) (omega (arith, some))) turns s through_is.0.0 through_is.0.1 begins through_is.1 in
    subst (IsOver op (length past)) (no_phases (gathered objects through_is.0.0.lanes) through_is.0.1 through_is.0.0.past end through_is.2)
    (ending_over op (length past) through_is.0.0 over.0 over.1)

-- the phase of the lanes, and the last
lanes_over : (count lanes : ℕ) (turns : List ℕ) (past end : Past) → 1 ≤ count * lanes → Calm 8 past → issued past ≡ 0
    → phases_by device (lanes_from count 0 lanes ∷ (ending (count * lanes) ∷ []) ∷ []) (buffers_below 8) turns past ≡ Some end → IsOver (2 * (count * lanes)) (length past + 4 * (count * lanes)) end
lanes_over count lanes turns past end some calm issued_is played =
    let entries : ℕ = length past + 4 * (count * lanes) in
    let ops : ℕ = 2 * (count * lanes) in
    let objects : List Object = buffers_below 8 in
    let s : Way = record { past = past; lanes = starts objects (lanes_from count 0 lanes) } in
    let through_is = and_then_is (λ p. phases_by device ((ending (count * lanes) ∷ []) ∷ []) (gathered objects p.0.lanes) p.1 p.0.past) (phase turns s) end played in
    let begins : Goes objects entries ops s
    = record {
      calm = calm;
      entries_left = 4 * (count * lanes);
      ops_left = 2 * (count * lanes);
      all = lanes_start past count 0 lanes (length objects) (omega (arith, buffers_length 8));
      entries_are = omega arith;
      ops_are = omega (arith, issued_is);
    } in
    let t : Way = through_is.0.0 in
    let keeps = phase_keeps (Goes objects entries ops) (goes_on objects entries ops) turns s t through_is.0.1 begins through_is.1 in
    let goes : Goes objects entries ops t = keeps.0 in
    let none = all_over t.past objects 0 t.lanes goes.entries_left goes.ops_left goes.all keeps.1 in
    let more = gathered_begins objects t.lanes in
    let long : 8 ≤ length (objects ++ more.0) = omega (arith, length-append objects more.0, buffers_length 8) in
    let sees : SeesBuffers (gathered objects t.lanes) (length (gathered objects t.lanes))
    = subst (λ (all : List Object). SeesBuffers all (length all)) (sym more.1) (buffers_seen more.0 (length (objects ++ more.0)) long) in
    let issued_now : issued t.past ≡ ops = omega (arith, none.1, goes.ops_are) in
    let length_now : length t.past ≡ entries = omega (arith, none.0, goes.entries_are) in
    subst (λ (k : ℕ). IsOver ops k end) length_now (last_over count lanes through_is.0.1 (gathered objects t.lanes) t.past end some sees goes.calm issued_now through_is.2)

-- all three
all_phases_over : (count lanes : ℕ) (turns : List ℕ) (end : Past) → 1 ≤ count * lanes → phases_by device (phases_of count lanes) [] turns [] ≡ Some end → IsOver (2 * (count * lanes)) (8 + 4 * (count * lanes)) end
all_phases_over count lanes turns end some played =
    let s : Way = record { past = []; lanes = starts [] (map creation eight ∷ []) } in
    let rest : List (List (List BoundCall)) = lanes_from count 0 lanes ∷ (ending (count * lanes) ∷ []) ∷ [] in
    let through_is = and_then_is (λ p. phases_by device rest (gathered [] p.0.lanes) p.1 p.0.past) (phase turns s) end played in
    let t : Way = through_is.0.0 in
    let begins : IsCreating s
    = record {
      made = 0;
      left = 8;
      is = record {
        all = refl;
        calm = calm_none;
        count_is = refl;
        length_is = refl;
        issued_is = refl;
        lanes = ap (λ (calls : List BoundCall). record { sight = record { others = []; first = 0; own = [] }; left = calls } ∷ []) creations_are;
      };
    } in
    let keeps = phase_keeps IsCreating creating_on turns s t through_is.0.1 begins through_is.1 in
    let creates : Creates 8 0 t = created t keeps.0.made keeps.0.left keeps.0.is keeps.1 in
    let objects : gathered [] t.lanes ≡ buffers_below 8 = ap (gathered []) creates.lanes in
    subst (λ (k : ℕ). IsOver (2 * (count * lanes)) (k + 4 * (count * lanes)) end) creates.length_is
    (lanes_over count lanes through_is.0.1 t.past end some creates.calm creates.issued_is (subst (λ (all : List Object). phases_by device rest all through_is.0.1 t.past ≡ Some end) objects through_is.2))

-- ---- what is counted

count_reversed : {X : Type 0} (test : X → Bool) (xs : List X) → count_by test (reverse xs) ≡ count_by test xs
count_reversed test [] = refl
count_reversed test (x ∷ xs) =
    let back : reverse (x ∷ xs) ≡ reverse xs ++ x ∷ [] = reverse-append (x ∷ []) xs in
    ap (count_by test) back
    ∙ (sum_by_push (λ y. cond (test y) 1 0) (reverse xs) x ∙ omega (arith, count_reversed test xs, sum_by-cons (λ y. cond (test y) 1 0) x xs))

issue_next : (queued_now : Bool) (rest issued_before : ℕ) → rest ≡ issued_before → cond queued_now 1 0 + rest ≡ (if queued_now then issued_before + 1 else issued_before)
issue_next true rest issued_before same = omega (arith, same)
issue_next false rest issued_before same = omega (arith, same)

issues_are : (past : Past) → count_by is_issue past ≡ issued past
issues_are [] = refl
issues_are (entry ∷ past) = sum_by-cons (λ (e : Entry). cond (is_issue e) 1 0) entry past ∙ issue_next (is_queued entry.reply.answer) (count_by is_issue past) (issued past) (issues_are past)

some_past : (found : Option Past) (history : List Entry) → option_map reverse found ≡ Some history → (past : Past) × (found ≡ Some past) × (reverse past ≡ history)
some_past None history is = absurd (cc (is))
some_past (Some past) history is = (past, refl, cc (is))

counts_equal : (a b : Tally) → a.entries ≡ b.entries → a.ops ≡ b.ops → a.faults ≡ b.faults → a.frees ≡ b.frees → a ≡ b
counts_equal a b entries ops faults frees =
    ap (λ (k : ℕ). record { entries = k; ops = a.ops; faults = a.faults; frees = a.frees }) entries
    ∙ (ap (λ (k : ℕ). record { entries = b.entries; ops = k; faults = a.faults; frees = a.frees }) ops
    ∙ (ap (λ (k : ℕ). record { entries = b.entries; ops = b.ops; faults = k; frees = a.frees }) faults
    ∙ ap (λ (k : ℕ). record { entries = b.entries; ops = b.ops; faults = b.faults; frees = k }) frees))

over_counts : (op before : ℕ) (past : Past) → IsOver op before past → counts_in device (reverse past) ≡ record { entries = before + 9; ops = op; faults = 0; frees = 8 }
over_counts op before past over =
    counts_equal (counts_in device (reverse past)) (record { entries = before + 9; ops = op; faults = 0; frees = 8 })
    (length-reverse past ∙ over.length_is)
    (count_reversed is_issue past ∙ (issues_are past ∙ over.issued_is))
    (count_reversed is_fault past ∙ over.ended.faults)
    (ap (λ (p : Past). count_by is_free (trace_after device p)) (reverse-reverse past) ∙ over.ended.frees)

times_some : (a b : ℕ) → 1 ≤ a → 1 ≤ b → 1 ≤ a * b
times_some zero b some other = absurd (omega (arith, some))
times_some (suc a) b some other = omega (arith, other, suc_times a b)

pub counts_alike : CountsAlike
counts_alike count lanes may turns history played =
    let found = some_past (phases_by device (phases_of count lanes) [] turns []) history played in
    let over : IsOver (2 * (count * lanes)) (8 + 4 * (count * lanes)) found.0 = all_phases_over count lanes turns found.0 (times_some count lanes may.some may.any) found.1 in
    let counts : counts_in device (reverse found.0) ≡ counts_for count lanes
    = over_counts (2 * (count * lanes)) (8 + 4 * (count * lanes)) found.0 over ∙ ap (λ (k : ℕ). record { entries = k; ops = 2 * (count * lanes); faults = 0; frees = 8 }) (omega arith) in
    subst (λ (h : List Entry). counts_in device h ≡ counts_for count lanes) found.2 counts
