-- The lanes of each phase as they were played, over handles that are genuine at each moment.
use Rattle.std.proofs.Common.{◌≡◌, ◌≢◌, ℕ, zero, suc, ◌+◌, ◌<◌, ◌≤◌, List, [], ◌∷◌, ◌++◌, length, map, set, get_or, refl, ap, ap₂, sym, ◌∙◌, subst, arith, append-nil, ◌==◌}
use Rattle.std.specs.Prelude.{All}
use Rattle.std.specs.List.{flat_map}
use Rattle.std.proofs.lemmas.List.{length-append}
use Rattle.std.proofs.lemmas.List.Elements.{All-nil, All-cons, All-head, All-tail, All-filter}
use Rattle.wg_history.specs.declared.events.Setup.{Setup}
use Rattle.wg_history.specs.Entries.{Entry, Past}
use Rattle.wg_script.specs.CallOf.{BoundCall}
use Rattle.wg_names.specs.Bound.{made_in}
use Rattle.wg_play.specs.declared.objects.Object.{Object}
use Rattle.wg_play.specs.Sights.{Sight}
use Rattle.wg_play.specs.Lanes.{LaneState, next_event, count_made, starts_from, starts, gathered}
use Rattle.wg_play.specs.Turns.{entries_of_caller, AllGive, all_after, after_all}
use Rattle.wg_play.specs.Play.{after_, Interleaves}
use Rattle.wg_play.specs.Late.{Answered, after_calls}
use Rattle.wg_play.specs.Found.{ended_from}
use Rattle.wg_play.specs.Through.{IsReplied}
use Rattle.wg_play.specs.Kept.{HandlesAreGenuine, SeesGenuine, LanesSee}
use Rattle.wg_play.specs.Played.{PlayedCall, PlayedPhase, calls_in, entries_in, lanes_in, IsInterleaved, with_answer, answered_lanes, objects_next, objects_after}
use Rattle.wg_play.proofs.Turning.{RepliesAreRight, onto, not_past, first_gives, fewer, none_after, length_set, turn_is}
use Rattle.wg_play.proofs.Phases.{onto_more, answered_parts, starts_length}
use Rattle.wg_play.proofs.Passage.{end_of}
use Rattle.wg_play.proofs.Keeping.{objects_more}
use Rattle.wg_play.proofs.KeptLaw.{starts_genuine, turns_genuine, gathers_genuine}
use Rattle.wg_play.proofs.Backward.{after_first}
use Rattle.wg_play.proofs.Running.{Runs, LaneRuns, lane_with, lane_runs, goes_to}
use Rattle.wg_play.proofs.Makers.{lane_same, start_at, AllRun}

-- ---- lists

pub lanes_length : (lanes : List (List PlayedCall)) → length (map calls_in lanes) ≡ length lanes
lanes_length [] = refl
lanes_length (calls ∷ lanes) = ap suc (lanes_length lanes)

-- the entries of lane n and of those after it
abbrev AreOwn : ℕ → List (List PlayedCall) → List Entry → Type 0
AreOwn n [] part = Unit {0}
AreOwn n (calls ∷ lanes) part = (entries_of_caller n part ≡ entries_in calls) × AreOwn (suc n) lanes part

own_at : (n : ℕ) (lanes : List (List PlayedCall)) (part : List Entry) → AreOwn n lanes part → ((k : ℕ) → n + length lanes ≤ k → entries_of_caller k part ≡ [])
    → (i : ℕ) → entries_of_caller (n + i) part ≡ entries_in (get_or lanes i [])
own_at n [] part own few i = few (n + i) (omega arith)
own_at n (calls ∷ lanes) part own few zero = let here : n + 0 ≡ n = omega arith in subst (λ k. entries_of_caller k part ≡ entries_in calls) (sym here) own.0
own_at n (calls ∷ lanes) part own few (suc i) =
    let there : suc n + i ≡ n + suc i = omega arith in
    subst (λ k. entries_of_caller k part ≡ entries_in (get_or lanes i [])) there (own_at (suc n) lanes part own.1 (λ k le. few k (omega (arith, le))) i)

length-made : (calls : List BoundCall) (lanes : List (List BoundCall))
    → length (flat_map made_in (calls ∷ lanes)) ≡ length (made_in calls) + length (flat_map made_in lanes)
length-made calls lanes = length-append (made_in calls) (flat_map made_in lanes)

module _ (setup : Setup) where
  abbrev LaneSees : Past → LaneState → Type 0
  LaneSees past lane = SeesGenuine setup past lane.sight

  abbrev GiveAll : ℕ → List LaneState → List Entry → Type 0
  GiveAll n ws part = AllGive next_event (after_ setup) n ws part

  abbrev pub after_part : ℕ → List LaneState → List Entry → List LaneState
  after_part n ws part = all_after next_event (after_ setup) n ws part

  -- ---- the lanes of a phase

  -- from lane n on
  record LanesRun (others : List Object) (first n : ℕ) (lanes : List (List BoundCall)) (part : List Entry) : Type 0 where
    plays : List (List PlayedCall)
    are : map calls_in plays ≡ lanes
    own : AreOwn n plays part
    runs : AllRun setup others first plays
    end : (objects : List Object) → gathered objects (after_part n (starts_from others first lanes) part)
        ≡ gathered objects (ended_from setup others first (answered_lanes plays))

  lane_end : (start : Sight) (calls : List BoundCall) (entries : List Entry) (run : LaneRuns setup start calls entries)
      → end_of setup (lane_with start calls) entries ≡ lane_with (after_calls setup start (map with_answer run.plays)) []
  lane_end start calls entries run =
      let same : calls_in run.plays ++ [] ≡ calls = append-nil (calls_in run.plays) ∙ run.are in
      ap₂ (λ (cs : List BoundCall) (es : List Entry). end_of setup (lane_with start cs) es) (sym same) (sym run.own) ∙ goes_to setup run.plays
      [] start run.runs

  lanes_run : (others : List Object) (lanes : List (List BoundCall)) (first n : ℕ) (part : List Entry) → All (IsReplied setup) part
      → GiveAll n (starts_from others first lanes) part → LanesRun others first n lanes part
  lanes_run others [] first n part replied give = record { plays = []; are = refl; own = tt; runs = tt; end = λ objects. refl }
  lanes_run others (calls ∷ lanes) first n part replied give =
      let start : Sight = start_at setup others first in
      let own : List Entry = entries_of_caller n part in
      let one = lane_runs setup calls start own (All-filter (λ (e : Entry). e.who == n) (IsReplied setup) part replied) give.0 in
      let rest = lanes_run others lanes (first + count_made calls) (suc n) part replied give.1 in
      let sight : Sight = after_calls setup start (map with_answer one.plays) in
      let made_is : count_made calls ≡ count_made (map (λ (c : Answered). c.0) (map with_answer one.plays))
      = ap (λ (cs : List BoundCall). count_made cs) (sym (lane_same one.plays ∙ one.are)) in
      record {
        plays = one.plays ∷ rest.plays;
        are = ap₂ (λ (cs : List BoundCall) (ls : List (List BoundCall)). cs ∷ ls) one.are rest.are;
        own = (sym one.own, rest.own);
        runs = (one.runs, subst (λ (cs : List BoundCall). AllRun setup others (first + count_made cs) rest.plays) (sym one.are) rest.runs);
        end = λ objects.
            ap (λ (l : LaneState). gathered (objects ++ l.sight.own) (after_part (suc n) (starts_from others (first + count_made calls) lanes) part))
            (lane_end start calls own one)
            ∙ (rest.end (objects ++ sight.own) ∙ ap (λ m. gathered (objects ++ sight.own)
            (ended_from setup others (first + m) (answered_lanes rest.plays))) made_is);
      }

  all_replied : (part : List Entry) (past : Past) → RepliesAreRight setup past part → All (IsReplied setup) part
  all_replied [] past answered = All-nil (IsReplied setup)
  all_replied (e ∷ part) past answered = All-cons (IsReplied setup) e part (record { past = past; is = answered.0 }) (all_replied part (e ∷ past) answered.1)

  kept_onto : (part : List Entry) (past : Past) (objects : List Object) → HandlesAreGenuine setup past objects → HandlesAreGenuine setup (onto past part) objects
  kept_onto [] past objects kept = kept
  kept_onto (e ∷ part) past objects kept = kept_onto part (e ∷ past) objects (objects_more setup e past objects kept)

  module _ (some : setup.serial ≢ 0) where
    -- what the lanes see at a moment of a phase is genuine in its past
    sees_at : (front back : List Entry) (ws : List LaneState) (past : Past) → GiveAll 0 ws (front ++ back)
        → ((n : ℕ) → length ws ≤ n → entries_of_caller n (front ++ back) ≡ []) → RepliesAreRight setup past (front ++ back)
        → LanesSee setup past ws → LanesSee setup (onto past front) (after_part 0 ws front)
    sees_at [] back ws past give few answered sees = subst (LanesSee setup past) (sym (none_after next_event (after_ setup) 0 ws)) sees
    sees_at (e ∷ front) back ws past give few answered sees =
        let less : e.who < length ws = not_past e (front ++ back) (length ws) (few e.who) in
        let who : e.who ≡ 0 + e.who = omega arith in
        let one = first_gives next_event (after_ setup) 0 e.who ws e (front ++ back) who less give in
        let w : LaneState = one.0 in
        let next : List LaneState = set ws e.who (after_ setup w e.reply) in
        let turn = turn_is next_event (after_ setup) setup past ws e w one.1 one.2 answered.0 in
        let seen : LanesSee setup (e ∷ past) next = turns_genuine setup some (record { past = past; lanes = ws })
        (record { past = e ∷ past; lanes = next }) e.who turn sees in
        subst (LanesSee setup (onto (e ∷ past) front)) (after_first next_event (after_ setup) 0 e.who ws w e front who one.1)
        (sees_at front back next (e ∷ past) one.3
        (λ n le. fewer n e (front ++ back) (few n (omega (
          arith,
          le,
          length_set next_event (after_ setup) ws e.who
              (after_ setup w e.reply),
        )))) answered.1 seen)

    -- ---- phases one after another

    pub record PhaseRuns (objects : List Object) (past : Past) (phase : PlayedPhase) : Type 0 where
      pub runs : AllRun setup objects (length objects) phase.lanes
      pub own : IsInterleaved phase
      pub genuine : (front back : List Entry) → phase.entries ≡ front ++ back
          → LanesSee setup (onto past front) (after_part 0 (starts objects (lanes_in phase)) front)

    abbrev pub PhasesRun : List PlayedPhase → List Object → Past → Type 0
    PhasesRun [] objects past = Unit {0}
    PhasesRun (phase ∷ phases) objects past = PhaseRuns objects past phase × PhasesRun phases (objects_next setup objects phase.lanes)
        (onto past phase.entries)

    abbrev pub entries_of : List PlayedPhase → List Entry
    entries_of phases = flat_map (λ (phase : PlayedPhase). phase.entries) phases

    pub record ScriptRuns (phases : List (List (List BoundCall))) (objects : List Object) (past : Past) (log : List Entry) : Type 0 where
      pub plays : List PlayedPhase
      pub calls : map lanes_in plays ≡ phases
      pub entries : entries_of plays ≡ log
      pub run : PhasesRun plays objects past
      pub kept : HandlesAreGenuine setup (onto past log) (objects_after setup objects plays)

    pub script_runs : (phases : List (List (List BoundCall))) (objects : List Object) (past : Past) (log : List Entry) → HandlesAreGenuine setup past objects
        → Interleaves setup phases objects log → RepliesAreRight setup past log
        → ScriptRuns phases objects past log
    script_runs [] objects past log kept is answered =
        record { plays = []; calls = refl; entries = sym is; run = tt; kept = subst (λ (l : List Entry). HandlesAreGenuine setup (onto past l) objects) (sym is) kept }
    script_runs (phase ∷ phases) objects past log kept h answered =
        let part : List Entry = h.0 in
        let rest : List Entry = h.1 in
        let whole : log ≡ part ++ rest = h.2 in
        let parts = answered_parts setup part rest past (subst (RepliesAreRight setup past) whole answered) in
        let lanes = lanes_run objects phase (length objects) 0 part (all_replied part past parts.0) h.3 in
        let ws : List LaneState = starts objects phase in
        let played : PlayedPhase = record { entries = part; lanes = lanes.plays } in
        let few : (n : ℕ) → length ws ≤ n → entries_of_caller n part ≡ [] = λ n le. h.4 n (omega (arith, le, starts_length setup objects phase)) in
        let sees : LanesSee setup past ws = starts_genuine setup past objects phase kept in
        let at : (front back : List Entry) → part ≡ front ++ back → LanesSee setup (onto past front) (after_part 0 ws front)
        = λ front back is. sees_at front back ws past (subst (GiveAll 0 ws) is h.3) (λ n le. subst (λ (p : List Entry). entries_of_caller n p ≡ []) is (few n le))
        (subst (RepliesAreRight setup past) is parts.0) sees in
        let end : LanesSee setup (onto past part) (after_part 0 ws part) = at part [] (sym (append-nil part)) in
        let next : HandlesAreGenuine setup (onto past part) (objects_next setup objects played.lanes)
        = subst (HandlesAreGenuine setup (onto past part)) (lanes.end objects)
        (gathers_genuine setup (onto past part) objects (after_part 0 ws part) (kept_onto part past objects kept) end) in
        let tail = script_runs phases (objects_next setup objects played.lanes) (onto past part) rest next
        (subst (λ (os : List Object). Interleaves setup phases os rest) (lanes.end objects) h.5) parts.1 in
        let same : length phase ≡ length lanes.plays = ap (λ (ls : List (List BoundCall)). length ls) (sym lanes.are) ∙ lanes_length lanes.plays in
        record {
          plays = played ∷ tail.plays;
          calls = ap₂ (λ (p : List (List BoundCall)) (ps : List (List (List BoundCall))). p ∷ ps) lanes.are tail.calls;
          entries = ap (λ (l : List Entry). part ++ l) tail.entries ∙ sym whole;
          run = (
            record {
              runs = lanes.runs;
              own = λ n. (let zero_is : 0 + n ≡ n = omega arith in
                  subst (λ k. entries_of_caller k part ≡ entries_in (get_or lanes.plays n [])) zero_is
                  (own_at 0 lanes.plays part lanes.own (λ k le. h.4 k (omega (arith, le, same))) n));
              genuine = λ front back is. subst (λ (ls : List (List BoundCall)). LanesSee setup (onto past front) (after_part 0 (starts objects ls) front))
                  (sym lanes.are) (at front back is);
            },
            tail.run,
          );
          kept = subst (λ (p : Past). HandlesAreGenuine setup p (objects_after setup (objects_next setup objects played.lanes) tail.plays))
              (sym (onto_more part rest past) ∙ ap (onto past) (sym whole)) tail.kept;
        }

    -- ---- a phase at its place

    pub phase_at : (earlier : List PlayedPhase) (phase : PlayedPhase) (later : List PlayedPhase) (objects : List Object) (past : Past)
        → PhasesRun (earlier ++ phase ∷ later) objects past
        → PhaseRuns (objects_after setup objects earlier) (onto past (entries_of earlier)) phase
    phase_at [] phase later objects past run = run.0
    phase_at (first ∷ earlier) phase later objects past run =
        subst (λ (p : Past). PhaseRuns (objects_after setup (objects_next setup objects first.lanes) earlier) p phase)
        (sym (onto_more first.entries (entries_of earlier) past))
        (phase_at earlier phase later (objects_next setup objects first.lanes) (onto past first.entries) run.1)

    pub all_interleaved : (plays : List PlayedPhase) (objects : List Object) (past : Past) → PhasesRun plays objects past → All IsInterleaved plays
    all_interleaved [] objects past run = All-nil IsInterleaved
    all_interleaved (phase ∷ plays) objects past run = All-cons IsInterleaved phase plays run.0.own
        (all_interleaved plays (objects_next setup objects phase.lanes) (onto past phase.entries) run.1)

  -- ---- a lane at its place

  pub lane_run_at : (before : List (List PlayedCall)) (calls : List PlayedCall) (after : List (List PlayedCall)) (others : List Object) (first : ℕ)
      → AllRun setup others first (before ++ calls ∷ after)
      → Runs setup (start_at setup others (first + length (flat_map made_in (map calls_in before)))) calls
  lane_run_at [] calls after others first run =
      let same : first ≡ first + 0 = omega arith in subst (λ n. Runs setup (start_at setup others n) calls) same run.0
  lane_run_at (lane ∷ before) calls after others first run =
      let one : List (List BoundCall) = map calls_in before in
      let count = length-made (calls_in lane) one in
      let same : (first + count_made (calls_in lane)) + length (flat_map made_in one) ≡ first + length (flat_map made_in (calls_in lane ∷ one))
      = omega (arith, count) in
      subst (λ n. Runs setup (start_at setup others n) calls) same (lane_run_at before calls after others (first + count_made (calls_in lane)) run.1)

  pub lane_sees_at : (before : List (List BoundCall)) (calls : List BoundCall) (after : List (List BoundCall)) (others : List Object) (first n : ℕ)
      (past : Past) (front : List Entry)
      → LanesSee setup past (after_part n (starts_from others first (before ++ calls ∷ after)) front)
      → SeesGenuine setup past (after_all next_event (after_ setup) (lane_with (start_at setup others (first + length (flat_map made_in before))) calls)
      (entries_of_caller (n + length before) front)).sight
  lane_sees_at [] calls after others first n past front sees =
      let slot : first ≡ first + 0 = omega arith in
      let number : n ≡ n + 0 = omega arith in
      subst (λ k. SeesGenuine setup past (after_all next_event (after_ setup) (lane_with (start_at setup others (first + 0)) calls)
      (entries_of_caller k front)).sight) number
      (subst (λ k. SeesGenuine setup past (after_all next_event (after_ setup) (lane_with (start_at setup others k) calls) (entries_of_caller n front)).sight) slot
      (All-head (LaneSees past) (after_all next_event (after_ setup) (lane_with (start_at setup others first) calls) (entries_of_caller n front))
      (after_part (suc n) (starts_from others (first + count_made calls) after) front) sees))
  lane_sees_at (lane ∷ before) calls after others first n past front sees =
      let count = length-made lane before in
      let slot : (first + count_made lane) + length (flat_map made_in before) ≡ first + length (flat_map made_in (lane ∷ before)) = omega (arith, count) in
      let number : suc n + length before ≡ n + length (lane ∷ before) = omega arith in
      subst (λ k. SeesGenuine setup past (after_all next_event (after_ setup)
      (lane_with (start_at setup others (first + length (flat_map made_in (lane ∷ before)))) calls) (entries_of_caller k front)).sight) number
      (subst (λ k. SeesGenuine setup past (after_all next_event (after_ setup) (lane_with (start_at setup others k) calls)
      (entries_of_caller (suc n + length before) front)).sight) slot
      (lane_sees_at before calls after others (first + count_made lane) (suc n) past front
      (All-tail (LaneSees past) (after_all next_event (after_ setup) (lane_with (start_at setup others first) lane) (entries_of_caller n front))
      (after_part (suc n) (starts_from others (first + count_made lane) (before ++ calls ∷ after)) front) sees)))
