-- A phase that was run is one phase more of what the script gives.
use Rattle.std.proofs.Common.{◌≡◌, ℕ, zero, suc, ◌+◌, ◌<◌, ◌≤◌, eqb, ltb, cond, Bool, true, false, List, [], ◌∷◌, ◌++◌, All, map, flat_map, take, get_or, length, refl, ap, sym, ◌∙◌, subst, arith, append_assoc, append-nil}
use Rattle.std.proofs.lemmas.Bool.Decides.{nat_tests}
use Rattle.std.proofs.lemmas.List.{take_more}
use Rattle.std.proofs.lemmas.List.Elements.{All-nil, All-cons}
use mathlib.Core.List.{IsPrefix}
use Rattle.wg_history.specs.declared.events.Setup.{Setup}
use Rattle.wg_history.specs.Entries.{Entry}
use Rattle.wg_turn.specs.Passes.{IsPassOf, IsSamePass, opened_with}
use Rattle.wg_device.specs.Fronts.{Lock, DevicePass, front_in, setup_of, IsSoundIn}
use Rattle.wg_script.specs.CallOf.{BoundCall}
use Rattle.wg_play.specs.Turns.{entries_of_caller, all_after, after_all}
use Rattle.wg_play.specs.declared.objects.Object.{Object}
use Rattle.wg_play.specs.Sights.{Sight}
use Rattle.wg_play.specs.Lanes.{LaneState, settled, settle, starts_from, gathered, next_event, count_made}
use Rattle.wg_play.specs.Play.{after_, PlaysTo}
use Rattle.wg_play.proofs.Parts.{plays_more}
use Rattle.wg_player.specs.Moves.{PassMoves, lane_at, MetAt, AllPassesAt, Goes}
use Rattle.wg_player.specs.Seats.{calls_of, first_of, sight_at, sight_with, HaveRun, HasRunPhase}
use Rattle.wg_player.proofs.Going.{goes_after}
use Rattle.wg_player.proofs.Played.{gives_one, seen_is, all_gave, drop_all}

-- after a phase the passes are where they can begin the next
pub at_after : (lock : Lock) (n : ℕ) (lanes : List (List BoundCall)) (objects : List Object) (front after : List Entry) (ps qs : List DevicePass) (bs : List (DevicePass × List Object))
    → AllPassesAt lock n ps front → HaveRun lock lanes objects ps bs → MetAt lock after (map (λ b. b.0) bs) qs → AllPassesAt lock n qs after
at_after lock n lanes objects front after [] qs bs at run met = none qs (subst (λ (l : List (DevicePass × List Object)). MetAt lock after (map (λ b. b.0) l) qs) run met) where
  none : (qs : List DevicePass) → MetAt lock after [] qs → AllPassesAt lock n qs after
  none [] h = tt
  none (q ∷ qs) h = absurd h
at_after lock n lanes objects front after (p ∷ ps) qs [] at run met = absurd run
at_after lock n lanes objects front after (p ∷ ps) [] (b ∷ bs) at run met = absurd met
at_after lock n lanes objects front after (p ∷ ps) (q ∷ qs) (b ∷ bs) at run met =
    (met.1.0 ∙ (run.0.number ∙ at.0), met.0, met.3, met.2, at_after lock (suc n) lanes objects front after ps qs bs at.4 run.1 met.5)

calls_past : (lanes : List (List BoundCall)) (n : ℕ) → length lanes ≤ n → calls_of lanes n ≡ []
calls_past [] n le = refl
calls_past (calls ∷ lanes) zero le = absurd (omega arith)
calls_past (calls ∷ lanes) (suc n) le = calls_past lanes n (omega arith)

-- a lane with no calls makes no entries and no objects
goes_none : (setup : Setup) (others own : List Object) (first : ℕ) (calls : List BoundCall) (es : List Entry) → calls ≡ []
    → Goes setup (lane_at (record { others = others; first = first; own = [] }) calls 0) es (lane_at (record { others = others; first = first; own = own }) calls (length calls)) → (es ≡ []) × (own ≡ [])
goes_none setup others own first [] [] none goes = (refl, sym (ap (λ (w : LaneState). w.sight.own) goes))
goes_none setup others own first [] (e ∷ es) none goes = absurd (cc (goes.0))
goes_none setup others own first (c ∷ cs) es none goes = absurd (cc (none))

-- at the end of its calls a lane has settled
at_end : (sight : Sight) (calls : List BoundCall) → (settle (lane_at sight calls (length calls))).sight.own ≡ sight.own
at_end sight calls = ap (λ (l : List BoundCall). (settled sight l).sight.own) (drop_all calls)

module _ (lock : Lock) (others : List Object) (front part : List Entry) (empty : (opened_with lock).history ≡ []) where
  -- what a pass of a number that has no lane made
  idle : (n : ℕ) (lanes : List (List BoundCall)) (own : List Object) (p b q : DevicePass) → p.number ≡ n → calls_of lanes n ≡ [] → front_in lock p ≡ front → IsSoundIn lock p
      → PassMoves (setup_of lock) lock (lane_at (sight_at others lanes p.number) (calls_of lanes p.number) 0) (lane_at (sight_with others lanes p.number own) (calls_of lanes p.number) (length (calls_of lanes p.number))) p b
      → IsSamePass b q → IsSoundIn lock q → front_in lock q ≡ front ++ part → (entries_of_caller n part ≡ []) × (own ≡ [])
  idle n lanes own p b q is none at sound m same sound_after at_after =
      let w : LaneState = lane_at (sight_at others lanes p.number) (calls_of lanes p.number) 0 in
      let v : LaneState = lane_at (sight_with others lanes p.number own) (calls_of lanes p.number) (length (calls_of lanes p.number)) in
      let es = gives_one lock others front part empty n w v p b q is at sound m same sound_after at_after in
      let still = goes_none (setup_of lock) others own (first_of (length others) lanes p.number) (calls_of lanes p.number) m.entries (ap (calls_of lanes) is ∙ none) m.goes in
      (es ∙ still.0, still.1)

  few_at : (n k : ℕ) (lanes : List (List BoundCall)) (ps qs : List DevicePass) (bs : List (DevicePass × List Object)) → k < length ps → calls_of lanes (n + k) ≡ []
      → AllPassesAt lock n ps front → HaveRun lock lanes others ps bs → MetAt lock (front ++ part) (map (λ (b : DevicePass × List Object). b.0) bs) qs → entries_of_caller (n + k) part ≡ []
  few_at n k lanes [] qs bs lt none at run met = absurd (omega (arith, lt))
  few_at n k lanes (p ∷ ps) qs [] lt none at run met = absurd run
  few_at n k lanes (p ∷ ps) [] (b ∷ bs) lt none at run met = absurd met
  few_at n zero lanes (p ∷ ps) (q ∷ qs) (b ∷ bs) lt none at run met =
      let e : n + 0 ≡ n = omega arith in
      ap (λ m. entries_of_caller m part) e ∙ (idle n lanes b.1 p b.0 q at.0 (ap (calls_of lanes) (sym e) ∙ none) at.2 at.3 run.0 met.1 met.2 met.3).0
  few_at n (suc k) lanes (p ∷ ps) (q ∷ qs) (b ∷ bs) lt none at run met =
      let e : n + suc k ≡ suc n + k = omega arith in
      ap (λ m. entries_of_caller m part) e ∙ few_at (suc n) k lanes ps qs bs (omega arith) (ap (calls_of lanes) (sym e) ∙ none) at.4 run.1 met.5

  -- nobody but the lanes' numbers has entries in the part
  others_none : (m : ℕ) (qs : List DevicePass) → lock.callers ≤ m → 0 < length qs → AllPassesAt lock 0 qs (front ++ part) → entries_of_caller m (front ++ part) ≡ []
  others_none m [] le some at = absurd (omega arith)
  others_none m (q ∷ qs) le some at = subst (λ (l : List Entry). entries_of_caller m l ≡ []) (seen_is lock others front part empty q (front ++ part) at.2) (at.3.no_others m le)

  -- what the lanes made
  gathered_from : (n first : ℕ) (lanes phase : List (List BoundCall)) (objects : List Object) (ps qs : List DevicePass) (bs : List (DevicePass × List Object))
      → ((k : ℕ) → calls_of phase k ≡ calls_of lanes (n + k)) → ((k : ℕ) → first_of first phase k ≡ first_of (length others) lanes (n + k)) → length phase ≤ length ps
      → AllPassesAt lock n ps front → HaveRun lock lanes others ps bs → MetAt lock (front ++ part) (map (λ (b : DevicePass × List Object). b.0) bs) qs
      → gathered objects (all_after next_event (after_ (setup_of lock)) n (starts_from others first phase) part) ≡ objects ++ flat_map (λ (b : DevicePass × List Object). b.1) bs
  gathered_from n first lanes [] objects [] qs bs rest slots le at run met = sym (append-nil objects) ∙ ap (λ (l : List (DevicePass × List Object)). objects ++ flat_map (λ b. b.1) l) (sym run)
  gathered_from n first lanes [] objects (p ∷ ps) qs [] rest slots le at run met = absurd run
  gathered_from n first lanes [] objects (p ∷ ps) [] (b ∷ bs) rest slots le at run met = absurd met
  gathered_from n first lanes [] objects (p ∷ ps) (q ∷ qs) (b ∷ bs) rest slots le at run met =
      let e : n + 0 ≡ n = omega arith in
      let calls : calls_of lanes n ≡ [] = ap (calls_of lanes) (sym e) ∙ sym (rest 0) in
      let own = (idle n lanes b.1 p b.0 q at.0 calls at.2 at.3 run.0 met.1 met.2 met.3).1 in
      let more = gathered_from (suc n) first lanes [] objects ps qs bs (λ k. let d : n + suc k ≡ suc n + k = omega arith in rest (suc k) ∙ ap (calls_of lanes) d)
      (λ k. let d : n + suc k ≡ suc n + k = omega arith in slots (suc k) ∙ ap (first_of (length others) lanes) d) (omega arith) at.4 run.1 met.5 in
      more ∙ ap (λ (l : List Object). objects ++ (l ++ flat_map (λ (b : DevicePass × List Object). b.1) bs)) (sym own)
  gathered_from n first lanes (calls ∷ phase) objects [] qs bs rest slots le at run met = absurd (omega (arith, le))
  gathered_from n first lanes (calls ∷ phase) objects (p ∷ ps) qs [] rest slots le at run met = absurd run
  gathered_from n first lanes (calls ∷ phase) objects (p ∷ ps) [] (b ∷ bs) rest slots le at run met = absurd met
  gathered_from n first lanes (calls ∷ phase) objects (p ∷ ps) (q ∷ qs) (b ∷ bs) rest slots le at run met =
      let m = run.0 in let e : n + 0 ≡ n = omega arith in
      let these : calls ≡ calls_of lanes p.number = rest 0 ∙ ap (calls_of lanes) (e ∙ sym at.0) in
      let slot : first ≡ first_of (length others) lanes p.number = slots 0 ∙ ap (first_of (length others) lanes) (e ∙ sym at.0) in
      let w : LaneState = lane_at (sight_at others lanes p.number) (calls_of lanes p.number) 0 in
      let v : LaneState = lane_at (sight_with others lanes p.number b.1) (calls_of lanes p.number) (length (calls_of lanes p.number)) in
      let es = gives_one lock others front part empty n w v p b.0 q at.0 at.2 at.3 m met.1 met.2 met.3 in
      let start : ℕ → List BoundCall → LaneState = λ f cs. record { sight = record { others = others; first = f; own = [] }; left = cs } in
      let end = goes_after (setup_of lock) w v m.entries m.goes in
      let own : (settle (after_all next_event (after_ (setup_of lock)) (start first calls) (entries_of_caller n part))).sight.own ≡ b.1 =
      ap (λ (l : List Entry). (settle (after_all next_event (after_ (setup_of lock)) (start first calls) l)).sight.own) es
      ∙ (ap (λ (f : ℕ). (settle (after_all next_event (after_ (setup_of lock)) (start f calls) m.entries)).sight.own) slot
      ∙ (ap (λ (cs : List BoundCall). (settle (after_all next_event (after_ (setup_of lock)) (start (first_of (length others) lanes p.number) cs) m.entries)).sight.own) these
      ∙ (ap (λ (w : LaneState). w.sight.own) end ∙ at_end (sight_with others lanes p.number b.1) (calls_of lanes p.number)))) in
      let more = gathered_from (suc n) (first + count_made calls) lanes phase (objects ++ b.1) ps qs bs (λ k. let d : n + suc k ≡ suc n + k = omega arith in rest (suc k) ∙ ap (calls_of lanes) d)
      (λ k. let d : n + suc k ≡ suc n + k = omega arith in slots (suc k) ∙ ap (first_of (length others) lanes) d) (omega arith) at.4 run.1 met.5 in
      ap (λ (l : List Object). gathered (objects ++ l) (all_after next_event (after_ (setup_of lock)) (suc n) (starts_from others (first + count_made calls) phase) part)) own
      ∙ (more ∙ append_assoc objects b.1 (flat_map (λ (b : DevicePass × List Object). b.1) bs))

  some_left : (lanes : List (List BoundCall)) (ps qs : List DevicePass) (bs : List (DevicePass × List Object)) (after : List Entry) → 0 < length ps → HaveRun lock lanes others ps bs → MetAt lock after (map (λ (b : DevicePass × List Object). b.0) bs) qs → 0 < length qs
  some_left lanes [] qs bs after some run met = absurd (omega (arith, some))
  some_left lanes (p ∷ ps) qs [] after some run met = absurd run
  some_left lanes (p ∷ ps) [] (b ∷ bs) after some run met = absurd met
  some_left lanes (p ∷ ps) (q ∷ qs) (b ∷ bs) after some run met = omega arith

-- the new front begins with the old one
begins : (lock : Lock) (n : ℕ) (lanes : List (List BoundCall)) (objects : List Object) (front after : List Entry) (ps qs : List DevicePass) (bs : List (DevicePass × List Object))
    → 0 < length ps → AllPassesAt lock n ps front → HaveRun lock lanes objects ps bs → MetAt lock after (map (λ b. b.0) bs) qs → IsPrefix front after
begins lock n lanes objects front after [] qs bs some at run met = absurd (omega (arith, some))
begins lock n lanes objects front after (p ∷ ps) qs [] some at run met = absurd run
begins lock n lanes objects front after (p ∷ ps) [] (b ∷ bs) some at run met = absurd met
begins lock n lanes objects front after (p ∷ ps) (q ∷ qs) (b ∷ bs) some at run met =
    let seen = run.0.seen in let up = met.4 in
    let from : IsPrefix front (front_in lock b.0) = subst (λ (l : List Entry). IsPrefix l (front_in lock b.0)) at.2 seen in
    (from.0 ++ up.0, sym (append_assoc front from.0 up.0) ∙ (ap (λ (w : List Entry). w ++ up.0) from.1 ∙ up.1))

by_test : (n : ℕ) (e : Entry) (rest : List Entry) (X : Type 0) → (entries_of_caller n rest ≡ [] → X) → (t : Bool) → cond t (e ∷ entries_of_caller n rest) (entries_of_caller n rest) ≡ [] → X
by_test n e rest X f true q = absurd (cc (q))
by_test n e rest X f false q = f q

drop_front : (n : ℕ) (front part : List Entry) → entries_of_caller n (front ++ part) ≡ [] → entries_of_caller n part ≡ []
drop_front n [] part h = h
drop_front n (e ∷ front) part h = by_test n e (front ++ part) (entries_of_caller n part ≡ []) (drop_front n front part) (eqb e.who n) h

either : (lock : Lock) (lanes : List (List BoundCall)) (objects : List Object) (front part : List Entry) (ps qs : List DevicePass) (bs : List (DevicePass × List Object)) → (opened_with lock).history ≡ [] → length ps ≡ lock.callers → 0 < length ps
    → AllPassesAt lock 0 ps front → HaveRun lock lanes objects ps bs → MetAt lock (front ++ part) (map (λ b. b.0) bs) qs → AllPassesAt lock 0 qs (front ++ part)
    → (n : ℕ) → calls_of lanes n ≡ [] → (t : Bool) → ltb n (length ps) ≡ t → entries_of_caller n part ≡ []
either lock lanes objects front part ps qs bs empty all some at run met next_at n none true e =
    let lt : n < length ps = grind (arith, nat_tests) in let z : 0 + n ≡ n = omega arith in
    subst (λ m. entries_of_caller m part ≡ []) z (few_at lock objects front part empty 0 n lanes ps qs bs lt (ap (calls_of lanes) z ∙ none) at run met)
either lock lanes objects front part ps qs bs empty all some at run met next_at n none false e =
    let le : length ps ≤ n = grind (arith, nat_tests) in
    drop_front n front part (others_none lock objects front part empty n qs (omega arith) (some_left lock objects front part empty lanes ps qs bs (front ++ part) some run met) next_at)

-- where the phases so far were played, and one more was run, these phases and that one are played
pub one_more : (lock : Lock) (phases : List (List (List BoundCall))) (lanes : List (List BoundCall)) (objects objects_after : List Object) (front : List Entry) (ps qs : List DevicePass) → (opened_with lock).history ≡ []
    → length ps ≡ lock.callers → length lanes ≤ length ps → 0 < length ps → AllPassesAt lock 0 ps front → PlaysTo (setup_of lock) phases [] front objects → HasRunPhase lock lanes objects objects_after ps qs
    → (after : List Entry) × AllPassesAt lock 0 qs after × PlaysTo (setup_of lock) (phases ++ lanes ∷ []) [] after objects_after
one_more lock phases lanes objects objects_after front ps qs empty all few some at plays r =
    let after = r.met.0 in
    let begun = begins lock 0 lanes objects front after ps qs r.ends some at r.ran r.met.1 in
    let part = begun.0 in
    let met = subst (λ (l : List Entry). MetAt lock l (map (λ b. b.0) r.ends) qs) (sym begun.1) r.met.1 in
    let next_at = at_after lock 0 lanes objects front (front ++ part) ps qs r.ends at r.ran met in
    let zeros : (k : ℕ) → calls_of lanes k ≡ calls_of lanes (0 + k) = λ k. (let e : 0 + k ≡ k = omega arith in ap (calls_of lanes) (sym e)) in
    let slots : (k : ℕ) → first_of (length objects) lanes k ≡ first_of (length objects) lanes (0 + k) = λ k. (let e : 0 + k ≡ k = omega arith in ap (first_of (length objects) lanes) (sym e)) in
    let none : (n : ℕ) → length lanes ≤ n → entries_of_caller n part ≡ [] = λ n le. either lock lanes objects front part ps qs r.ends empty all some at r.ran met next_at n (calls_past lanes n le) (ltb n (length ps)) refl in
    let gathers = gathered_from lock objects front part empty 0 (length objects) lanes lanes objects ps qs r.ends zeros slots few at r.ran met in
    let gives = all_gave lock objects front part empty 0 (length objects) lanes lanes ps qs r.ends zeros slots few at r.ran met in
    (front ++ part, next_at, subst (PlaysTo (setup_of lock) (phases ++ lanes ∷ []) [] (front ++ part)) (gathers ∙ sym r.gathered) (plays_more (setup_of lock) phases lanes [] objects front part plays gives none))

-- as many passes come back
as_many : (lock : Lock) (lanes : List (List BoundCall)) (objects : List Object) (after : List Entry) (ps qs : List DevicePass) (bs : List (DevicePass × List Object))
    → HaveRun lock lanes objects ps bs → MetAt lock after (map (λ b. b.0) bs) qs → length qs ≡ length ps
as_many lock lanes objects after [] qs bs run met = none qs (subst (λ (l : List (DevicePass × List Object)). MetAt lock after (map (λ b. b.0) l) qs) run met) where
  none : (qs : List DevicePass) → MetAt lock after [] qs → length qs ≡ 0
  none [] h = refl
  none (q ∷ qs) h = absurd h
as_many lock lanes objects after (p ∷ ps) qs [] run met = absurd run
as_many lock lanes objects after (p ∷ ps) [] (b ∷ bs) run met = absurd met
as_many lock lanes objects after (p ∷ ps) (q ∷ qs) (b ∷ bs) run met = ap suc (as_many lock lanes objects after ps qs bs run.1 met.5)

-- the same for a list of phases
pub phase_more : (lock : Lock) (phases : List (List (List BoundCall))) (i : ℕ) (lanes : List (List BoundCall)) (objects objects_after : List Object) (front : List Entry) (ps qs : List DevicePass) → (opened_with lock).history ≡ []
    → length ps ≡ lock.callers → length lanes ≤ length ps → 0 < length ps → AllPassesAt lock 0 ps front → PlaysTo (setup_of lock) (take i phases) [] front objects → HasRunPhase lock lanes objects objects_after ps qs
    → i < length phases → lanes ≡ get_or phases i lanes
    → (after : List Entry) × (length qs ≡ length ps) × AllPassesAt lock 0 qs after × PlaysTo (setup_of lock) (take (i + 1) phases) [] after objects_after
phase_more lock phases i lanes objects objects_after front ps qs empty all few some at plays r lt is =
    let one = one_more lock (take i phases) lanes objects objects_after front ps qs empty all few some at plays r in
    let whole : take (i + 1) phases ≡ take i phases ++ lanes ∷ [] = take_more phases i lanes lt ∙ ap (λ (l : List (List BoundCall)). take i phases ++ l ∷ []) (sym is) in
    (one.0, as_many lock lanes objects r.met.0 ps qs r.ends r.ran r.met.1, one.1, subst (λ (l : List (List (List BoundCall))). PlaysTo (setup_of lock) l [] one.0 objects_after) (sym whole) one.2)

pub passes_of : (lock : Lock) (n : ℕ) (front : List Entry) (ps : List DevicePass) → AllPassesAt lock n ps front → All (λ p. IsPassOf lock p) ps
passes_of lock n front [] at = All-nil (λ p. IsPassOf lock p)
passes_of lock n front (p ∷ ps) at = All-cons (λ p. IsPassOf lock p) p ps at.1 (passes_of lock (suc n) front ps at.4)
