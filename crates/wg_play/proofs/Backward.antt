-- What is played by numbers: they are the callers of the entries, and each phase's lanes give these.
use Rattle.std.proofs.Common.{◌≡◌, ℕ, zero, suc, ◌+◌, ◌<◌, ◌≤◌, Bool, true, false, List, [], ◌∷◌, ◌++◌, length, set, reverse, refl, ap, ap₂, sym, ◌∙◌, subst, arith, append-nil, Option, Some, None, is_none, option_and_then, option_map, if◌then◌else◌}
use Rattle.std.proofs.lemmas.Bool.{and_parts}
use Rattle.std.proofs.lemmas.List.{reverse-reverse}
use Rattle.wg_history.specs.declared.events.Event.{Event}
use Rattle.wg_trace.specs.declared.replies.Reply.{Reply}
use Rattle.wg_history.specs.declared.events.Setup.{Setup}
use Rattle.wg_history.specs.Entries.{Entry, Past}
use Rattle.wg_history.specs.Answers.{IsRun, Run, reply_to}
use Rattle.wg_script.specs.CallOf.{BoundCall}
use Rattle.wg_play.specs.Turns.{entries_of_caller, callers_of, GivesEvents, after_all, AllGive, all_after, through, Midway, lane_at, taken, turned, phase_by}
use Rattle.wg_play.specs.declared.objects.Object.{Object}
use Rattle.wg_play.specs.Lanes.{starts, gathered, next_event}
use Rattle.wg_play.specs.Play.{after_, phases_by, Play, Interleaves}
use Rattle.wg_play.specs.Played.{PlayInterleaves}
use Rattle.wg_play.proofs.Turning.{same_caller, other_caller, RepliesAreRight, onto, none_after, length_set}
use Rattle.wg_play.proofs.Phases.{onto_back, onto_more, callers_more, starts_length}

none_is : {X : Type 0} (found : Option X) → is_none found ≡ true → found ≡ None
none_is None e = refl
none_is (Some x) e = absurd (cc (e))

module _ {W : Type 0} (next : W → Option Event) (after : W → Reply → W) where
  -- lanes that are through give nothing
  through_gives : (n : ℕ) (ws : List W) → through next after ws ≡ true → AllGive next after n ws []
  through_gives n [] h = tt
  through_gives n (w ∷ ws) h =
      let both = and_parts (is_none (next w)) (through next after ws) h in
      (none_is (next w) both.0, through_gives (suc n) ws both.1)

  -- lanes that have no entry with the first one's caller give as many without it
  others_give : (k : ℕ) (us : List W) (e : Entry) (es : List Entry) → e.who < k → AllGive next after k us es → AllGive next after k us (e ∷ es)
  others_give k [] e es gt h = tt
  others_give k (u ∷ us) e es gt h =
      let there : entries_of_caller k (e ∷ es) ≡ entries_of_caller k es = other_caller k e es (λ q. absurd (omega (arith, gt, q))) in
      let more : e.who < suc k = omega (arith, gt) in
      (subst (GivesEvents next after u) (sym there) h.0, others_give (suc k) us e es more h.1)

  others_after : (k : ℕ) (us : List W) (e : Entry) (es : List Entry) → e.who < k → all_after next after k us es ≡ all_after next after k us (e ∷ es)
  others_after k [] e es gt = refl
  others_after k (u ∷ us) e es gt =
      let there : entries_of_caller k (e ∷ es) ≡ entries_of_caller k es = other_caller k e es (λ q. absurd (omega (arith, gt, q))) in
      let more : e.who < suc k = omega (arith, gt) in
      ap₂ (λ (x : W) xs. x ∷ xs) (ap (after_all next after u) (sym there)) (others_after (suc k) us e es more)

  -- the lane that has the first entry next gives it, and then what it gives after it
  gives_first : (m n : ℕ) (ws : List W) (w : W) (e : Entry) (es : List Entry) → e.who ≡ m + n → lane_at next after ws n ≡ Some w → next w ≡ Some e.event
      → AllGive next after m (set ws n (after w e.reply)) es → AllGive next after m ws (e ∷ es)
  gives_first m n [] w e es is at has all = absurd (cc (at))
  gives_first m zero (u ∷ ws) w e es is at has all =
      let same : u ≡ w = cc (at) in
      let who : e.who ≡ m = omega (arith, is) in
      let here : entries_of_caller m (e ∷ es) ≡ e ∷ entries_of_caller m es = same_caller m e es who in
      let gt : e.who < suc m = omega (arith, who) in (
        subst (GivesEvents next after u) (sym here) (
          ap next same ∙ has,
          subst (λ v. GivesEvents next after (after v e.reply) (entries_of_caller m es))
              (sym same) all.0,
        ),
        others_give (suc m) ws e es gt all.1,
      )
  gives_first m (suc n) (u ∷ ws) w e es is at has all =
      let there : entries_of_caller m (e ∷ es) ≡ entries_of_caller m es = other_caller m e es (λ q. absurd (omega (arith, is, q))) in
      let who : e.who ≡ suc m + n = omega (arith, is) in
      (subst (GivesEvents next after u) (sym there) all.0, gives_first (suc m) n ws w e es who at has all.1)

  pub after_first : (m n : ℕ) (ws : List W) (w : W) (e : Entry) (es : List Entry) → e.who ≡ m + n → lane_at next after ws n ≡ Some w
      → all_after next after m (set ws n (after w e.reply)) es ≡ all_after next after m ws (e ∷ es)
  after_first m n [] w e es is at = absurd (cc (at))
  after_first m zero (u ∷ ws) w e es is at =
      let same : u ≡ w = cc (at) in
      let who : e.who ≡ m = omega (arith, is) in
      let here : entries_of_caller m (e ∷ es) ≡ e ∷ entries_of_caller m es = same_caller m e es who in
      let gt : e.who < suc m = omega (arith, who) in
      ap₂ (λ (x : W) xs. x ∷ xs) (ap (λ (v : W). after_all next after (after v e.reply) (entries_of_caller m es)) (sym same) ∙ ap (after_all next after u)
      (sym here)) (others_after (suc m) ws e es gt)
  after_first m (suc n) (u ∷ ws) w e es is at =
      let there : entries_of_caller m (e ∷ es) ≡ entries_of_caller m es = other_caller m e es (λ q. absurd (omega (arith, is, q))) in
      let who : e.who ≡ suc m + n = omega (arith, is) in
      ap₂ (λ (x : W) xs. x ∷ xs) (ap (after_all next after u) (sym there)) (after_first (suc m) n ws w e es who at)

  -- a number past the lanes has none
  lane_below : (ws : List W) (n : ℕ) (w : W) → lane_at next after ws n ≡ Some w → n < length ws
  lane_below [] n w at = absurd (cc (at))
  lane_below (u ∷ ws) zero w at = omega arith
  lane_below (u ∷ ws) (suc n) w at = let less : n < length ws = lane_below ws n w at in omega (arith, less)

  module _ (setup : Setup) where
    -- the part of a phase, which is played from one moment to its end
    pub record PhaseBack (numbers : List ℕ) (start : Midway next after) (end : Midway next after) (left : List ℕ) : Type 0 where
      pub part : List Entry
      pub callers : numbers ≡ callers_of part ++ left
      pub past : end.past ≡ onto start.past part
      pub lanes : end.lanes ≡ all_after next after 0 start.lanes part
      pub answered : RepliesAreRight setup start.past part
      pub give : AllGive next after 0 start.lanes part
      pub few : (n : ℕ) → length start.lanes ≤ n → entries_of_caller n part ≡ []

    abbrev Left : Type 0
    Left = Midway next after × List ℕ

    abbrev Same : Left → Left → Type 0
    Same a b = a ≡ b

    ended : (numbers : List ℕ) (start end : Midway next after) (left : List ℕ) → through next after start.lanes ≡ true → Same (start, numbers) (end, left)
        → PhaseBack numbers start end left
    ended numbers start end left is same = record {
      part = [];
      callers = ap (λ (p : Left). p.1) same;
      past = ap (λ (p : Left). p.0.past) (sym same);
      lanes = ap (λ (p : Left). p.0.lanes) (sym same) ∙ sym (none_after next after 0 start.lanes);
      answered = tt;
      give = through_gives 0 start.lanes is;
      few = λ n le. refl;
    }

    abbrev More : List ℕ → Midway next after → List ℕ → Type 0
    More numbers end left = (start : Midway next after) → phase_by next after setup numbers start ≡ Some (end, left) → PhaseBack numbers start end left

    one_turn : (n : ℕ) (numbers : List ℕ) (start end : Midway next after) (left : List ℕ) → More numbers end left → (w : W)
        → lane_at next after start.lanes n ≡ Some w → (found : Option Event) → next w ≡ found
        → option_and_then (phase_by next after setup numbers) (taken next after setup start n w found) ≡ Some (end, left)
        → PhaseBack (n ∷ numbers) start end left
    one_turn n numbers start end left more w at None is e = absurd (cc (e))
    one_turn n numbers start end left more w at (Some event) is e =
        let reply : Reply = reply_to setup start.past event in
        let entry : Entry = record { who = n; event = event; reply = reply } in
        let mid : Midway next after = record { past = entry ∷ start.past; lanes = set start.lanes n (after w reply) } in
        let rest = more mid e in
        let who : entry.who ≡ 0 + n = omega arith in
        let less : n < length start.lanes = lane_below start.lanes n w at in
        record {
          part = entry ∷ rest.part;
          callers = ap (λ (l : List ℕ). n ∷ l) rest.callers;
          past = rest.past;
          lanes = rest.lanes ∙ after_first 0 n start.lanes w entry rest.part who at;
          answered = (refl, rest.answered);
          give = gives_first 0 n start.lanes w entry rest.part who at is rest.give;
          few = λ k le. (
              let longer : length mid.lanes ≤ k = omega (arith, le, length_set next after start.lanes n (after w reply)) in
              other_caller k entry rest.part (λ q. absurd (omega (arith, le, less, q))) ∙ rest.few k longer);
        }

    by_lane : (n : ℕ) (numbers : List ℕ) (start end : Midway next after) (left : List ℕ) → More numbers end left → (found : Option W)
        → lane_at next after start.lanes n ≡ found
        → option_and_then (phase_by next after setup numbers) (turned next after setup start n found) ≡ Some (end, left)
        → PhaseBack (n ∷ numbers) start end left
    by_lane n numbers start end left more None at e = absurd (cc (e))
    by_lane n numbers start end left more (Some w) at e = one_turn n numbers start end left more w at (next w) refl e

    by_end : (n : ℕ) (numbers : List ℕ) (start end : Midway next after) (left : List ℕ) → More numbers end left → (b : Bool)
        → through next after start.lanes ≡ b
        → (if b then Some (start, n ∷ numbers) else option_and_then (phase_by next after setup numbers)
        (turned next after setup start n (lane_at next after start.lanes n))) ≡ Some (end, left)
        → PhaseBack (n ∷ numbers) start end left
    by_end n numbers start end left more true is e = let same : Same (start, n ∷ numbers) (end, left) = cc (e) in ended (n ∷ numbers) start end left is same
    by_end n numbers start end left more false is e = by_lane n numbers start end left more (lane_at next after start.lanes n) refl e

    at_end : (start end : Midway next after) (left : List ℕ) → (b : Bool) → through next after start.lanes ≡ b
        → (if◌then◌else◌ {A = Option Left} b (Some (start, [])) None) ≡ Some (end, left) → PhaseBack [] start end left
    at_end start end left true is e = let same : Same (start, []) (end, left) = cc (e) in ended [] start end left is same
    at_end start end left false is e = absurd (cc (e))

    pub phase_back : (numbers : List ℕ) (start end : Midway next after) (left : List ℕ) → phase_by next after setup numbers start ≡ Some (end, left)
        → PhaseBack numbers start end left
    phase_back [] start end left e = at_end start end left (through next after start.lanes) refl e
    phase_back (n ∷ numbers) start end left e = by_end n numbers start end left (λ mid k. phase_back numbers mid end left k)
        (through next after start.lanes) refl e

module _ (setup : Setup) where
  pub answered_more : (part rest : List Entry) (past : Past) → RepliesAreRight setup past part → RepliesAreRight setup (onto past part) rest
      → RepliesAreRight setup past (part ++ rest)
  answered_more [] rest past a b = b
  answered_more (e ∷ part) rest past a b = (a.0, answered_more part rest (e ∷ past) a.1 b)

  run_onto : (log : List Entry) (past : Past) → IsRun setup past → RepliesAreRight setup past log → IsRun setup (onto past log)
  run_onto [] past run a = run
  run_onto (e ∷ log) past run a = run_onto log (e ∷ past) (ap₂ (λ (r : Reply) (rs : List Reply). r ∷ rs) a.0 run) a.1

  -- ---- phases one after another

  pub record PhasesBack (phases : List (List (List BoundCall))) (objects : List Object) (numbers : List ℕ) (past end : Past) : Type 0 where
    pub log : List Entry
    pub callers : numbers ≡ callers_of log
    pub end_is : end ≡ onto past log
    pub answered : RepliesAreRight setup past log
    pub lanes : Interleaves setup phases objects log

  abbrev Ends : Type 0
  Ends = Midway next_event (after_ setup) × List ℕ

  abbrev start_of : List Object → List (List BoundCall) → Past → Midway next_event (after_ setup)
  start_of objects phase past = record { past = past; lanes = starts objects phase }

  one_phase : (phase : List (List BoundCall)) (phases : List (List (List BoundCall))) (objects : List Object) (numbers : List ℕ) (past end : Past)
      → ((o : List Object) (ns : List ℕ) (p : Past) → phases_by setup phases o ns p ≡ Some end → PhasesBack phases o ns p end)
      → (found : Option Ends) → phase_by next_event (after_ setup) setup numbers (start_of objects phase past) ≡ found
      → option_and_then (λ (p : Ends). phases_by setup phases (gathered objects p.0.lanes) p.1 p.0.past) found ≡ Some end
      → PhasesBack (phase ∷ phases) objects numbers past end
  one_phase phase phases objects numbers past end more None is e = absurd (cc (e))
  one_phase phase phases objects numbers past end more (Some q) is e =
      let one = phase_back next_event (after_ setup) setup numbers (start_of objects phase past) q.0 q.1 is in
      let rest = more (gathered objects q.0.lanes) q.1 q.0.past e in
      record {
        log = one.part ++ rest.log;
        callers = one.callers ∙ (ap (λ (l : List ℕ). callers_of one.part ++ l) rest.callers ∙ sym (callers_more one.part rest.log));
        end_is = rest.end_is ∙ (ap (λ (p : Past). onto p rest.log) one.past ∙ sym (onto_more one.part rest.log past));
        answered = answered_more one.part rest.log past one.answered (subst (λ (p : Past). RepliesAreRight setup p rest.log) one.past rest.answered);
        lanes = (
          one.part,
          rest.log,
          refl,
          one.give,
          (λ n le. one.few n (omega (arith, le, starts_length setup objects phase))),
          subst (λ ls. Interleaves setup phases (gathered objects ls) rest.log) one.lanes rest.lanes,
        );
      }

  pub phases_back : (phases : List (List (List BoundCall))) (objects : List Object) (numbers : List ℕ) (past end : Past)
      → phases_by setup phases objects numbers past ≡ Some end → PhasesBack phases objects numbers past end
  phases_back [] objects [] past end e = let same : past ≡ end = cc (e) in record { log = []; callers = refl; end_is = sym same; answered = tt; lanes = refl }
  phases_back [] objects (n ∷ numbers) past end e = absurd (cc (e))
  phases_back (phase ∷ phases) objects numbers past end e =
      one_phase phase phases objects numbers past end (λ o ns p k. phases_back phases o ns p end k)
      (phase_by next_event (after_ setup) setup numbers (start_of objects phase past)) refl e

  some_past : (found : Option Past) (history : List Entry) → option_map reverse found ≡ Some history → (p : Past) × (found ≡ Some p) × (reverse p ≡ history)
  some_past None history e = absurd (cc (e))
  some_past (Some p) history e = (p, refl, cc (e))

  -- a history that is played is a run, in which each phase's lanes give their entries
  pub record PlayBack (phases : List (List (List BoundCall))) (numbers : List ℕ) (history : List Entry) : Type 0 where
    pub callers : callers_of history ≡ numbers
    pub answered : RepliesAreRight setup [] history
    pub lanes : Interleaves setup phases [] history

  pub play_back : (phases : List (List (List BoundCall))) (numbers : List ℕ) (history : List Entry) → Play setup phases numbers ≡ Some history
      → PlayBack phases numbers history
  play_back phases numbers history e =
      let p = some_past (phases_by setup phases [] numbers []) history e in
      let back = phases_back phases [] numbers [] p.0 p.1 in
      let turned_is : onto [] back.log ≡ reverse back.log = onto_back back.log [] ∙ append-nil (reverse back.log) in
      let same : back.log ≡ history = sym (reverse-reverse back.log) ∙ (ap reverse (sym turned_is) ∙ (ap reverse (sym back.end_is) ∙ p.2)) in
      record {
        callers = ap callers_of (sym same) ∙ sym back.callers;
        answered = subst (RepliesAreRight setup []) same back.answered;
        lanes = subst (Interleaves setup phases []) same back.lanes;
      }

  pub run_of : (history : List Entry) → RepliesAreRight setup [] history → Run setup history
  run_of history answered =
      let turned_is : onto [] history ≡ reverse history = onto_back history [] ∙ append-nil (reverse history) in
      subst (IsRun setup) turned_is (run_onto history [] refl answered)

pub play_interleaves : PlayInterleaves
play_interleaves setup phases numbers history e =
    let back = play_back setup phases numbers history e in
    (back.callers, run_of setup history back.answered, back.lanes)
