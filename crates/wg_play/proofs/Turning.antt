-- A phase whose entries are just what its lanes give is played by the entries' callers.
use Rattle.std.proofs.Common.{◌≡◌, ◌≢◌, ℕ, zero, suc, ◌+◌, ◌<◌, ◌≤◌, eqb, ltb, cond, Bool, true, false, ◌&&◌, List, [], ◌∷◌, ◌++◌, length, set, refl, ap, sym, ◌∙◌, subst, arith, Option, Some, is_none}
use Rattle.std.proofs.lemmas.Bool.Decides.{nat_tests}
use Rattle.wg_history.specs.declared.events.Event.{Event}
use Rattle.wg_trace.specs.declared.replies.Reply.{Reply}
use Rattle.wg_history.specs.declared.events.Setup.{Setup}
use Rattle.wg_history.specs.Entries.{Entry}
use Rattle.wg_history.specs.Entries.{Past}
use Rattle.wg_history.specs.Answers.{reply_to}
use Rattle.wg_play.specs.Turns.{entries_of_caller, callers_of, GivesEvents, after_all, AllGive, all_after, through, lane_at, taken, turned, phase_by}

pub same_caller : (n : ℕ) (e : Entry) (es : List Entry) → e.who ≡ n → entries_of_caller n (e ∷ es) ≡ e ∷ entries_of_caller n es
same_caller n e es is = let yes : eqb e.who n ≡ true = grind (arith, nat_tests) in ap (λ b. cond b (e ∷ entries_of_caller n es) (entries_of_caller n es)) yes

pub other_caller : (n : ℕ) (e : Entry) (es : List Entry) → e.who ≢ n → entries_of_caller n (e ∷ es) ≡ entries_of_caller n es
other_caller n e es ne = let no : eqb e.who n ≡ false = grind (arith, nat_tests) in ap (λ b. cond b (e ∷ entries_of_caller n es) (entries_of_caller n es)) no

-- the replies of these entries are right after this past
abbrev pub RepliesAreRight : Setup → Past → List Entry → Type 0
RepliesAreRight setup past [] = Unit {0}
RepliesAreRight setup past (e ∷ es) = (e.reply ≡ reply_to setup past e.event) × RepliesAreRight setup (e ∷ past) es

-- the past after these entries
abbrev pub onto : Past → List Entry → Past
onto past [] = past
onto past (e ∷ es) = onto (e ∷ past) es

-- a caller who has an entry is one of the lanes
pub not_past : (e : Entry) (es : List Entry) (k : ℕ) → (k ≤ e.who → entries_of_caller e.who (e ∷ es) ≡ []) → e.who < k
not_past e es k f = pick (ltb e.who k) refl where
  pick : (t : Bool) → ltb e.who k ≡ t → e.who < k
  pick true q = grind (arith, nat_tests)
  pick false q = let le : k ≤ e.who = grind (arith, nat_tests) in absurd (cc (sym (same_caller e.who e es refl) ∙ f le))

pub fewer : (n : ℕ) (e : Entry) (es : List Entry) → entries_of_caller n (e ∷ es) ≡ [] → entries_of_caller n es ≡ []
fewer n e es h = pick (eqb e.who n) h where
  pick : (t : Bool) → cond t (e ∷ entries_of_caller n es) (entries_of_caller n es) ≡ [] → entries_of_caller n es ≡ []
  pick true q = absurd (cc (q))
  pick false q = q

module _ {W : Type 0} (next : W → Option Event) (after : W → Reply → W) where
  -- the lane of the first entry has it next
  pub first_gives : (m n : ℕ) (ws : List W) (e : Entry) (es : List Entry) → e.who ≡ m + n → n < length ws → AllGive next after m ws (e ∷ es)
      → (w : W) × (lane_at next after ws n ≡ Some w) × (next w ≡ Some e.event) × AllGive next after m (set ws n (after w e.reply)) es × (all_after next after m (set ws n (after w e.reply)) es ≡ all_after next after m ws (e ∷ es))
  first_gives m n [] e es is lt all = absurd (omega arith)
  first_gives m zero (w ∷ ws) e es is lt all =
      let here : entries_of_caller m (e ∷ es) ≡ e ∷ entries_of_caller m es = same_caller m e es (omega arith) in
      let gives : GivesEvents next after w (e ∷ entries_of_caller m es) = subst (GivesEvents next after w) here all.0 in
      let rest = others (suc m) ws (omega arith) all.1 in
      (w, refl, gives.0, (gives.1, rest.0), cc (ap (after_all next after w) here, rest.1)) where
        others : (k : ℕ) (us : List W) → e.who < k → AllGive next after k us (e ∷ es) → AllGive next after k us es × (all_after next after k us es ≡ all_after next after k us (e ∷ es))
        others k [] gt h = (tt, refl)
        others k (u ∷ us) gt h = let there : entries_of_caller k (e ∷ es) ≡ entries_of_caller k es = other_caller k e es (λ q. absurd (omega arith)) in
            let rest = others (suc k) us (omega arith) h.1 in
            ((subst (GivesEvents next after u) there h.0, rest.0), cc (ap (after_all next after u) there, rest.1))
  first_gives m (suc n) (w ∷ ws) e es is lt all =
      let there : entries_of_caller m (e ∷ es) ≡ entries_of_caller m es = other_caller m e es (λ q. absurd (omega arith)) in
      let rest = first_gives (suc m) n ws e es (omega arith) (omega arith) all.1 in
      (rest.0, rest.1, rest.2, (subst (GivesEvents next after w) there all.0, rest.3), cc (ap (after_all next after w) there, rest.4))

  -- lanes that give nothing are through
  pub all_through : (n : ℕ) (ws : List W) → AllGive next after n ws [] → through next after ws ≡ true
  all_through n [] h = refl
  all_through n (w ∷ ws) h = cc (ap is_none h.0, all_through (suc n) ws h.1)

  pub none_after : (n : ℕ) (ws : List W) → all_after next after n ws [] ≡ ws
  none_after n [] = refl
  none_after n (w ∷ ws) = cc (none_after (suc n) ws)

  -- while a lane has a next event the phase is not through
  pub not_through : (n : ℕ) (ws : List W) (w : W) (e : Event) → lane_at next after ws n ≡ Some w → next w ≡ Some e → through next after ws ≡ false
  not_through n [] w e at is = absurd (cc (at))
  not_through zero (u ∷ ws) w e at is = let same : u ≡ w = cc (at) in let no : is_none (next u) ≡ false = ap (λ v. is_none (next v)) same ∙ ap is_none is in ap (λ b. b && through next after ws) no
  not_through (suc n) (u ∷ ws) w e at is = and_no (is_none (next u)) (not_through n ws w e at is) where
    and_no : (b : Bool) {c : Bool} → c ≡ false → b && c ≡ false
    and_no true h = h
    and_no false h = refl

  pub length_set : (ws : List W) (n : ℕ) (w : W) → length (set ws n w) ≡ length ws
  length_set [] n w = refl
  length_set (u ∷ ws) zero w = refl
  length_set (u ∷ ws) (suc n) w = ap suc (length_set ws n w)

  module _ (setup : Setup) where
    -- the lane of the next entry takes its turn
    pub turn_is : (past : Past) (ws : List W) (e : Entry) (w : W) → lane_at next after ws e.who ≡ Some w → next w ≡ Some e.event → e.reply ≡ reply_to setup past e.event
        → turned next after setup (record { past = past; lanes = ws }) e.who (lane_at next after ws e.who) ≡ Some (record { past = e ∷ past; lanes = set ws e.who (after w e.reply) })
    turn_is past ws e w at is reply =
        ap (turned next after setup (record { past = past; lanes = ws }) e.who) at
        ∙ ap (taken next after setup (record { past = past; lanes = ws }) e.who w) is
        ∙ ap (λ (r : Reply). Some (record { past = record { who = e.who; event = e.event; reply = r } ∷ past; lanes = set ws e.who (after w r) })) (sym reply)

    pub phase_is : (part : List Entry) (ws : List W) (past : Past) (ns : List ℕ)
        → AllGive next after 0 ws part → ((n : ℕ) → length ws ≤ n → entries_of_caller n part ≡ []) → RepliesAreRight setup past part
        → phase_by next after setup (callers_of part ++ ns) (record { past = past; lanes = ws }) ≡ Some (record { past = onto past part; lanes = all_after next after 0 ws part }, ns)
    phase_is [] ws past [] all few run = rw (all_through 0 ws all) (rw (none_after 0 ws) refl)
    phase_is [] ws past (n ∷ ns) all few run = rw (all_through 0 ws all) (rw (none_after 0 ws) refl)
    phase_is (e ∷ part) ws past ns all few run =
        let lt : e.who < length ws = not_past e part (length ws) (few e.who) in
        let one = first_gives 0 e.who ws e part (omega arith) lt all in
        let w = one.0 in
        let more = phase_is part (set ws e.who (after w e.reply)) (e ∷ past) ns one.3 (λ n le. fewer n e part (few n (omega (arith, le, length_set ws e.who (after w e.reply))))) run.1 in
        rw (not_through e.who ws w e.event one.1 one.2) (rw (turn_is past ws e w one.1 one.2 run.0) (rw (sym one.4) more))
