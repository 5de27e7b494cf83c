-- What all passes have seen at the end is the closed history, and this is what the script gives.
use Rattle.std.proofs.Common.{◌≡◌, ℕ, zero, suc, ◌+◌, ◌<◌, ◌≤◌, eqb, ltb, Bool, true, false, List, [], ◌∷◌, ◌++◌, length, refl, ap, sym, ◌∙◌, subst, arith, append-nil, length-append, Some}
use Rattle.std.proofs.lemmas.List.Elements.{filter-append}
use Rattle.std.proofs.lemmas.Bool.Decides.{nat_tests}
use mathlib.Core.List.{IsPrefix}
use Rattle.wg_history.specs.Entries.{Entry}
use Rattle.wg_history.specs.Answers.{Run}
use Rattle.wg_core.specs.Cores.{CoreValue}
use Rattle.wg_turn.specs.Passes.{AreOwn, IsWhole, FrontsBegin, own_of, opened_with, seen_since}
use Rattle.wg_device.specs.Fronts.{Lock, DevicePass, setup_of, history_of}
use Rattle.wg_script.specs.CallOf.{BoundCall}
use Rattle.wg_play.specs.Turns.{entries_of_caller, callers_of}
use Rattle.wg_play.specs.declared.objects.Object.{Object}
use Rattle.wg_play.specs.Play.{Play, PlaysTo}
use Rattle.wg_play.proofs.Turning.{same_caller}
use Rattle.wg_play.proofs.Parts.{plays_interleaves}
use Rattle.wg_play.proofs.Phases.{play_is}
use Rattle.wg_player.specs.Moves.{AllPassesAt}

-- a list in which no caller has an entry is empty
nobody : (r : List Entry) → ((n : ℕ) → length (entries_of_caller n r) ≡ 0) → r ≡ []
nobody [] h = refl
nobody (e ∷ r) h = let long = ap length (same_caller e.who e r refl) in let none = h e.who in absurd (omega arith)

rest_none : (n : ℕ) (f r : List Entry) → entries_of_caller n f ≡ entries_of_caller n (f ++ r) → length (entries_of_caller n r) ≡ 0
rest_none n f r e = omega (arith, ap length (filter-append (λ x. eqb x.who n) f r), ap length e, length-append (entries_of_caller n f) (entries_of_caller n r))

-- of two lists of which one begins the other, and which have the same of each caller, both are one
pub seen_all : (f log : List Entry) → IsPrefix f log → ((n : ℕ) → entries_of_caller n f ≡ entries_of_caller n log) → f ≡ log
seen_all f log p same = let none = nobody p.0 (λ n. rest_none n f p.0 (same n ∙ ap (entries_of_caller n) (sym p.1))) in
    sym (append-nil f) ∙ ap (λ (q : List Entry). f ++ q) (sym none) ∙ p.1

module _ (lock : Lock) where
  -- the pass number n + k has of its number the same in both
  same_at : (n k : ℕ) (ps : List DevicePass) (front log : List Entry) → (opened_with lock).history ≡ [] → AllPassesAt lock n ps front → AreOwn n ps log → k < length ps → entries_of_caller (n + k) front ≡ entries_of_caller (n + k) log
  same_at n k [] front log empty met own lt = absurd (omega (arith, lt))
  same_at n zero (p ∷ ps) front log empty met own lt =
      let e : n + 0 ≡ n = omega arith in
      let seen : seen_since p ≡ front = ap (λ (h : List Entry). h ++ seen_since p) (sym empty) ∙ met.2 in
      let mine : entries_of_caller n front ≡ own_of p = subst (λ m. entries_of_caller m front ≡ own_of p) met.0 (subst (λ (l : List Entry). entries_of_caller p.number l ≡ own_of p) seen met.3.own) in
      subst (λ m. entries_of_caller m front ≡ entries_of_caller m log) (sym e) (mine ∙ sym own.0)
  same_at n (suc k) (p ∷ ps) front log empty met own lt =
      let e : n + suc k ≡ suc n + k = omega arith in
      subst (λ m. entries_of_caller m front ≡ entries_of_caller m log) (sym e) (same_at (suc n) k ps front log empty met.4 own.1 (omega arith))

  -- nobody else has entries in what a pass has seen
  others_none : (ps : List DevicePass) (n m : ℕ) (front : List Entry) → (opened_with lock).history ≡ [] → 0 < length ps → AllPassesAt lock n ps front → lock.callers ≤ m → entries_of_caller m front ≡ []
  others_none [] n m front empty some met le = absurd (omega arith)
  others_none (p ∷ ps) n m front empty some met le =
      let seen : seen_since p ≡ front = ap (λ (h : List Entry). h ++ seen_since p) (sym empty) ∙ met.2 in
      subst (λ (l : List Entry). entries_of_caller m l ≡ []) seen (met.3.no_others m le)

  begins : (ps : List DevicePass) (n : ℕ) (front whole : List Entry) → 0 < length ps → AllPassesAt lock n ps front → FrontsBegin history_of lock ps whole → IsPrefix front whole
  begins [] n front whole some met h = absurd (omega arith)
  begins (p ∷ ps) n front whole some met h = subst (λ (l : List Entry). IsPrefix l whole) met.2 h.0

  -- what all passes have seen is the whole history
  pub closed_is : (ps : List DevicePass) (state : CoreValue) (entries : ℕ) (front : List Entry) → (opened_with lock).history ≡ [] → 0 < length ps → length ps ≡ lock.callers
      → IsWhole history_of lock ps state entries → AllPassesAt lock 0 ps front → front ≡ state.history
  closed_is ps state entries front empty some all whole met =
      let is : state.history ≡ whole.log = whole.history_is ∙ ap (λ (h : List Entry). h ++ whole.log) empty in
      seen_all front state.history (begins ps 0 front state.history some met whole.fronts) (λ n. either n (ltb n (length ps)) refl ∙ ap (entries_of_caller n) (sym is)) where
        either : (n : ℕ) (t : Bool) → ltb n (length ps) ≡ t → entries_of_caller n front ≡ entries_of_caller n whole.log
        either n true e = let lt : n < length ps = grind (arith, nat_tests) in let e : 0 + n ≡ n = omega arith in subst (λ m. entries_of_caller m front ≡ entries_of_caller m whole.log) e (same_at 0 n ps front whole.log empty met whole.own lt)
        either n false e = let le : length ps ≤ n = grind (arith, nat_tests) in others_none ps 0 n front empty some met (omega arith) ∙ sym (whole.no_others n le)

  -- the closed history is what the script gives by its callers
  pub headline : (ps : List DevicePass) (state : CoreValue) (entries : ℕ) (front : List Entry) (phases : List (List (List BoundCall))) (end : List Object)
      → (opened_with lock).history ≡ [] → 0 < length ps → length ps ≡ lock.callers
      → IsWhole history_of lock ps state entries → AllPassesAt lock 0 ps front → PlaysTo (setup_of lock) phases [] front end → Run (setup_of lock) state.history
      → (Play (setup_of lock) phases (callers_of state.history) ≡ Some state.history) × (entries ≡ length state.history)
  headline ps state entries front phases end empty some all whole met plays run =
      let is = closed_is ps state entries front empty some all whole met in
      let log_is : state.history ≡ whole.log = whole.history_is ∙ ap (λ (h : List Entry). h ++ whole.log) empty in (
        play_is (setup_of lock) phases state.history (plays_interleaves (setup_of lock) phases [] end state.history (subst (λ (l : List Entry). PlaysTo (setup_of lock) phases [] l end) is plays)) run,
        whole.count ∙ ap length (sym log_is),
      )
