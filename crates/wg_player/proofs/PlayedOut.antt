-- From the opened device to the closed one.
use Rattle.std.proofs.Common.{◌≡◌, ◌≢◌, ℕ, suc, ◌+◌, ◌<◌, ◌≤◌, ltb, nat_lt, Bool, true, false, List, [], ◌∷◌, ◌++◌, All, map, drop, get_or, length, refl, ap, sym, ◌∙◌, subst, arith, Some, if◌then◌else◌}
use Rattle.std.proofs.lemmas.Bool.Decides.{nat_tests}
use Rattle.std.proofs.lemmas.List.Elements.{All-nil, All-cons}
use Rattle.wg_history.specs.declared.events.Setup.{Setup}
use Rattle.wg_history.specs.Entries.{Entry}
use Rattle.wg_history.specs.Answers.{Run}
use Rattle.wg_core.specs.Cores.{CoreValue}
use Rattle.wg_script.specs.CallOf.{BoundCall}
use Rattle.wg_turn.specs.Passes.{AreFresh, AreSound, AreInOrder, FrontsAre, IsWhole, opened_with}
use Rattle.wg_device.specs.Fronts.{Lock, DevicePass, setup_of, history_of}
use Rattle.wg_play.specs.Turns.{entries_of_caller, callers_of}
use Rattle.wg_play.specs.declared.objects.Object.{Object}
use Rattle.wg_play.specs.Play.{most_lanes, Play, PlaysTo}
use Rattle.wg_play.proofs.Turning.{same_caller, fewer}
use Rattle.wg_play.proofs.Unique.{one_zero}
use Rattle.wg_play.proofs.Backward.{play_interleaves}
use Rattle.wg_play.proofs.PlayedLaw.{play_goes_through}
use Rattle.wg_player.specs.Moves.{AllPassesAt}
use Rattle.wg_player.specs.Whole.{IsPlayedOut}
use Rattle.wg_player.proofs.Going.{drop_at}
use Rattle.wg_player.proofs.Closing.{headline}

-- passes as they are handed out are all where a phase can begin
pub at_opening : (lock : Lock) (n : ℕ) (ps : List DevicePass) → AreFresh lock n ps → FrontsAre history_of lock ps [] → AreSound history_of (λ c. c.setup) Run lock ps → AllPassesAt lock n ps []
at_opening lock n [] fresh fronts sound = tt
at_opening lock n (p ∷ ps) fresh fronts sound = (fresh.0.1, fresh.0.0, fronts.0, sound.0, at_opening lock (suc n) ps fresh.1 fronts.1 sound.1)

-- and where they have all met they can be given back
pub in_order : (lock : Lock) (n : ℕ) (ps : List DevicePass) (front : List Entry) → AllPassesAt lock n ps front → AreInOrder lock n ps
in_order lock n [] front at = tt
in_order lock n (p ∷ ps) front at = (at.1, at.0, in_order lock (suc n) ps front at.4)

-- the loop over the phases that finds the most lanes
pub most_more : (n : ℕ) (phases : List (List (List BoundCall))) (i : ℕ) (lanes : List (List BoundCall)) → i < length phases → lanes ≡ get_or phases i lanes
    → most_lanes n (drop i phases) ≡ most_lanes (if nat_lt n (length lanes) then length lanes else n) (drop (i + 1) phases)
most_more n phases i lanes lt is = ap (most_lanes n) (drop_at phases i lanes lt is)

most_step : (n k : ℕ) (b : Bool) → b ≡ nat_lt n k → (n ≤ (if b then k else n)) × (k ≤ (if b then k else n))
most_step n k true is = grind (arith, nat_tests)
most_step n k false is = grind (arith, nat_tests)

pub most_least : (n : ℕ) (phases : List (List (List BoundCall))) → n ≤ most_lanes n phases
most_least n [] = omega arith
most_least n (lanes ∷ phases) =
    let step = (most_step n (length lanes) (nat_lt n (length lanes)) refl).0 in
    let more = most_least (if nat_lt n (length lanes) then length lanes else n) phases in omega (arith, step, more)

pub most_all : (n m : ℕ) (phases : List (List (List BoundCall))) → most_lanes n phases ≤ m → All (λ lanes. length lanes ≤ m) phases
most_all n m [] le = All-nil (λ lanes. length lanes ≤ m)
most_all n m (lanes ∷ phases) le =
    let step = (most_step n (length lanes) (nat_lt n (length lanes)) refl).1 in
    let more = most_least (if nat_lt n (length lanes) then length lanes else n) phases in
    All-cons (λ lanes. length lanes ≤ m) lanes phases (omega (arith, step, more, le)) (most_all (if nat_lt n (length lanes) then length lanes else n) m phases le)

-- where nobody has entries but caller 0, all callers are 0
pub all_zero : (log : List Entry) → ((n : ℕ) → 1 ≤ n → entries_of_caller n log ≡ []) → callers_of log ≡ map (λ e. 0) log
all_zero [] none = refl
all_zero (e ∷ log) none =
    let rest = all_zero log (λ n le. fewer n e log (none n le)) in
    by_test (ltb 0 e.who) refl rest where
      by_test : (t : Bool) → ltb 0 e.who ≡ t → callers_of log ≡ map (λ e. 0) log → callers_of (e ∷ log) ≡ map (λ e. 0) (e ∷ log)
      by_test true is rest = let le : 1 ≤ e.who = grind (arith, nat_tests) in absurd (cc (sym (same_caller e.who e log refl) ∙ none e.who le))
      by_test false is rest = let zero_is : e.who ≡ 0 = grind (arith, nat_tests) in cc (zero_is, rest)

pub played_out : (lock : Lock) (setup : Setup) (phases : List (List (List BoundCall))) (ps : List DevicePass) (front : List Entry) (end : List Object) (state : CoreValue) (entries : ℕ)
    → setup.serial ≢ 0 → setup_of lock ≡ setup → (opened_with lock).history ≡ [] → 0 < length ps → length ps ≡ lock.callers
    → AllPassesAt lock 0 ps front → PlaysTo (setup_of lock) phases [] front end
    → IsWhole history_of lock ps state entries → Run (setup_of lock) state.history
    → IsPlayedOut setup phases (length ps) state entries
played_out lock setup phases ps front end state entries serial is empty some all at plays whole run =
    let both = headline lock ps state entries front phases end empty some all whole at plays run in
    let log_is : state.history ≡ whole.log = whole.history_is ∙ ap (λ (h : List Entry). h ++ whole.log) empty in
    let play : Play setup phases (callers_of state.history) ≡ Some state.history = subst (λ (s : Setup). Play s phases (callers_of state.history) ≡ Some state.history) is both.0 in
    let zero : length ps ≡ 1 → callers_of state.history ≡ map (λ e. 0) state.history = λ one. all_zero state.history (λ n le. ap (entries_of_caller n) log_is ∙ whole.no_others n (omega (arith, one))) in
    record {
      play = play;
      entries_are = both.1;
      interleaves = (play_interleaves setup phases (callers_of state.history) state.history play).2;
      through = λ bound. play_goes_through setup serial phases (callers_of state.history) state.history bound play;
      zeros = zero;
      only = λ one h is. one_zero setup phases h state.history is (subst (λ (ns : List ℕ). Play setup phases ns ≡ Some state.history) (zero one) play);
    }
