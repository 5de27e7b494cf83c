-- A run whose entries are those of a script's phases is what the script gives by the entries' callers.
use Rattle.std.proofs.Common.{◌≡◌, ℕ, suc, ◌+◌, List, [], ◌∷◌, ◌++◌, length, reverse, refl, ap, sym, ◌∙◌, subst, arith, append_assoc, append-nil, Some, option_and_then, option_map}
use Rattle.std.proofs.lemmas.List.{reverse-append, reverse-reverse}
use Rattle.wg_history.specs.declared.events.Setup.{Setup}
use Rattle.wg_history.specs.Entries.{Entry}
use Rattle.wg_history.specs.Entries.{Past}
use Rattle.wg_history.specs.Answers.{IsRun, Run}
use Rattle.wg_script.specs.CallOf.{BoundCall}
use Rattle.wg_play.specs.Turns.{callers_of, Midway}
use Rattle.wg_play.specs.declared.objects.Object.{Object}
use Rattle.wg_play.specs.Lanes.{starts_from, starts, count_made, gathered, next_event}
use Rattle.wg_play.specs.Play.{after_, phases_by, Play, Interleaves}
use Rattle.wg_play.proofs.Turning.{RepliesAreRight, onto, phase_is}

pub onto_back : (part : List Entry) (past : Past) → onto past part ≡ reverse part ++ past
onto_back [] past = refl
onto_back (e ∷ part) past = onto_back part (e ∷ past) ∙ (sym (append_assoc (reverse part) (e ∷ []) past) ∙ ap (λ l. l ++ past) (sym (reverse-append (e ∷ []) part)))

pub onto_more : (part rest : List Entry) (past : Past) → onto past (part ++ rest) ≡ onto (onto past part) rest
onto_more [] rest past = refl
onto_more (e ∷ part) rest past = onto_more part rest (e ∷ past)

pub callers_more : (part rest : List Entry) → callers_of (part ++ rest) ≡ callers_of part ++ callers_of rest
callers_more [] rest = refl
callers_more (e ∷ part) rest = ap (λ l. e.who ∷ l) (callers_more part rest)

module _ (setup : Setup) where
  -- what is said of a longer past is said of what it goes on from
  pub run_before : (log : List Entry) (past : Past) → IsRun setup (onto past log) → IsRun setup past
  run_before [] past run = run
  run_before (e ∷ log) past run = cc (run_before log (e ∷ past) run)

  pub answered_of : (log : List Entry) (past : Past) → IsRun setup (onto past log) → RepliesAreRight setup past log
  answered_of [] past run = tt
  answered_of (e ∷ log) past run = (cc (run_before log (e ∷ past) run), answered_of log (e ∷ past) run)

  pub answered_parts : (part rest : List Entry) (past : Past) → RepliesAreRight setup past (part ++ rest) → RepliesAreRight setup past part × RepliesAreRight setup (onto past part) rest
  answered_parts [] rest past h = (tt, h)
  answered_parts (e ∷ part) rest past h = let more = answered_parts part rest (e ∷ past) h.1 in ((h.0, more.0), more.1)

  from_length : (objects : List Object) (first : ℕ) (phase : List (List BoundCall)) → length (starts_from objects first phase) ≡ length phase
  from_length objects first [] = refl
  from_length objects first (calls ∷ phase) = ap suc (from_length objects (first + count_made calls) phase)

  pub starts_length : (objects : List Object) (phase : List (List BoundCall)) → length (starts objects phase) ≡ length phase
  starts_length objects phase = from_length objects (length objects) phase

  pub phases_are : (phases : List (List (List BoundCall))) (objects : List Object) (log : List Entry) (past : Past)
      → Interleaves setup phases objects log → RepliesAreRight setup past log → phases_by setup phases objects (callers_of log) past ≡ Some (onto past log)
  phases_are [] objects log past is run = rw is refl
  phases_are (phase ∷ phases) objects log past h run =
      let part = h.0 in let rest = h.1 in let whole : log ≡ part ++ rest = h.2 in
      let runs = answered_parts part rest past (subst (RepliesAreRight setup past) whole run) in
      let one = phase_is next_event (after_ setup) setup part (starts objects phase) past (callers_of rest) h.3 (λ n le. h.4 n (omega (arith, le, starts_length objects phase))) runs.0 in
      let more = phases_are phases _ rest (onto past part) h.5 runs.1 in
      rw whole (rw (callers_more part rest) (ap (option_and_then (λ (p : Midway next_event (after_ setup) × List ℕ). phases_by setup phases (gathered objects p.0.lanes) p.1 p.0.past)) one ∙ (more ∙ ap Some (sym (onto_more part rest past)))))

  -- a run that has in each phase just what each lane gives there is what the script gives by its callers
  pub play_is : (phases : List (List (List BoundCall))) (log : List Entry) → Interleaves setup phases [] log → Run setup log → Play setup phases (callers_of log) ≡ Some log
  play_is phases log h run =
      let back : onto [] log ≡ reverse log = onto_back log [] ∙ append-nil (reverse log) in
      ap (option_map reverse) (phases_are phases [] log [] h (answered_of log [] (subst (IsRun setup) (sym back) run)) ∙ ap Some back) ∙ ap Some (reverse-reverse log)
