-- What a phase added, from what was seen before and after it.
use Rattle.std.proofs.Common.{◌≡◌, ℕ, ◌+◌, ◌≤◌, ◌==◌, List, [], ◌∷◌, ◌++◌, length, refl, ap, sym, ◌∙◌, subst, append_assoc, append-nil, Option}
use Rattle.std.proofs.lemmas.List.Elements.{filter-append}
use Rattle.wg_history.specs.Entries.{Entry}
use Rattle.wg_history.specs.declared.events.Event.{Event}
use Rattle.wg_trace.specs.declared.replies.Reply.{Reply}
use Rattle.wg_history.specs.declared.events.Setup.{Setup}
use Rattle.wg_script.specs.CallOf.{BoundCall}
use Rattle.wg_play.specs.Turns.{entries_of_caller, AllGive, all_after}
use Rattle.wg_play.specs.declared.objects.Object.{Object}
use Rattle.wg_play.specs.Lanes.{starts, gathered, next_event}
use Rattle.wg_play.specs.Play.{after_, PlaysTo, Interleaves}

-- what is after one list in two equal ones is equal
pub after_same : {A : Type 0} (xs ys zs : List A) → xs ++ ys ≡ xs ++ zs → ys ≡ zs
after_same [] ys zs e = e
after_same (x ∷ xs) ys zs e = after_same xs ys zs (cc (e))

-- the entries of caller n that a part has, where its own entries grew by these
pub part_of : (n : ℕ) (front part old new es : List Entry) → entries_of_caller n front ≡ old → entries_of_caller n (front ++ part) ≡ new → new ≡ old ++ es → entries_of_caller n part ≡ es
part_of n front part old new es before now grown =
    after_same old (entries_of_caller n part) es
    (ap (λ o. o ++ entries_of_caller n part) (sym before) ∙ (sym (filter-append (λ e. e.who == n) front part) ∙ (now ∙ grown)))

module _ (setup : Setup) where
  -- one phase more
  pub plays_more : (phases : List (List (List BoundCall))) (phase : List (List BoundCall)) (objects mid : List Object) (log part : List Entry) → PlaysTo setup phases objects log mid
      → AllGive next_event (after_ setup) 0 (starts mid phase) part → ((n : ℕ) → length phase ≤ n → entries_of_caller n part ≡ [])
      → PlaysTo setup (phases ++ phase ∷ []) objects (log ++ part) (gathered mid (all_after next_event (after_ setup) 0 (starts mid phase) part))
  plays_more [] phase objects mid log part h all few =
      let same = sym h.1 in
      let here : PlaysTo setup (phase ∷ []) mid part (gathered mid (all_after next_event (after_ setup) 0 (starts mid phase) part)) = (part, [], sym (append-nil part), all, few, (refl, refl)) in
      rw h.0 (subst (λ ns. PlaysTo setup (phase ∷ []) ns part (gathered mid (all_after next_event (after_ setup) 0 (starts mid phase) part))) same here)
  plays_more (first ∷ phases) phase objects mid log part h all few =
      (h.0, h.1 ++ part, ap (λ l. l ++ part) h.2 ∙ append_assoc h.0 h.1 part, h.3, h.4, plays_more phases phase _ mid h.1 part h.5 all few)

  pub plays_interleaves : (phases : List (List (List BoundCall))) (objects end : List Object) (log : List Entry) → PlaysTo setup phases objects log end → Interleaves setup phases objects log
  plays_interleaves [] objects end log h = h.0
  plays_interleaves (phase ∷ phases) objects end log h = (h.0, h.1, h.2, h.3, h.4, plays_interleaves phases _ end h.1 h.5)
