-- All that is kept, after an object is added, dropped or consumed.
use Rattle.std.proofs.Common.{◌≡◌, ℕ, ◌+◌, ◌<◌, Bool, true, ◌==◌, List, [], ◌∷◌, ◌++◌, ◌∙◌, length, None, ap, subst, arith, if◌then◌else◌}
use Rattle.wg_model.specs.Holding.{is_among}
use Rattle.wg_counts.specs.Counts.{CountsValue, times}
use Rattle.wg_holders.specs.declared.marks.Mark.{Mark}
use Rattle.wg_holders.specs.declared.tokens.Awaited.{Awaited}
use Rattle.wg_holders.specs.Holders.{new_mark, mark_at, with_consumed, with_dropped}
use Rattle.wg_holders.specs.Tokens.{Notes, held_by, living, IsOwned, Opens, Drops, IsTidy, Moves, Raises}
use Rattle.wg_holders.proofs.QueueLemmas.{tidy_added, tidy_consumed, opens_dropped, drops_dropped}
use Rattle.wg_holders.proofs.OwnLemmas.{owned_added, owned_consumed, owned_dropped, living_dropped}

pub record IsKept (marks : List Mark) (names : List (List ℕ)) (opened : List ℕ) (awaited : List Awaited) (own : List ℕ) : Type 0 where
  pub tidy : IsTidy marks opened awaited
  pub owned : IsOwned marks names awaited own

pub kept_added : (encoder : Bool) (number : ℕ) (more list : List ℕ) (marks marks' : List Mark) (names names' : List (List ℕ)) (opened opened' : List ℕ) (awaited : List Awaited) (own : List ℕ) (middle last : CountsValue) → marks' ≡ marks ++ new_mark encoder ∷ [] → names' ≡ names ++ more ∷ [] → number ≡ length marks → opened' ≡ (if encoder then opened ++ number ∷ [] else opened) → ((k : ℕ) → is_among more k ≡ true → k < length marks) → middle.own ≡ own ++ 1 ∷ [] → list ≡ more → Raises list middle last → IsTidy marks opened awaited → IsOwned marks names awaited own → IsKept marks' names' opened' awaited last.own
kept_added encoder number more list marks marks' names names' opened opened' awaited own middle last marks_are names_are here opened_are back added same raises tidy owned = record {
  tidy = rw (marks_are, opened_are, here) (tidy_added marks encoder opened awaited tidy);
  owned = rw (marks_are, names_are) (owned_added marks encoder names more awaited own middle last back added (subst (λ names. Raises names middle last) same raises) owned);
}

pub kept_consumed : (number : ℕ) (list : List ℕ) (marks marks' : List Mark) (names : List (List ℕ)) (opened : List ℕ) (awaited : List Awaited) (first last : CountsValue) → list ≡ held_by marks names number → Moves (λ n. times n list) (λ n. 0) first last → Notes (λ n. with_consumed (number == n)) marks marks' → IsTidy marks opened awaited → IsOwned marks names awaited first.own → IsKept marks' names opened awaited last.own
kept_consumed number list marks marks' names opened awaited first last same moves notes tidy owned = record {
  tidy = tidy_consumed number marks marks' opened awaited notes tidy;
  owned = owned_consumed number marks marks' names awaited first last notes (subst (λ names. Moves (λ n. times n names) (λ n. 0) first last) same moves) owned;
}

-- what is kept once an object is dropped and waits, before that is looked at
pub record IsDropping (marks marks' : List Mark) (names : List (List ℕ)) (opened : List ℕ) (awaited : List Awaited) (own : List ℕ) : Type 0 where
  pub opens : Opens marks' opened
  pub drops : Drops marks' awaited
  pub owned : IsOwned marks' names awaited own
  pub less : living marks' + 1 ≡ living marks

pub kept_dropping : (number made : ℕ) (list : List ℕ) (marks marks' : List Mark) (names : List (List ℕ)) (opened : List ℕ) (awaited awaited' : List Awaited) (first last : CountsValue) → made ≡ length marks → number < made → (mark_at marks number).dropped ≡ None → list ≡ held_by marks names number → Moves (λ n. times n list) (λ n. 0) first last → Notes (λ n. with_dropped made (number == n)) marks marks' → awaited' ≡ awaited ++ record { number = number; made = made } ∷ [] → IsTidy marks opened awaited → IsOwned marks names awaited first.own → IsDropping marks marks' names opened awaited' last.own
kept_dropping number made list marks marks' names opened awaited awaited' first last all lt none same moves notes pushed tidy owned = record {
  opens = opens_dropped number made marks marks' opened notes tidy.opens;
  drops = rw waiting (drops_dropped number marks marks' awaited inside none noted tidy.drops);
  owned = rw waiting (owned_dropped number marks marks' names awaited first last inside none noted (subst (λ names. Moves (λ n. times n names) (λ n. 0) first last) same moves) owned);
  less = living_dropped number made marks marks' inside none notes;
}
  where
    inside : number < length marks
    inside = omega (arith, lt, all)

    noted : Notes (λ n. with_dropped (length marks) (number == n)) marks marks'
    noted = subst (λ k. Notes (λ n. with_dropped k (number == n)) marks marks') all notes

    waiting : awaited' ≡ awaited ++ record { number = number; made = length marks } ∷ []
    waiting = pushed ∙ ap (λ (k : ℕ). awaited ++ record { number = number; made = k } ∷ []) all
