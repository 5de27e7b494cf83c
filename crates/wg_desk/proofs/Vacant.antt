-- Seats of which some were let go, in which nothing was kept.
use Rattle.std.proofs.Common.{◌≡◌, ◌⊎◌, inl, inr, ℕ, zero, suc, ◌≤◌, true, false, not, List, [], ◌∷◌, ◌++◌, length, Some, None, slice_get, slice_set, nat_lt, refl, ap, sym, subst, ◌∙◌, arith, true≢false}
use Rattle.std.proofs.lemmas.Bool.{and_parts, and_cases, cases_lt, lt-ltb, not-true, not-false}
use Rattle.wg_fading.specs.Fading.{FadingValue, was_let_go, is_kept}
use Rattle.wg_fading.proofs.Keeping.{gone_cases}
use Rattle.wg_desk.specs.declared.seats.Seat.{Seat}
use Rattle.wg_desk.specs.Seats.{vacant, AreVacant, changed_at}
use Rattle.wg_desk.proofs.Lists.{get_same, set_cases, changed_same}

get_none : {X : Type 0} (xs : List X) (i : ℕ) → length xs ≤ i → slice_get xs i ≡ None
get_none [] i le = refl
get_none (x ∷ xs) zero le = absurd (omega (arith, le))
get_none (x ∷ xs) (suc i) le = get_none xs i (omega (arith, le))

-- Nothing is kept at a number: there is no seat, or one in which nothing is.
abbrev IsFree : List Seat → ℕ → Type 0
IsFree seats n = (slice_get seats n ≡ None) ⊎ (slice_get seats n ≡ Some vacant)

unkept : (list : FadingValue Seat) (n : ℕ) → AreVacant list.gone list.items → is_kept list n ≡ false → IsFree list.items n
unkept list n are not_kept = elim (cases_lt n (length list.items)) [
  | inl lt ↦ elim (and_cases (nat_lt n (length list.items)) (not (was_let_go list.gone n)) not_kept) [
    | inl none ↦ absurd (true≢false (sym (lt-ltb n (length list.items) lt) ∙ none))
    | inr gone ↦ inr (are n (not-false (was_let_go list.gone n) gone))
  ]
  | inr past ↦ inl (get_none list.items n past)
]

-- a change that leaves a seat in which nothing is
pub changed_unkept : (list : FadingValue Seat) (n : ℕ) (change : Seat → Seat) → AreVacant list.gone list.items → is_kept list n ≡ false → change vacant ≡ vacant → changed_at list.items n change ≡ list.items
changed_unkept list n change are not_kept same = changed_same list.items n change (λ seat at. by_free seat at (unkept list n are not_kept))
  where
    by_free : (seat : Seat) → slice_get list.items n ≡ Some seat → IsFree list.items n → change seat ≡ seat
    by_free seat at (inl none) = absurd (cc (at, none))
    by_free seat at (inr free) = let is : vacant ≡ seat = cc (at, free) in subst (λ (s : Seat). change s ≡ s) is same

-- What was let go stays so, and no more is, as seats change.

pub vacant_gone : (gone : List ℕ) (seats : List Seat) (n : ℕ) → AreVacant gone seats → slice_get seats n ≡ Some vacant → AreVacant (gone ++ n ∷ []) seats
vacant_gone gone seats n are at = λ m out. elim (gone_cases gone n m out) [
  | inl was ↦ are m was
  | inr is ↦ ap (λ (k : ℕ). slice_get seats k) (sym is) ∙ at
]

kept_here : (list : FadingValue Seat) (n : ℕ) → is_kept list n ≡ true → was_let_go list.gone n ≡ false
kept_here list n kept = not-true (was_let_go list.gone n) (and_parts (nat_lt n (length list.items)) (not (was_let_go list.gone n)) kept).1

vacant_set : (gone : List ℕ) (seats : List Seat) (n : ℕ) (seat : Seat) → AreVacant gone seats → was_let_go gone n ≡ false → AreVacant gone (slice_set seats n seat)
vacant_set gone seats n seat are here = λ m out. by_cases m out (set_cases seats n m seat)
  where
    by_cases : (m : ℕ) → was_let_go gone m ≡ true → (slice_get (slice_set seats n seat) m ≡ slice_get seats m) ⊎ ((m ≡ n) × (slice_get (slice_set seats n seat) m ≡ Some seat)) → slice_get (slice_set seats n seat) m ≡ Some vacant
    by_cases m out (inl same) = same ∙ are m out
    by_cases m out (inr found) = absurd (true≢false (sym out ∙ (ap (λ (k : ℕ). was_let_go gone k) found.0 ∙ here)))

pub vacant_left : (old mid new : FadingValue Seat) (n : ℕ) (seat : Seat) → AreVacant old.gone old.items → is_kept old n ≡ true → slice_get old.items n ≡ Some seat → mid.items ≡ slice_set old.items n vacant → mid.gone ≡ old.gone → new.items ≡ mid.items → new.gone ≡ mid.gone ++ n ∷ []
    → AreVacant new.gone new.items
vacant_left old mid new n seat are kept at out out_gone same in_gone = λ m gone.
    let here : was_let_go old.gone n ≡ false = kept_here old n kept in
    let items : new.items ≡ slice_set old.items n vacant = same ∙ out in
    let were : was_let_go (old.gone ++ n ∷ []) m ≡ true = ap (λ (list : List ℕ). was_let_go list m) (sym (in_gone ∙ ap (λ (list : List ℕ). list ++ n ∷ []) out_gone)) ∙ gone in
    ap (λ (list : List Seat). slice_get list m) items ∙ vacant_gone old.gone (slice_set old.items n vacant) n (vacant_set old.gone old.items n vacant are here) (get_same old.items n seat vacant at) m were
