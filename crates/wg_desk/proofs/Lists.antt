-- Lists of seats with one changed or added.
use Rattle.std.proofs.Common.{◌≡◌, ◌⊎◌, inl, inr, ℕ, zero, suc, List, [], ◌∷◌, ◌++◌, length, Option, Some, None, slice_get, slice_set, refl, ap, ◌∙◌}
use Rattle.std.specs.Option.{option_map_or}
use Rattle.std.proofs.lemmas.List.{length-set}
use Rattle.wg_desk.specs.declared.seats.Seat.{Seat}
use Rattle.wg_desk.specs.Seats.{changed_at}

-- An element of a list in which that at i was set is as it was, or is the one at i.
pub set_cases : {X : Type 0} (xs : List X) (i k : ℕ) (y : X) → (slice_get (slice_set xs i y) k ≡ slice_get xs k) ⊎ ((k ≡ i) × (slice_get (slice_set xs i y) k ≡ Some y))
set_cases [] i k y = inl refl
set_cases (x ∷ xs) zero zero y = inr (refl, refl)
set_cases (x ∷ xs) zero (suc k) y = inl refl
set_cases (x ∷ xs) (suc i) zero y = inl refl
set_cases (x ∷ xs) (suc i) (suc k) y =
    elim (set_cases xs i k y) as (λ _. (slice_get (slice_set xs i y) k ≡ slice_get xs k) ⊎ ((suc k ≡ suc i) × (slice_get (slice_set xs i y) k ≡ Some y)))
    [ inl same ↦ inl same | inr found ↦ inr (ap suc found.0, found.1) ]

-- the element that was set
pub get_same : {X : Type 0} (xs : List X) (i : ℕ) (x y : X) → slice_get xs i ≡ Some x → slice_get (slice_set xs i y) i ≡ Some y
get_same [] i x y at = absurd (cc (at))
get_same (z ∷ xs) zero x y at = refl
get_same (z ∷ xs) (suc i) x y at = get_same xs i x y at

-- One of a list with one more at its end is as it was, or is that one.
pub more_cases : {X : Type 0} (xs : List X) (k : ℕ) (y : X) → (slice_get (xs ++ y ∷ []) k ≡ slice_get xs k) ⊎ ((k ≡ length xs) × (slice_get (xs ++ y ∷ []) k ≡ Some y))
more_cases [] zero y = inr (refl, refl)
more_cases [] (suc k) y = inl refl
more_cases (x ∷ xs) zero y = inl refl
more_cases (x ∷ xs) (suc k) y =
    elim (more_cases xs k y) as (λ _. (slice_get (xs ++ y ∷ []) k ≡ slice_get xs k) ⊎ ((suc k ≡ suc (length xs)) × (slice_get (xs ++ y ∷ []) k ≡ Some y)))
    [ inl same ↦ inl same | inr found ↦ inr (ap suc found.0, found.1) ]

-- Changes of a seat.

changed_step : (seat : Seat) (seats : List Seat) (n : ℕ) (change : Seat → Seat) → changed_at (seat ∷ seats) (suc n) change ≡ seat ∷ changed_at seats n change
changed_step seat seats n change =
    elim (slice_get seats n) as (λ (found : Option Seat). option_map_or (λ s. seat ∷ slice_set seats n (change s)) found (seat ∷ seats) ≡ seat ∷ option_map_or (λ s. slice_set seats n (change s)) found seats)
    [ Some s ↦ refl | None ↦ refl ]

pub changed_length : (seats : List Seat) (n : ℕ) (change : Seat → Seat) → length (changed_at seats n change) ≡ length seats
changed_length seats n change =
    elim (slice_get seats n) as (λ (found : Option Seat). length (option_map_or (λ s. slice_set seats n (change s)) found seats) ≡ length seats)
    [ Some s ↦ length-set seats n (change s) | None ↦ refl ]

-- a change of a seat that leaves it
pub changed_same : (seats : List Seat) (n : ℕ) (change : Seat → Seat) → ((seat : Seat) → slice_get seats n ≡ Some seat → change seat ≡ seat) → changed_at seats n change ≡ seats
changed_same [] n change same = refl
changed_same (seat ∷ seats) zero change same = ap (λ (s : Seat). s ∷ seats) (same seat refl)
changed_same (seat ∷ seats) (suc n) change same = changed_step seat seats n change ∙ ap (λ (rest : List Seat). seat ∷ rest) (changed_same seats n change same)
