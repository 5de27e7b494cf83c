-- A list of all values that ever were, of which some were let go.
use Rattle.std.specs.Prelude.{ℕ, Bool, not, ◌&&◌, ◌==◌, nat_lt, List, length, refl}
use Rattle.std.specs.List.{list_any}
use Rattle.std.specs.Coded.{Coded, code_by, coded×, coded_ℕ, coded_list}

-- all values by number, also those that were let go, as they were last; the numbers of those; for how many more there is room
pub record FadingValue (T : Type 0) : Type 0 where
  pub items : List T
  pub gone : List ℕ
  pub spare : ℕ

-- it is stored as the tuple of its fields
abbrev pub fading_code : {T : Type 0} → Coded T → Coded (FadingValue T)
fading_code {T} code =
    code_by
    (List T × (List ℕ × ℕ))
    (coded× (coded_list code) (coded× (coded_list coded_ℕ) coded_ℕ))
    (λ f. (f.items, (f.gone, f.spare)))
    (λ p. record { items = p.0; gone = p.1.0; spare = p.1.1 })
    (λ _. refl)

-- whether number n is among those that were let go
abbrev pub was_let_go : List ℕ → ℕ → Bool
was_let_go gone n = list_any (λ m. m == n) gone

-- whether number n has a value that was not let go
abbrev pub is_kept : {T : Type 0} → FadingValue T → ℕ → Bool
is_kept f n = nat_lt n (length f.items) && not (was_let_go f.gone n)
