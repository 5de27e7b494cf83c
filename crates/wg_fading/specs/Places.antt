-- Where what is kept stands, by number.
use Rattle.std.specs.Prelude.{◌≡◌, ℕ, zero, suc, ◌+◌, ◌-◌, ◌/◌, ◌%◌, ◌<◌, ◌≤◌, Bool, true, false, nat_lt, List, [], ◌∷◌, length, slice_index_or, Option, Some, None, if◌then◌else◌}
use Rattle.std.specs.Global.{Global}
use Rattle.std.specs.declared.boxed.Box.{Box}
use Rattle.wg_fading.specs.declared.pages.Page.{Page}
use Rattle.wg_fading.specs.declared.floors.Floor.{Floor}
use Rattle.wg_fading.specs.declared.places.Places.{Places}

-- what is read at j of the element at i, and none where there is no element
abbrev pub at_in : {X V : Type 0} → V → (X → ℕ → V) → List X → ℕ → ℕ → V
at_in none read [] i j = none
at_in none read (x ∷ xs) zero j = read x j
at_in none read (x ∷ xs) (suc i) j = at_in none read xs i j

-- where those of a page stand: the greatest 32-bit number stands for nowhere
abbrev pub in_page : Page → ℕ → ℕ
in_page page j = slice_index_or page.places.items j 4294967295

-- the same of a page that may be none
abbrev pub page_place : Option (Box Page Global) → ℕ → ℕ
page_place None j = 4294967295
page_place (Some page) j = in_page page.value j

-- whether a page has a slot
abbrev pub has_in_page : Page → ℕ → Bool
has_in_page page j = nat_lt j (length page.places.items)

-- whether a page that may be none has a slot
abbrev pub page_has : Option (Box Page Global) → ℕ → Bool
page_has None j = false
page_has (Some page) j = has_in_page page.value j

-- where those of a floor stand
abbrev pub in_floor : Floor → ℕ → ℕ
in_floor floor j = at_in 4294967295 page_place floor.pages.items (j / 128) (j % 128)

-- the same of a floor that may be none
abbrev pub floor_place : Option (Box Floor Global) → ℕ → ℕ
floor_place None j = 4294967295
floor_place (Some floor) j = in_floor floor.value j

-- whether a floor has a slot
abbrev pub has_in_floor : Floor → ℕ → Bool
has_in_floor floor j = at_in false page_has floor.pages.items (j / 128) (j % 128)

-- whether a floor that may be none has a slot
abbrev pub floor_has : Option (Box Floor Global) → ℕ → Bool
floor_has None j = false
floor_has (Some floor) j = has_in_floor floor.value j

-- where number n stands by the floors behind those that were cut off in front
abbrev pub spot : ℕ → List (Option (Box Floor Global)) → ℕ → ℕ
spot first floors n = if nat_lt (n / 4096) first then 4294967295 else at_in 4294967295 floor_place floors (n / 4096 - first) (n % 4096)

-- where number n stands
abbrev pub place_at : Places → ℕ → ℕ
place_at p n = spot p.first p.floors.items n

-- There is a slot for number n.
pub record HasSlot (p : Places) (n : ℕ) : Type 0 where
  pub past : p.first ≤ n / 4096
  pub slot : at_in false floor_has p.floors.items (n / 4096 - p.first) (n % 4096) ≡ true

-- There are slots for a run of numbers.
abbrev pub HasSlots : Places → ℕ → ℕ → Type 0
HasSlots p from to = (n : ℕ) → from ≤ n → n < to → HasSlot p n

-- Number n, which is the next one, is of one of the floors or of the next floor.
pub record Reaches (p : Places) (n : ℕ) : Type 0 where
  pub past : p.first ≤ n / 4096
  pub to : n / 4096 ≤ p.first + length p.floors.items
