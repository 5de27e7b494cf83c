-- What is kept of a list of which some was let go.
use Rattle.std.specs.Prelude.{◌≡◌, ℕ, ◌<◌, true, false, nat_lt, List, [], ◌∷◌, ◌++◌, length, Some, slice_get, slice_set, if◌then◌else◌}
use Rattle.wg_fading.specs.declared.Row.{Row}
use Rattle.wg_fading.specs.Fading.{was_let_go}

-- the list with a value under its number, which may be the next one
abbrev pub noted : {T : Type 0} → Row T → List T → List T
noted row items = if nat_lt row.number (length items) then slice_set items row.number row.value else items ++ row.value ∷ []

-- the list after all values that were put under their numbers, in the order of time
abbrev pub replay : {T : Type 0} → List (Row T) → List T → List T
replay [] items = items
replay (row ∷ rows) items = replay rows (noted row items)

-- Number n stands among the rows at its place, with its value.
pub record Stands {T : Type 0} (at : ℕ → ℕ) (rows : List (Row T)) (items : List T) (n : ℕ) : Type 0 where
  pub row : Row T
  pub is : slice_get rows (at n) ≡ Some row
  pub number : row.number ≡ n
  pub value : slice_get items n ≡ Some row.value

-- A row is that of a number that was not let go, which stands there.
pub record IsOwned {T : Type 0} (at : ℕ → ℕ) (items : List T) (gone : List ℕ) (k : ℕ) (row : Row T) : Type 0 where
  pub made : row.number < length items
  pub here : was_let_go gone row.number ≡ false
  pub at_k : at row.number ≡ k

-- The rows are those of the numbers that were not let go.
pub record AreKept {T : Type 0} (at : ℕ → ℕ) (rows : List (Row T)) (items : List T) (gone : List ℕ) : Type 0 where
  pub stand : (n : ℕ) → n < length items → was_let_go gone n ≡ false → Stands at rows items n
  pub owned : (k : ℕ) (row : Row T) → slice_get rows k ≡ Some row → IsOwned at items gone k row
  pub made : (n : ℕ) → was_let_go gone n ≡ true → n < length items
