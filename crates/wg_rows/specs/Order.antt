-- Tests that rows are in printed form.
use Rattle.std.specs.Prelude.{Bool, true, ◌&&◌, List, [], ◌∷◌, nat_lt}
use Rattle.wg_rows.specs.Rows.{Sort}
use Rattle.wg_rows.specs.Chained.{is_clear}

-- whether each row covers something
abbrev pub are_full : {R V : Type 0} → Sort R → List (R × V) → Bool
are_full sort [] = true
are_full sort (x ∷ xs) = nat_lt (sort.lo x.0) (sort.hi x.0) && are_full sort xs

-- whether the next row, if there is one, stands behind a row and cannot be joined with it
abbrev pub is_first : {R V : Type 0} → Sort R → (V → V → Bool) → R × V → List (R × V) → Bool
is_first sort same x [] = true
is_first sort same x (y ∷ ys) = is_clear sort same x y

-- whether rows are in printed form: each covers something, and the next stands behind it
abbrev pub are_apart : {R V : Type 0} → Sort R → (V → V → Bool) → List (R × V) → Bool
are_apart sort same [] = true
are_apart sort same (x ∷ xs) = nat_lt (sort.lo x.0) (sort.hi x.0) && (is_first sort same x xs && are_apart sort same xs)
