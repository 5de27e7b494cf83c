-- Rows each of which ends before the next begins.
use Rattle.std.specs.Prelude.{Bool, true, ◌&&◌, ◌||◌, not, List, [], ◌∷◌, nat_lt, nat_le, ◌≡◌}
use Rattle.wg_rows.specs.Rows.{Sort, list_eq, list_before, meet, EachRow}

-- whether a run ends before another, or where it begins, and neither is empty
abbrev pub ends_before : {R : Type 0} → Sort R → R → R → Bool
ends_before sort a b = (nat_lt (sort.lo a) (sort.hi a) && nat_lt (sort.lo b) (sort.hi b)) && (list_before (sort.line a) (sort.line b) || (list_eq (sort.line a) (sort.line b) && nat_le (sort.hi a) (sort.lo b)))

-- whether a row stands before another, and cannot be joined with it
abbrev pub is_clear : {R V : Type 0} → Sort R → (V → V → Bool) → R × V → R × V → Bool
is_clear sort same x y = ends_before sort x.0 y.0 && not (same x.1 y.1 && meet sort x.0 y.0)

-- Each row stands before another, and cannot be joined with it.
abbrev pub AllClear : {R V : Type 0} → Sort R → (V → V → Bool) → R × V → List (R × V) → Type 0
AllClear sort same r rows = EachRow (λ x. is_clear sort same x r ≡ true) rows

-- Each row ends before those behind it.
abbrev pub Chained : {R V : Type 0} → Sort R → List (R × V) → Type 0
Chained sort [] = Unit {0}
Chained sort (x ∷ xs) = EachRow (λ y. ends_before sort x.0 y.0 ≡ true) xs × Chained sort xs
