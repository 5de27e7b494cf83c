-- Where a row is put among rows, and those that are near a run.
use Rattle.std.specs.Prelude.{◌≡◌, Bool, true, List, [], ◌∷◌, ◌++◌, None}
use Rattle.wg_rows.specs.Rows.{Sort, EachRow, joined, run_before}
use Rattle.wg_rows.specs.Chained.{ends_before}

-- The first of rows is joined with a row, or the row stands before it.
abbrev pub Stops : {R V : Type 0} → Sort R → (V → V → Bool) → R × V → List (R × V) → Type 0
Stops sort same r [] = Unit {0}
Stops sort same r (x ∷ xs) = joined sort same x r ≡ None → run_before sort r.0 x.0 ≡ true

-- A run of its own ends is itself.
abbrev pub Whole : {R : Type 0} → Sort R → Type 0
Whole {R} sort = (x : R) → sort.widen x (sort.lo x) (sort.hi x) ≡ x

-- Each row ends before a run.
abbrev pub AllBefore : {R V : Type 0} → Sort R → R → List (R × V) → Type 0
AllBefore sort run rows = EachRow (λ x. ends_before sort x.0 run ≡ true) rows

-- A run ends before each row.
abbrev pub AllBehind : {R V : Type 0} → Sort R → R → List (R × V) → Type 0
AllBehind sort run rows = EachRow (λ x. ends_before sort run x.0 ≡ true) rows

-- Rows are those of a list, but for some that end before a run and some behind it.
pub record IsNear {R V : Type 0} (sort : Sort R) (run : R) (rows mid : List (R × V)) : Type 0 where
  pub front : List (R × V)
  pub back : List (R × V)
  pub is : rows ≡ front ++ (mid ++ back)
  pub before : AllBefore sort run front
  pub behind : AllBehind sort run back
