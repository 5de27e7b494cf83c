-- The value of rows at a spot, rows with a run cut out, and what rows have inside a run.
use Rattle.std.specs.Prelude.{min, max, Bool, ◌&&◌, List, [], ◌∷◌, ◌++◌, Option, Some, None, nat_lt, if◌then◌else◌}
use Rattle.wg_rows.specs.Rows.{list_eq, Sort, Spot, covers_spot, put}

-- the value of the first row that covers a spot
abbrev pub value_at : {R V : Type 0} → Sort R → Spot → List (R × V) → Option V
value_at sort spot [] = None
value_at sort spot (x ∷ xs) = if covers_spot sort x.0 spot then Some x.1 else value_at sort spot xs

-- what of a row lies before a run of its line
abbrev pub left_of : {R V : Type 0} → Sort R → R → R × V → List (R × V)
left_of sort r x = if nat_lt (sort.lo x.0) (sort.lo r) then (sort.widen x.0 (sort.lo x.0) (min (sort.hi x.0) (sort.lo r)), x.1) ∷ [] else []

-- what of a row lies behind a run of its line
abbrev pub right_of : {R V : Type 0} → Sort R → R → R × V → List (R × V)
right_of sort r x = if nat_lt (sort.hi r) (sort.hi x.0) then (sort.widen x.0 (max (sort.lo x.0) (sort.hi r)) (sort.hi x.0), x.1) ∷ [] else []

-- a row without a run
abbrev pub cut_row : {R V : Type 0} → Sort R → R → R × V → List (R × V)
cut_row sort r x = if list_eq (sort.line r) (sort.line x.0) then left_of sort r x ++ right_of sort r x else x ∷ []

-- rows without a run
abbrev pub cut : {R V : Type 0} → Sort R → R → List (R × V) → List (R × V)
cut sort r [] = []
cut sort r (x ∷ xs) = cut_row sort r x ++ cut sort r xs

-- what of a row lies in a run
abbrev pub inside_row : {R V : Type 0} → Sort R → R → R × V → List (R × V)
inside_row sort r x = if list_eq (sort.line r) (sort.line x.0) && nat_lt (max (sort.lo x.0) (sort.lo r)) (min (sort.hi x.0) (sort.hi r)) then (sort.widen x.0 (max (sort.lo x.0) (sort.lo r)) (min (sort.hi x.0) (sort.hi r)), x.1) ∷ [] else []

-- what of rows lies inside of a run
abbrev pub inside : {R V : Type 0} → Sort R → R → List (R × V) → List (R × V)
inside sort r [] = []
inside sort r (x ∷ xs) = inside_row sort r x ++ inside sort r xs

-- what is left of rows where no other rows are
abbrev pub gaps : {R V W : Type 0} → Sort R → List (R × W) → List (R × V) → List (R × W)
gaps sort left [] = left
gaps sort left (x ∷ xs) = gaps sort (cut sort x.0 left) xs

-- the rows for which a value is chosen, with it
abbrev pub choose_one : {R W : Type 0} → R → Option W → List (R × W)
choose_one r None = []
choose_one r (Some w) = (r, w) ∷ []

-- rows with what a function makes of each value, without those of which it makes none
abbrev pub choose : {R V W : Type 0} → (V → Option W) → List (R × V) → List (R × W)
choose f [] = []
choose f (x ∷ xs) = choose_one x.0 (f x.1) ++ choose f xs

-- rows put one after another
abbrev pub put_all : {R V : Type 0} → Sort R → (V → V → Bool) → List (R × V) → List (R × V) → List (R × V)
put_all sort same [] rows = rows
put_all sort same (p ∷ ps) rows = put_all sort same ps (put sort same p rows)

-- rows with another value in a run
abbrev pub overwrite : {R V : Type 0} → Sort R → (V → V → Bool) → R × V → List (R × V) → List (R × V)
overwrite sort same r rows = put sort same r (cut sort r.0 rows)
