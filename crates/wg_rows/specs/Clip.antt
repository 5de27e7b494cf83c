-- Pieces of a run: before another, behind it, and inside it.
use Rattle.std.specs.Prelude.{min, max, ◌&&◌, Option, Some, None, List, [], ◌∷◌, nat_lt, if◌then◌else◌}
use Rattle.wg_rows.specs.Rows.{list_eq, Sort}

-- what of a run lies before another of its line, if anything does
abbrev pub left_run : {R : Type 0} → Sort R → R → R → Option R
left_run sort x r = if nat_lt (sort.lo x) (sort.lo r) then Some (sort.widen x (sort.lo x) (min (sort.hi x) (sort.lo r))) else None

-- what of a run lies behind another of its line, if anything does
abbrev pub right_run : {R : Type 0} → Sort R → R → R → Option R
right_run sort x r = if nat_lt (sort.hi r) (sort.hi x) then Some (sort.widen x (max (sort.lo x) (sort.hi r)) (sort.hi x)) else None

-- what of a run lies inside of another, if anything does
abbrev pub inner_run : {R : Type 0} → Sort R → R → R → Option R
inner_run sort x r = if list_eq (sort.line r) (sort.line x) && nat_lt (max (sort.lo x) (sort.lo r)) (min (sort.hi x) (sort.hi r)) then Some (sort.widen x (max (sort.lo x) (sort.lo r)) (min (sort.hi x) (sort.hi r))) else None

-- the row of a run with a value, if there is a run
abbrev pub some_row : {R V : Type 0} → Option R → V → List (R × V)
some_row None v = []
some_row (Some run) v = (run, v) ∷ []
