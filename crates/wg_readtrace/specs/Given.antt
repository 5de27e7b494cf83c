-- Runs with a common cell.
use Rattle.std.specs.Prelude.{ℕ, ◌<◌, Bool, true, ◌&&◌, ◌==◌, List, nat_lt, Option, Some, ◌≡◌, ◌≤◌}
use Rattle.std.specs.List.{list_any}
use Rattle.std.specs.BTreeMap.{BTreeMap, get}
use Rattle.std.specs.declared.cmp.Ordering.{Ordering}
use Rattle.std.specs.Ordering.{ordering_then, nat_cmp}
use Rattle.wg_rows.specs.Rows.{list_eq}
use Rattle.wg_readtrace.specs.declared.given.Given.{Given}
use Rattle.wg_rows.specs.Runs.{Cells, Bytes, Queries, Layers, Slices, aspect_number, cell_line, cell_lo, cell_hi}

-- two runs of one line, each of which begins before the other ends
unfoldable pub overlap : Cells → Cells → Bool
overlap a b = list_eq (cell_line a) (cell_line b) && (nat_lt (cell_lo a) (cell_hi b) && nat_lt (cell_lo b) (cell_hi a))

-- whether a run has a cell of these runs
abbrev pub is_given : List Cells → Cells → Bool
is_given rows run = list_any (overlap run) rows

-- a run that has a cell
abbrev pub IsFull : Cells → Type 0
IsFull run = cell_lo run < cell_hi run

-- Where a run lies: the object, the sort (0 for bytes, 1 for queries, 2 for layers, 3 for slices), the aspect and the mip
-- level of its line, and where it begins in the line.
abbrev pub Line : Type 0
Line = ℕ × ℕ × ℕ × ℕ

-- the line of cells on which a run lies, as four numbers
abbrev pub line_of : Cells → Line
line_of (Bytes object lo hi) = (object, 0, 0, 0)
line_of (Queries object lo hi) = (object, 1, 0, 0)
line_of (Layers object aspect mip lo hi) = (object, 2, aspect_number aspect, mip)
line_of (Slices object mip lo hi) = (object, 3, 0, mip)

-- which of two lines of cells comes first
abbrev pub line_cmp : Line → Line → Ordering
line_cmp x y = ordering_then (ordering_then (ordering_then (nat_cmp x.0 y.0) (nat_cmp x.1 y.1)) (nat_cmp x.2 y.2)) (nat_cmp x.3 y.3)

-- whether two lines of cells are the same
abbrev pub same_line : Line → Line → Bool
same_line x y = (x.0 == y.0) && ((x.1 == y.1) && ((x.2 == y.2) && (x.3 == y.3)))

-- a place on a line of cells
abbrev pub Place : Type 0
Place = Line × ℕ

-- which of two places comes first
abbrev pub place_cmp : Place → Place → Ordering
place_cmp x y = ordering_then (line_cmp x.0 y.0) (nat_cmp x.1 y.1)

-- The ends of runs by their places.
abbrev pub Ends : Type 0
Ends = Place → Option ℕ

-- Ends tell runs: each run that has a cell of these runs meets one of the ends, and the other way round; none is empty,
-- and those of one line lie apart.
pub record Tells (ends : Ends) (rows : List Cells) : Type 0 where
  pub found : (run : Cells) → is_given rows run ≡ true → (at : ℕ) × (end : ℕ) × (ends (line_of run, at) ≡ Some end) × (cell_lo run < end) × (at < cell_hi run)
  pub given : (run : Cells) (at end : ℕ) → ends (line_of run, at) ≡ Some end → cell_lo run < end → at < cell_hi run → is_given rows run ≡ true
  pub full : (line : Line) (at end : ℕ) → ends (line, at) ≡ Some end → at < end
  pub apart : (line : Line) (at end at2 end2 : ℕ) → ends (line, at) ≡ Some end → ends (line, at2) ≡ Some end2 → at < at2 → end ≤ at2

-- the map's ends
abbrev pub ends_of : BTreeMap Place ℕ → Ends
ends_of m place = get place_cmp m place

-- What is kept of the cells that a step gave tells just those rows.
abbrev pub Knows : Given → List Cells → Type 0
Knows given rows = Tells (ends_of given.ends) rows
