-- What a tracker keeps, and the traces that it stands for.
use Rattle.std.specs.Prelude.{ℕ, ◌≡◌, List, ◌++◌, map, min}
use Rattle.wg_fading.specs.Fading.{FadingValue}
use Rattle.wg_rows.specs.Sets.{UseRow}
use Rattle.wg_orders.specs.Steps.{Step}
use Rattle.wg_orders.specs.Trace.{Item, Sort, steps_of, free}
use Rattle.wg_bars.specs.Last.{LastRows, AreSorted, KeepsLast}
use Rattle.wg_init.specs.Rows.{SetRow, SetRows, KeepsSet, RunsApart}

-- what is kept of a tracker: the last set of each part, and the cells that are set, also of objects that were let go; the
-- numbers of those; and for how many more objects there is room
pub record TrackerValue : Type 0 where
  pub last : LastRows
  pub cells : SetRows
  pub last_gone : List ℕ
  pub cells_gone : List ℕ
  pub spare : ℕ

-- what is kept of a tracker in two lists
abbrev pub tracker_of : FadingValue (List UseRow) → FadingValue (List SetRow) → TrackerValue
tracker_of last cells = record { last = last.items; cells = cells.items; last_gone = last.gone; cells_gone = cells.gone; spare = min last.spare cells.spare }

-- the first of the two lists,
abbrev pub kept_last : TrackerValue → FadingValue (List UseRow)
kept_last t = record { items = t.last; gone = t.last_gone; spare = t.spare }

-- and the second
abbrev pub kept_cells : TrackerValue → FadingValue (List SetRow)
kept_cells t = record { items = t.cells; gone = t.cells_gone; spare = t.spare }

-- A tracker stands for steps where it keeps exactly the last set of each part and the cells that are not unset.
pub record Stands (t : TrackerValue) (steps : List Step) : Type 0 where
  pub last : KeepsLast t.last steps
  pub cells : KeepsSet t.cells steps

-- The rows of a tracker are in order: in printed form, those of its own objects, and runs that do not touch.
pub record IsSound (t : TrackerValue) : Type 0 where
  pub last : AreSorted t.last
  pub cells : RunsApart t.cells

-- Releases at the end of a trace change none of its steps, so that a tracker that stands for it stands for it with them too.
abbrev pub FreesKeep : Type 0
FreesKeep = (trace : List Item) (freed : List (ℕ × Sort)) → steps_of (trace ++ map free freed) ≡ steps_of trace
