-- The verdict on a trace: whether some reader sees another write than the printed one in some order that keeps the
-- barriers, and the least such reader.
use Rattle.std.specs.Prelude.{ℕ, ◌<◌, ◌≤◌, true, List, Option, Some, None, ◌≡◌, ◌⊎◌}
use Rattle.wg_rows.specs.Runs.{Cell, cell_run}
use Rattle.wg_orders.specs.Trace.{Item, steps_of}
use Rattle.wg_orders.specs.Orders.{IsOrder, Keeps, Same, SameAt, Reads, Differs}
use Rattle.wg_check.specs.declared.segments.Spotted.{Spotted}
pub use Rattle.wg_check.specs.declared.clashes.Clash.{Clash}
use Rattle.wg_check.specs.Clashes.{story}
use Rattle.wg_check.specs.Keys.{cell_key}
use Rattle.wg_check.specs.Segments.{before, earlier, Key, rank, KeyEvent, key_story, EndsIn}

-- The cell stands before another in printed order.
abbrev pub StandsBefore : Cell → Cell → Type 0
StandsBefore c d = before (cell_key c) (cell_key d) ≡ true

-- A reader, a cell and a writer come before others, or are they: by reader, the end last, then by cell, then by writer.
abbrev pub IsAtMost : Option ℕ → Cell → ℕ → Option ℕ → Cell → ℕ → Type 0
IsAtMost reader c writer reader2 d writer2 = (earlier reader reader2 ≡ true) ⊎ ((reader ≡ reader2) × (StandsBefore c d ⊎ ((c ≡ d) × (writer ≤ writer2))))

-- The clash is at one cell, where its writer differs, and none that differs at any cell comes before it.
pub record IsLeastClash (trace : List Item) (clash : Clash) : Type 0 where
  pub at : Cell
  pub single : clash.cell ≡ cell_run at
  pub differs : Differs trace clash.reader at clash.writer
  pub least : (reader : Option ℕ) (c : Cell) (writer : ℕ) → Differs trace reader c writer → IsAtMost clash.reader at clash.writer reader c writer

-- A verdict is none where no writer differs at any reader and cell, and else the least clash.
abbrev pub IsVerdict : List Item → Option Clash → Type 0
IsVerdict trace None = (reader : Option ℕ) (c : Cell) (writer : ℕ) → Differs trace reader c writer → ⊥
IsVerdict trace (Some clash) = IsLeastClash trace clash

-- Some order of the accesses to the cell of a clash keeps the barriers and shows the reader another write, or none.
pub record IsDisturbed (trace : List Item) (clash : Clash) : Type 0 where
  pub at : Cell
  pub single : clash.cell ≡ cell_run at
  pub reads : Reads at (steps_of trace) clash.reader
  pub order : List ℕ
  pub is_order : IsOrder order (steps_of trace) at
  pub keeps : Keeps order trace at
  pub other : SameAt order (steps_of trace) at clash.reader → ⊥

-- None where every order of the accesses to a cell that keeps the barriers shows each reader what it sees as printed; else
-- some order does not.
abbrev pub TellsOrders : List Item → Option Clash → Type 0
TellsOrders trace None = (c : Cell) (order : List ℕ) → IsOrder order (steps_of trace) c → Keeps order trace c → Same order (steps_of trace) c
TellsOrders trace (Some clash) = IsDisturbed trace clash

-- The verdict over segments.

-- The events give each cell its story, and the ends of their runs are among these.
pub record Segmented (trace : List Item) (key : Cell → Key) (events : List KeyEvent) (ends : List Key) : Type 0 where
  pub stories : (c : Cell) → key_story (key c) 0 events ≡ story c trace
  pub within : EndsIn ends events

-- Spotted before, or as, a reader, a segment and a writer.
abbrev pub IsFirst : Spotted → Option ℕ → ℕ → ℕ → Type 0
IsFirst s reader n j = (earlier s.reader reader ≡ true) ⊎ ((s.reader ≡ reader) × ((s.segment < n) ⊎ ((s.segment ≡ n) × (s.writer ≤ j))))

-- Each cell of the segment differs so, and no cell differs earlier.
pub record IsLeastSpotted (trace : List Item) (key : Cell → Key) (ends : List Key) (s : Spotted) : Type 0 where
  pub differs : (c : Cell) → rank ends (key c) ≡ s.segment → Differs trace s.reader c s.writer
  pub first : (c : Cell) (reader : Option ℕ) (j : ℕ) → Differs trace reader c j → IsFirst s reader (rank ends (key c)) j

-- What is spotted in segments tells of all cells: none where no writer differs, and else the least.
abbrev pub SegmentsTell : List Item → (Cell → Key) → List Key → Option Spotted → Type 0
SegmentsTell trace key ends None = (c : Cell) (reader : Option ℕ) (j : ℕ) → Differs trace reader c j → ⊥
SegmentsTell trace key ends (Some s) = IsLeastSpotted trace key ends s
