-- The keys of cells, and the events of a trace over them.
use Rattle.std.specs.Prelude.{ℕ, suc, ◌&&◌, ◌==◌, nat_lt, List, [], ◌∷◌, ◌++◌, map, if◌then◌else◌}
use Rattle.wg_rows.specs.Runs.{PartRun, BufferPart, LayerParts, QueryPart, Cell, Byte, Texels, Slice, Query, Cells, Bytes, Layers, Slices, Queries, aspect_number}
use Rattle.wg_rows.specs.Uses.{AccessKind, kind_reads, kind_writes}
use Rattle.wg_orders.specs.Trace.{Item, Bar, StepItem, Free}
use Rattle.wg_check.specs.declared.events.CellDeed.{CellDeed}
use Rattle.wg_check.specs.declared.events.CellDeed.TheVariants.{Fence, Act}
use Rattle.wg_check.specs.Segments.{Key, KeyEvent}

-- a key: object, sort, aspect, mip level and place, with bytes before queries before layers before slices
abbrev pub key : ℕ → ℕ → ℕ → ℕ → ℕ → Key
key object sort aspect mip at = record { object = object; sort = sort; aspect = aspect; mip = mip; at = at }

-- the key of a cell
abbrev pub cell_key : Cell → Key
cell_key (Byte object at) = key object 0 0 0 at
cell_key (Query object at) = key object 1 0 0 at
cell_key (Texels object aspect mip layer) = key object 2 (aspect_number aspect) mip layer
cell_key (Slice object mip depth) = key object 3 0 mip depth

-- a deed on the keys from lo up to but not including hi
abbrev pub event : Key → Key → CellDeed → KeyEvent
event lo hi deed = record { lo = lo; hi = hi; deed = deed }

-- A barrier on a buffer or a query set is on all its cells: up to the first key of the next mip level. One on layers
-- of aspect color is on the slices of their mip level exactly where it is on layer 0.
abbrev pub bar_events : PartRun → List KeyEvent
bar_events (BufferPart object) = event (key object 0 0 0 0) (key object 0 0 1 0) Fence ∷ []
bar_events (QueryPart object) = event (key object 1 0 0 0) (key object 1 0 1 0) Fence ∷ []
bar_events (LayerParts object aspect mip lo hi) =
    event (key object 2 (aspect_number aspect) mip lo) (key object 2 (aspect_number aspect) mip hi) Fence
    ∷ (if (aspect_number aspect == 0) && ((lo == 0) && nat_lt 0 hi) then event (key object 3 0 mip 0) (key object 3 0 (suc mip) 0) Fence ∷ [] else [])

-- a deed on the cells of a run
abbrev pub run_event : Cells → CellDeed → KeyEvent
run_event (Bytes object lo hi) deed = event (key object 0 0 0 lo) (key object 0 0 0 hi) deed
run_event (Queries object lo hi) deed = event (key object 1 0 0 lo) (key object 1 0 0 hi) deed
run_event (Layers object aspect mip lo hi) deed = event (key object 2 (aspect_number aspect) mip lo) (key object 2 (aspect_number aspect) mip hi) deed
run_event (Slices object mip lo hi) deed = event (key object 3 0 mip lo) (key object 3 0 mip hi) deed

-- what the accesses of a step at a place do to keys
abbrev pub row_events : ℕ → List (Cells × AccessKind) → List KeyEvent
row_events n rows = map (λ row. run_event row.0 (Act n (kind_reads row.1) (kind_writes row.1))) rows

-- what a trace does to keys, in its order, behind n steps: a barrier is a fence on all cells of its parts, that on layer 0 of
-- a mip level on the slices of that too, and a row is an act of its step
abbrev pub key_events : ℕ → List Item → List KeyEvent
key_events n [] = []
key_events n (Bar parts from to ∷ items) = bar_events parts ++ key_events n items
key_events n (StepItem s ∷ items) = row_events n s.accesses ++ key_events (suc n) items
key_events n (Free object sort ∷ items) = key_events n items
