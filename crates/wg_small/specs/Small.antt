-- How large the numbers in the trace of a run are.
use Rattle.std.specs.Prelude.{ℕ, ◌+◌, ◌<◌, ◌≤◌, List, length, Ok, ◌≡◌}
use Rattle.wg_trace.specs.declared.parts.AccessKind.{AccessKind}
use Rattle.wg_trace.specs.declared.usages.Usages.{Usages}
use Rattle.wg_trace.specs.declared.steps.StepPlace.{StepPlace}
use Rattle.wg_trace.specs.declared.steps.StepPlace.TheVariants.{Op, Host}
use Rattle.wg_trace.specs.declared.steps.Step.{Step}
use Rattle.wg_trace.specs.declared.steps.Item.{Item}
use Rattle.wg_trace.specs.declared.steps.Item.TheVariants.{Bar, Step as StepItem, Free}
use Rattle.wg_rows.specs.Rows.{EachRow}
use Rattle.wg_rows.specs.Runs.{PartRun, BufferPart, LayerParts, QueryPart, Cells, Bytes, Layers, Slices, Queries, run_part, run_object}
use Rattle.wg_history.specs.declared.events.Setup.{Setup}
use Rattle.wg_history.specs.Entries.{Entry}
use Rattle.wg_history.specs.Answers.{Run}
use Rattle.wg_history.specs.Steps.{Steps}
use Rattle.wg_history.specs.Traces.{Trace}
use Rattle.wg_readtrace.specs.Forms.{most_32, most_53}
use Rattle.wg_readtrace.specs.Reading.{trace_in}
use Rattle.wg_readback.specs.Printable.{step_count}
use Rattle.wg_shaped.specs.Reports.{report_of}

-- What is said of the place of a step, of each run of its parts, and of each run of its cells.
pub record StepHas (place : StepPlace → Type 0) (part : PartRun → Type 0) (cells : Cells → Type 0) (step : Step) : Type 0 where
  pub stands : place step.place
  pub uses : EachRow (λ (row : PartRun × Usages). part row.0) step.uses
  pub accesses : EachRow (λ (row : Cells × AccessKind). cells row.0) step.accesses

-- What is said of the places, parts, cells and objects of an item; of a release it is said of the number of its object.
abbrev pub ItemHas : (StepPlace → Type 0) → (PartRun → Type 0) → (Cells → Type 0) → (ℕ → Type 0) → Item → Type 0
ItemHas place part cells object (Bar run from to) = part run
ItemHas place part cells object (StepItem step) = StepHas place part cells step
ItemHas place part cells object (Free number sort) = object number

-- An operation or an entry of a history of this length: operations are numbered from 1, entries from 0.
abbrev pub IsPlaceWithin : ℕ → StepPlace → Type 0
IsPlaceWithin most (Op number) = number ≤ most
IsPlaceWithin most (Host entry) = entry < most

-- The object of a run of parts has a number below a bound.
abbrev pub IsPartWithin : ℕ → PartRun → Type 0
IsPartWithin most run = run_object run < most

-- The object of a run of cells has a number below a bound.
abbrev pub AreCellsWithin : ℕ → Cells → Type 0
AreCellsWithin most run = run_object (run_part run) < most

-- The number of an object is below a bound.
abbrev pub IsObjectWithin : ℕ → ℕ → Type 0
IsObjectWithin most number = number < most

-- All objects of an item, and its place, are below a bound.
abbrev pub IsItemWithin : ℕ → Item → Type 0
IsItemWithin most = ItemHas (IsPlaceWithin most) (IsPartWithin most) (AreCellsWithin most) (IsObjectWithin most)

-- In the trace of a run no operation has a number above the length of the history, and no entry and no object one that is not
-- below it.
abbrev pub NumbersAreWithin : Type 0
NumbersAreWithin = (setup : Setup) (history : List Entry) → Run setup history → EachRow (IsItemWithin (length history)) (Trace setup history)

-- The numbers of a run of parts, but for its object, are ones that the reader of traces takes.
abbrev pub IsSmallRange : PartRun → Type 0
IsSmallRange (BufferPart object) = Unit {0}
IsSmallRange (QueryPart object) = Unit {0}
IsSmallRange (LayerParts object aspect mip lo hi) = (mip ≤ most_32) × (hi ≤ most_32)

-- The numbers of a run of cells, but for its object, are ones that the reader of traces takes.
abbrev pub HaveSmallRange : Cells → Type 0
HaveSmallRange (Bytes object lo hi) = hi ≤ most_53
HaveSmallRange (Queries object lo hi) = hi ≤ most_32
HaveSmallRange (Layers object aspect mip lo hi) = (mip ≤ most_32) × (hi ≤ most_32)
HaveSmallRange (Slices object mip lo hi) = (mip ≤ most_32) × (hi ≤ most_32)

-- Nothing is asked of a place.
abbrev pub IsAnyPlace : StepPlace → Type 0
IsAnyPlace place = Unit {0}

-- Nothing is asked of an object's number.
abbrev pub IsAnyObject : ℕ → Type 0
IsAnyObject number = Unit {0}

-- All ranges of a step have numbers that the reader of traces takes.
abbrev pub HasSmallRanges : Step → Type 0
HasSmallRanges = StepHas IsAnyPlace IsSmallRange HaveSmallRange

-- All ranges of an item have numbers that the reader of traces takes.
abbrev pub HoldsSmallRanges : Item → Type 0
HoldsSmallRanges = ItemHas IsAnyPlace IsSmallRange HaveSmallRange IsAnyObject

-- Ranges are small in the trace of a history, in its barriers and clears too, where they are in its steps.
abbrev pub RangesOfSteps : Type 0
RangesOfSteps = (setup : Setup) (history : List Entry) → EachRow HasSmallRanges (Steps setup history) → EachRow HoldsSmallRanges (Trace setup history)

-- What is printed of a run and its trace is read as that trace, if the history is not longer than the greatest number that the
-- reader takes, and what the steps use and access of their objects is small enough.
abbrev pub ReadsBackByRanges : Type 0
ReadsBackByRanges =
    (setup : Setup) (history : List Entry)
    → Run setup history
    → length history ≤ most_53
    → EachRow HasSmallRanges (Steps setup history)
    → step_count (Trace setup history) ≤ most_53 + 1
    → trace_in (report_of setup history) ≡ Ok (Trace setup history)
