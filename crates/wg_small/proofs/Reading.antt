-- What is printed of a run is read back where its ranges are small.
use Rattle.std.proofs.Common.{ℕ, ◌≤◌, List, [], ◌∷◌, length, arith}
use Rattle.wg_trace.specs.declared.parts.AccessKind.{AccessKind}
use Rattle.wg_trace.specs.declared.usages.Usages.{Usages}
use Rattle.wg_rows.specs.Rows.{EachRow}
use Rattle.wg_rows.specs.Runs.{PartRun, BufferPart, LayerParts, QueryPart, Cells, Bytes, Layers, Slices, Queries}
use Rattle.wg_orders.specs.Steps.{Step, StepPlace}
use Rattle.wg_trace.specs.declared.steps.StepPlace.TheVariants.{Op, Host}
use Rattle.wg_orders.specs.Trace.{Item, Bar, StepItem, Free}
use Rattle.wg_readtrace.specs.Forms.{most_53}
use Rattle.wg_readback.specs.Printable.{IsSmallPart, AreSmallCells, IsSmallPlace, IsSmallUse, IsSmallAccess, IsSmallStep, IsSmallItem}
use Rattle.wg_orders.specs.Trace.{Sort, steps_in}
use Rattle.wg_history.specs.declared.events.Setup.{Setup}
use Rattle.wg_history.specs.Entries.{Past}
use Rattle.wg_history.specs.Steps.{groups_of, steps_back}
use Rattle.wg_history.specs.Releases.{freed}
use Rattle.wg_history.specs.Traces.{work_of, trace_after, Trace}
use Rattle.wg_small.proofs.Tracing.{IsSaid, IsSaidItem, each_parts, work_added}
use Rattle.wg_small.proofs.Ranges.{ranges, ranges_closed}
use Rattle.wg_shaped.proofs.History.{history_reads_back}
use Rattle.std.specs.Prelude.{reverse}
use Rattle.wg_small.specs.Small.{IsAnyObject, StepHas, IsPlaceWithin, IsPartWithin, AreCellsWithin, IsItemWithin, IsSmallRange, HaveSmallRange, IsAnyPlace, HoldsSmallRanges, RangesOfSteps, ReadsBackByRanges}
use Rattle.wg_small.proofs.History.{numbers_are_within}

part_small : (most : ℕ) (run : PartRun) → most ≤ most_53 → IsPartWithin most run → IsSmallRange run → IsSmallPart run
part_small most (BufferPart object) few made small = omega (arith, few, made)
part_small most (QueryPart object) few made small = omega (arith, few, made)
part_small most (LayerParts object aspect mip lo hi) few made small = (omega (arith, few, made), small.0, small.1)

cells_small : (most : ℕ) (run : Cells) → most ≤ most_53 → AreCellsWithin most run → HaveSmallRange run → AreSmallCells run
cells_small most (Bytes object lo hi) few made small = (omega (arith, few, made), small)
cells_small most (Queries object lo hi) few made small = (omega (arith, few, made), small)
cells_small most (Layers object aspect mip lo hi) few made small = (omega (arith, few, made), small.0, small.1)
cells_small most (Slices object mip lo hi) few made small = (omega (arith, few, made), small.0, small.1)

place_small : (most : ℕ) (place : StepPlace) → most ≤ most_53 → IsPlaceWithin most place → IsSmallPlace place
place_small most (Op number) few at = omega (arith, few, at)
place_small most (Host entry) few at = omega (arith, few, at)

uses_small : (most : ℕ) (rows : List (PartRun × Usages)) → most ≤ most_53 → EachRow (λ (row : PartRun × Usages). IsPartWithin most row.0) rows → EachRow (λ (row : PartRun × Usages). IsSmallRange row.0) rows → EachRow IsSmallUse rows
uses_small most [] few made small = tt
uses_small most (row ∷ rows) few made small = (part_small most row.0 few made.0 small.0, uses_small most rows few made.1 small.1)

accesses_small : (most : ℕ) (rows : List (Cells × AccessKind)) → most ≤ most_53 → EachRow (λ (row : Cells × AccessKind). AreCellsWithin most row.0) rows → EachRow (λ (row : Cells × AccessKind). HaveSmallRange row.0) rows → EachRow IsSmallAccess rows
accesses_small most [] few made small = tt
accesses_small most (row ∷ rows) few made small = (cells_small most row.0 few made.0 small.0, accesses_small most rows few made.1 small.1)

step_small : (most : ℕ) (step : Step) → most ≤ most_53 → StepHas (IsPlaceWithin most) (IsPartWithin most) (AreCellsWithin most) step → StepHas IsAnyPlace IsSmallRange HaveSmallRange step → IsSmallStep step
step_small most step few made small = record {
  place = place_small most step.place few made.stands;
  uses = uses_small most step.uses few made.uses small.uses;
  accesses = accesses_small most step.accesses few made.accesses small.accesses;
}

item_small : (most : ℕ) (item : Item) → most ≤ most_53 → IsItemWithin most item → HoldsSmallRanges item → IsSmallItem item
item_small most (Bar part from to) few made small = part_small most part few made small
item_small most (StepItem step) few made small = step_small most step few made small
item_small most (Free object sort) few made small = omega (arith, few, made)

items_small : (most : ℕ) (items : List Item) → most ≤ most_53 → EachRow (IsItemWithin most) items → EachRow HoldsSmallRanges items → EachRow IsSmallItem items
items_small most [] few made small = tt
items_small most (item ∷ items) few made small = (item_small most item few made.0 small.0, items_small most items few made.1 small.1)

-- what is released has no range
any_freed : (freed : List (ℕ × Sort)) → EachRow (λ (object : ℕ × Sort). IsAnyObject object.0) freed
any_freed [] = tt
any_freed (object ∷ freed) = (tt, any_freed freed)

past_ranges : (setup : Setup) (past : Past) → EachRow (IsSaid ranges) (steps_back setup past) → EachRow (IsSaidItem ranges) (trace_after setup past)
past_ranges setup [] h = tt
past_ranges setup (entry ∷ older) h =
    let parts : EachRow (IsSaid ranges) (steps_back setup older) × EachRow (IsSaid ranges) (steps_in (groups_of setup older entry)) = each_parts (IsSaid ranges) (steps_back setup older) (steps_in (groups_of setup older entry)) h in
    work_added ranges ranges_closed (trace_after setup older) (work_of setup entry older) (past_ranges setup older parts.0) parts.1 (any_freed (freed setup (entry ∷ older)))

pub ranges_of_steps : RangesOfSteps
ranges_of_steps setup history small = past_ranges setup (reverse history) small

pub reads_back_by_ranges : ReadsBackByRanges
reads_back_by_ranges setup history run few small steps =
    history_reads_back setup history run (items_small (length history) (Trace setup history) few (numbers_are_within setup history run) (ranges_of_steps setup history small)) steps
