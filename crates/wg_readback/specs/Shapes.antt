-- The shape of a trace, whatever its numbers are.
use Rattle.std.specs.Prelude.{◌<◌, List, [], ◌∷◌, Option, Some, None}
use Rattle.wg_trace.specs.declared.parts.PartRun.{PartRun}
use Rattle.wg_trace.specs.declared.parts.AccessKind.{AccessKind}
use Rattle.wg_trace.specs.declared.usages.Usages.{Usages}
use Rattle.wg_trace.specs.declared.steps.Step.{Step}
use Rattle.wg_trace.specs.declared.steps.Item.{Item}
use Rattle.wg_trace.specs.declared.steps.Item.TheVariants.{Bar, Step as StepItem, Free}
use Rattle.wg_rows.specs.Rows.{EachRow}
use Rattle.wg_rows.specs.Runs.{Cell, Cells, part_lo, part_hi, cell_lo, cell_hi}
use Rattle.wg_rows.specs.Once.{OneCovers}

-- A set has a usage, and none but the thirteen that have words.
abbrev pub IsSet : Usages → Type 0
IsSet set = (0 < set.0) × (set.0 < 8192)

-- A set from which a part goes has a usage, or there is none.
abbrev pub IsFrom : Option Usages → Type 0
IsFrom None = Unit {0}
IsFrom (Some set) = IsSet set

-- A run has a part.
abbrev pub HasPart : PartRun → Type 0
HasPart run = part_lo run < part_hi run

-- A run has a cell.
abbrev pub HasCell : Cells → Type 0
HasCell run = cell_lo run < cell_hi run

-- A use has a part and a usage.
abbrev pub IsShapedUse : PartRun × Usages → Type 0
IsShapedUse row = HasPart row.0 × IsSet row.1

-- An access has a cell.
abbrev pub IsShapedAccess : Cells × AccessKind → Type 0
IsShapedAccess row = HasCell row.0

-- A step has no empty row and no empty set,
pub record IsFilledStep (step : Step) : Type 0 where
  pub uses : EachRow IsShapedUse step.uses
  pub accesses : EachRow IsShapedAccess step.accesses

-- A step gives no cell twice.
abbrev pub IsOnceStep : Step → Type 0
IsOnceStep step = (c : Cell) → OneCovers c step.accesses

-- A step has no empty row or set, and gives no cell twice.
abbrev pub IsShapedStep : Step → Type 0
IsShapedStep step = IsFilledStep step × IsOnceStep step

-- An item has the shape that the reader of traces asks for.
abbrev pub IsShapedItem : Item → Type 0
IsShapedItem (Bar part from to) = HasPart part × IsFrom from × IsSet to
IsShapedItem (StepItem step) = IsShapedStep step
IsShapedItem (Free object sort) = Unit {0}

-- a barrier or a step is the first item
abbrev pub GoOn : List Item → Type 0
GoOn [] = ⊥
GoOn (Bar part from to ∷ items) = Unit {0}
GoOn (StepItem step ∷ items) = Unit {0}
GoOn (Free object sort ∷ items) = ⊥

-- Behind each barrier stands a barrier or a step.
abbrev pub BarsLead : List Item → Type 0
BarsLead [] = Unit {0}
BarsLead (Bar part from to ∷ items) = GoOn items × BarsLead items
BarsLead (_ ∷ items) = BarsLead items

-- Each item of a trace has its shape, and barriers stand before barriers and steps.
pub record IsShaped (trace : List Item) : Type 0 where
  pub items : EachRow IsShapedItem trace
  pub bars : BarsLead trace
