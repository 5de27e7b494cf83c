-- What a trace has to be, and the text before it, so that its printed lines are a trace again.
use Rattle.std.specs.Prelude.{ℕ, ◌+◌, ◌<◌, ◌≤◌, true, false, List, [], ◌∷◌, length, codes, bytes_eq, ◌≡◌}
use Rattle.std.specs.List.{list_all, list_any}
use Rattle.wg_trace.specs.declared.parts.PartRun.{PartRun}
use Rattle.wg_trace.specs.declared.parts.PartRun.TheVariants.{Buffer, Queries, Texture}
use Rattle.wg_trace.specs.declared.parts.Cells.{Cells}
use Rattle.wg_trace.specs.declared.parts.Cells.TheVariants.{Bytes, Queries as QueryCells, Layers, Slices}
use Rattle.wg_trace.specs.declared.parts.AccessKind.{AccessKind}
use Rattle.wg_trace.specs.declared.usages.Usages.{Usages}
use Rattle.wg_trace.specs.declared.steps.StepPlace.{StepPlace}
use Rattle.wg_trace.specs.declared.steps.StepPlace.TheVariants.{Op, Host}
use Rattle.wg_trace.specs.declared.steps.Step.{Step}
use Rattle.wg_trace.specs.declared.steps.Item.{Item}
use Rattle.wg_trace.specs.declared.steps.Item.TheVariants.{Bar, Step as StepItem, Free}
use Rattle.wg_rows.specs.Rows.{EachRow}
use Rattle.wg_readtrace.specs.Forms.{most_32, most_53}
use Rattle.wg_readtrace.specs.Reading.{is_text_byte, ends_line, lines_of}
use Rattle.wg_readback.specs.Shapes.{IsShaped}

-- The numbers of a run of parts are ones that the reader of traces takes.
abbrev pub IsSmallPart : PartRun → Type 0
IsSmallPart (Buffer object) = object ≤ most_53
IsSmallPart (Queries object) = object ≤ most_53
IsSmallPart (Texture object aspect mip lo hi) = (object ≤ most_53) × (mip ≤ most_32) × (hi ≤ most_32)

-- The numbers of a run of cells are ones that the reader of traces takes.
abbrev pub AreSmallCells : Cells → Type 0
AreSmallCells (Bytes object lo hi) = (object ≤ most_53) × (hi ≤ most_53)
AreSmallCells (QueryCells object lo hi) = (object ≤ most_53) × (hi ≤ most_32)
AreSmallCells (Layers object aspect mip lo hi) = (object ≤ most_53) × (mip ≤ most_32) × (hi ≤ most_32)
AreSmallCells (Slices object mip lo hi) = (object ≤ most_53) × (mip ≤ most_32) × (hi ≤ most_32)

-- The number of a place is one that the reader of traces takes.
abbrev pub IsSmallPlace : StepPlace → Type 0
IsSmallPlace (Op number) = number ≤ most_53
IsSmallPlace (Host entry) = entry ≤ most_53

-- The numbers of a use are ones that the reader of traces takes.
abbrev pub IsSmallUse : PartRun × Usages → Type 0
IsSmallUse row = IsSmallPart row.0

-- The numbers of an access are ones that the reader of traces takes.
abbrev pub IsSmallAccess : Cells × AccessKind → Type 0
IsSmallAccess row = AreSmallCells row.0

-- The numbers of a step are ones that the reader of traces takes.
pub record IsSmallStep (step : Step) : Type 0 where
  pub place : IsSmallPlace step.place
  pub uses : EachRow IsSmallUse step.uses
  pub accesses : EachRow IsSmallAccess step.accesses

-- The numbers of an item are ones that the reader of traces takes.
abbrev pub IsSmallItem : Item → Type 0
IsSmallItem (Bar part from to) = IsSmallPart part
IsSmallItem (StepItem step) = IsSmallStep step
IsSmallItem (Free object sort) = object ≤ most_53

-- how many steps a trace has
abbrev pub step_count : List Item → ℕ
step_count [] = 0
step_count (StepItem step ∷ items) = step_count items + 1
step_count (_ ∷ items) = step_count items

-- What the reader asks of a trace: its shape, that its numbers are small enough, and that there are numbers for its steps.
pub record IsPrintable (trace : List Item) : Type 0 where
  pub shaped : IsShaped trace
  pub small : EachRow IsSmallItem trace
  pub steps : step_count trace ≤ most_53 + 1

-- What the reader asks of the text before a trace: its bytes are those of a text, it is empty or ends with a line end,
-- and none of its lines is `trace`.
pub record IsFront (before : List ℕ) : Type 0 where
  pub text : list_all is_text_byte before ≡ true
  pub ended : 0 < length before → ends_line before ≡ true
  pub none : list_any (λ line. bytes_eq line (codes "trace")) (lines_of before) ≡ false
