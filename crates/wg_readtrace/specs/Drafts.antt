-- The reading of lines by what is kept of those before, and items put together from lines.
use Rattle.std.specs.Prelude.{ℕ, suc, Bool, not, ◌&&◌, ◌||◌, List, [], ◌∷◌, ◌++◌, map, Option, Some, None, Result, Ok, Err, ◌≡◌}
use Rattle.wg_trace.specs.declared.parts.PartRun.{PartRun}
use Rattle.wg_trace.specs.declared.parts.Cells.{Cells}
use Rattle.wg_trace.specs.declared.parts.AccessKind.{AccessKind}
use Rattle.wg_trace.specs.declared.usages.Usages.{Usages}
use Rattle.wg_trace.specs.declared.steps.StepPlace.{StepPlace}
use Rattle.wg_trace.specs.declared.steps.StepName.{StepName}
use Rattle.wg_trace.specs.declared.steps.Item.{Item}
use Rattle.wg_trace.specs.declared.steps.Item.TheVariants as item
use Rattle.wg_readtrace.specs.declared.line.Line.{Line}
use Rattle.wg_readtrace.specs.declared.line.Line.TheVariants.{Bar, Step, Use, Acc, Free, End}
use Rattle.wg_readtrace.specs.declared.draft.TraceDraft.{TraceDraft}
use Rattle.wg_readtrace.specs.declared.reading.TraceFault.{TraceFault}
use Rattle.wg_readtrace.specs.declared.reading.TraceFault.TheVariants.{Bad, NoMemory}
use Rattle.wg_readtrace.specs.Forms.{line_of}
use Rattle.wg_readtrace.specs.Given.{IsFull}
use Rattle.wg_readtrace.specs.Reading.{is_bar, is_step, is_use, is_acc, is_end, judged, is_none_left, then_read, items_of, uses_in, accesses_in}

-- how many steps stand before the next line
abbrev pub steps_after : ℕ → Line → ℕ
steps_after steps (Step number place name) = suc steps
steps_after steps line = steps

-- the cells of the step before the next line
abbrev pub rows_after : List Cells → Line → List Cells
rows_after rows (Use part set) = rows
rows_after rows (Acc kind cells) = rows ++ cells ∷ []
rows_after rows line = []

-- the lines from number n on, by the line before them, how many steps stand before them, and the cells of the step
abbrev pub lines_from : ℕ → Option Line → ℕ → List Cells → List (List ℕ) → Result (List Line) (ℕ × ℕ)
lines_from n last steps rows [] = Ok []
lines_from n last steps rows (text ∷ texts) =
    then_read (λ line. lines_from (suc n) (Some line) (steps_after steps line) (rows_after rows line) texts)
    (judged n (is_none_left texts) last steps rows (line_of text))

-- the items of lines behind a step that is not whole yet, or none
abbrev pub flow : Option (StepPlace × StepName) → List (PartRun × Usages) → List (Cells × AccessKind) → List Line → List Item
flow None uses accesses lines = items_of lines
flow (Some step) uses accesses lines =
    item.Step (record { place = step.0; name = step.1; uses = uses ++ uses_in lines; accesses = accesses ++ accesses_in lines }) ∷ items_of lines

-- the cells of the step that is not whole yet
abbrev pub rows_of : List (Cells × AccessKind) → List Cells
rows_of accesses = map (λ row. row.0) accesses

-- the items of a draft with those of the lines behind it
abbrev pub items_with : TraceDraft → List Line → List Item
items_with draft lines = draft.items ++ flow draft.begun draft.uses draft.accesses lines

-- the items of lines that were read, behind those that a draft has, or the first refusal
abbrev pub read_with : TraceDraft → Result (List Line) (ℕ × ℕ) → Result (List Item) (ℕ × ℕ)
read_with draft (Ok lines) = Ok (items_with draft lines)
read_with draft (Err e) = Err e

-- An access has a cell; of other lines nothing is said.
abbrev pub LineIsFull : Line → Type 0
LineIsFull (Acc kind cells) = IsFull cells
LineIsFull line = Unit {0}

-- The answer is what is read, but for want of memory.
abbrev pub Gives : {X : Type 0} → Result X TraceFault → Result X (ℕ × ℕ) → Type 0
Gives (Ok x) read = read ≡ Ok x
Gives (Err (Bad rule line)) read = read ≡ Err (rule, line)
Gives (Err NoMemory) read = Unit {0}

-- whether a line may stand behind another
abbrev pub may_follow : Line → Line → Bool
may_follow last (Bar part from to) = not (is_end last)
may_follow last (Step number place name) = not (is_end last)
may_follow last (Use part set) = is_step last || is_use last
may_follow last (Acc kind cells) = is_step last || is_use last || is_acc last
may_follow last (Free object sort) = not (is_bar last) && not (is_end last)
may_follow last End = not (is_bar last) && not (is_end last)

-- whether a line may stand where an item begins: it is neither a use nor an access
abbrev pub may_begin : Line → Bool
may_begin line = not (is_use line) && not (is_acc line)
