-- The reading of a printed trace: its rules in order.
use Rattle.std.specs.Prelude.{ℕ, suc, ◌-◌, Bool, true, false, not, ◌&&◌, ◌||◌, ◌==◌, nat_le, List, [], ◌∷◌, ◌++◌, length, slice_index_or, codes, bytes_eq, Option, Some, None, Result, Ok, Err, if◌then◌else◌, ◌≡◌}
use Rattle.std.specs.List.{list_all}
use Rattle.std.specs.Option.{option_map_or}
use Rattle.wg_trace.specs.declared.parts.Cells.{Cells}
use Rattle.wg_trace.specs.declared.parts.PartRun.{PartRun}
use Rattle.wg_trace.specs.declared.parts.AccessKind.{AccessKind}
use Rattle.wg_trace.specs.declared.usages.Usages.{Usages}
use Rattle.wg_trace.specs.declared.steps.Item.{Item}
use Rattle.wg_trace.specs.declared.steps.Item.TheVariants as item
use Rattle.wg_readtrace.specs.declared.line.Line.{Line}
use Rattle.wg_readtrace.specs.declared.line.Line.TheVariants.{Bar, Step, Use, Acc, Free, End}
use Rattle.wg_readtrace.specs.declared.reading.TraceFault.{TraceFault}
use Rattle.wg_readtrace.specs.declared.reading.TraceFault.TheVariants.{Bad, NoMemory}
use Rattle.wg_readtrace.specs.Forms.{line_of}
use Rattle.wg_readtrace.specs.Given.{is_given}

-- whether a byte may stand in a text: a line end (10), or one from 32 to 126; trace rule 1 asks that of each, that a line end
-- is the last, and that some line is `trace`
abbrev pub is_text_byte : ℕ → Bool
is_text_byte b = (b == 10) || (nat_le 32 b && nat_le b 126)

-- whether some bytes end with the end of a line
abbrev pub ends_line : List ℕ → Bool
ends_line bs = slice_index_or bs (length bs - 1) 0 == 10

-- lines with one more byte at the beginning of the first
abbrev pub with_first : ℕ → List (List ℕ) → List (List ℕ)
with_first b [] = (b ∷ []) ∷ []
with_first b (line ∷ lines) = (b ∷ line) ∷ lines

-- the lines of a text, without their ends
abbrev pub lines_of : List ℕ → List (List ℕ)
lines_of [] = []
lines_of (b ∷ bs) = if b == 10 then [] ∷ lines_of bs else with_first b (lines_of bs)

-- the number of the first line `trace`, where the first of these has number n, and the lines behind it
abbrev pub behind_trace : ℕ → List (List ℕ) → Option (ℕ × List (List ℕ))
behind_trace n [] = None
behind_trace n (line ∷ lines) = if bytes_eq line (codes "trace") then Some (n, lines) else behind_trace (suc n) lines

-- The sorts of lines.
abbrev pub is_bar : Line → Bool
is_bar (Bar part from to) = true
is_bar _ = false

-- whether a line is that of a step
abbrev pub is_step : Line → Bool
is_step (Step number place name) = true
is_step _ = false

-- whether a line is that of a use
abbrev pub is_use : Line → Bool
is_use (Use part set) = true
is_use _ = false

-- whether a line is that of an access
abbrev pub is_acc : Line → Bool
is_acc (Acc kind cells) = true
is_acc _ = false

-- whether a line is the end of the trace
abbrev pub is_end : Line → Bool
is_end End = true
is_end _ = false

-- The lines before a line are listed from the last to the first.
abbrev pub last_line : List Line → Option Line
last_line [] = None
last_line (line ∷ before) = Some line

-- how many steps stand before a line
abbrev pub steps_in : List Line → ℕ
steps_in [] = 0
steps_in (line ∷ before) = if is_step line then suc (steps_in before) else steps_in before

-- whether there is a line, and the test holds of it
abbrev pub is_some_line : (Line → Bool) → Option Line → Bool
is_some_line test last = option_map_or test last false

-- a step has the number of the steps before it
abbrev pub is_counted : ℕ → Line → Bool
is_counted steps (Step number place name) = number == steps
is_counted steps line = true

-- trace rule 3, but for the last line: whether a line may stand behind another, or behind none, and so many steps: a barrier
-- is followed by a barrier or a step, `end` by nothing; `use` stands behind `step` or `use`, and `acc` behind these or `acc`
abbrev pub may_stand : Option Line → ℕ → Line → Bool
may_stand last steps line =
    is_counted steps line
    && (not (is_use line) || is_some_line (λ l. is_step l || is_use l) last)
    && (not (is_acc line) || is_some_line (λ l. is_step l || is_use l || is_acc l) last)
    && (not (is_some_line is_bar last) || (is_bar line || is_step line))
    && not (is_some_line is_end last)

-- the cells that `acc` lines of the step gave before a line, for trace rule 4
abbrev pub given_by : List Line → List Cells
given_by [] = []
given_by (Use part set ∷ before) = given_by before
given_by (Acc kind cells ∷ before) = given_by before ++ cells ∷ []
given_by (_ ∷ before) = []

-- whether a line gives a cell of these
abbrev pub gives_again : List Cells → Line → Bool
gives_again rows (Acc kind cells) = is_given rows cells
gives_again rows line = false

-- the line with number n, or the first of trace rules 2, 3 and 4 that it breaks, by whether it is the last one, the line
-- before it, how many steps stand before it, and the cells that its step has so far
abbrev pub judged : ℕ → Bool → Option Line → ℕ → List Cells → Option Line → Result Line (ℕ × ℕ)
judged n is_last last steps rows None = Err (2, n)
judged n is_last last steps rows (Some line) =
    if not (may_stand last steps line) then Err (3, n)
    else (if is_last && not (is_end line) then Err (3, n) else (if gives_again rows line then Err (4, n) else Ok line))

-- whether no line is left
abbrev pub is_none_left : List (List ℕ) → Bool
is_none_left [] = true
is_none_left (line ∷ lines) = false

-- a line before those that were read, or the first refusal
abbrev pub onto : Line → Result (List Line) (ℕ × ℕ) → Result (List Line) (ℕ × ℕ)
onto line (Ok lines) = Ok (line ∷ lines)
onto line (Err e) = Err e

-- more lines behind one that was read, or its refusal
abbrev pub then_read : (Line → Result (List Line) (ℕ × ℕ)) → Result Line (ℕ × ℕ) → Result (List Line) (ℕ × ℕ)
then_read more (Ok line) = onto line (more line)
then_read more (Err e) = Err e

-- the lines from number n on, behind these
abbrev pub read_from : ℕ → List Line → List (List ℕ) → Result (List Line) (ℕ × ℕ)
read_from n before [] = Ok []
read_from n before (text ∷ texts) =
    then_read (λ line. read_from (suc n) (line ∷ before) texts)
    (judged n (is_none_left texts) (last_line before) (steps_in before) (given_by before) (line_of text))

-- the lines behind `trace`; where there is none, `trace` is the last line, and that is not `end`
abbrev pub read_behind : Option (ℕ × List (List ℕ)) → Result (List Line) (ℕ × ℕ)
read_behind None = Err (1, 0)
read_behind (Some found) = if is_none_left found.1 then Err (3, found.0) else read_from (suc found.0) [] found.1

-- the lines behind the first line `trace`, each of which breaks no rule beside those before it, or the rule that is broken
-- first, with the number of its line
unfoldable pub read_lines : List ℕ → Result (List Line) (ℕ × ℕ)
read_lines bytes = if not (list_all is_text_byte bytes) || not (ends_line bytes) then Err (1, 0) else read_behind (behind_trace 1 (lines_of bytes))

-- The uses of a step are those of the `use` lines behind its line, up to the next line of another item,
abbrev pub uses_in : List Line → List (PartRun × Usages)
uses_in [] = []
uses_in (Use part set ∷ lines) = (part, set) ∷ uses_in lines
uses_in (Acc kind cells ∷ lines) = uses_in lines
uses_in (_ ∷ lines) = []

-- the accesses of a step: those of its `acc` lines
abbrev pub accesses_in : List Line → List (Cells × AccessKind)
accesses_in [] = []
accesses_in (Use part set ∷ lines) = accesses_in lines
accesses_in (Acc kind cells ∷ lines) = (cells, kind) ∷ accesses_in lines
accesses_in (_ ∷ lines) = []

-- the items that lines give
abbrev pub items_of : List Line → List Item
items_of [] = []
items_of (Bar part from to ∷ lines) = item.Bar part from to ∷ items_of lines
items_of (Step number place name ∷ lines) =
    item.Step (record { place = place; name = name; uses = uses_in lines; accesses = accesses_in lines }) ∷ items_of lines
items_of (Use part set ∷ lines) = items_of lines
items_of (Acc kind cells ∷ lines) = items_of lines
items_of (Free object sort ∷ lines) = item.Free object sort ∷ items_of lines
items_of (End ∷ lines) = items_of lines

-- the items of lines that were read, or the first refusal
abbrev pub as_items : Result (List Line) (ℕ × ℕ) → Result (List Item) (ℕ × ℕ)
as_items (Ok lines) = Ok (items_of lines)
as_items (Err e) = Err e

-- the trace that a text has, or its first refusal: rule and line
abbrev pub trace_in : List ℕ → Result (List Item) (ℕ × ℕ)
trace_in bytes = as_items (read_lines bytes)

-- A fault says of a text the rule and the line of its first refusal; want of memory says nothing.
abbrev pub Refuses : {X : Type 0} → TraceFault → Result X (ℕ × ℕ) → Type 0
Refuses (Bad rule line) read = read ≡ Err (rule, line)
Refuses NoMemory read = Unit {0}
