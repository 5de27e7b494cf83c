-- Each trace that is read is printable.
use Rattle.std.specs.Prelude.{Some, None, Option, Result, Ok, Err}
use Rattle.std.specs.List.{list_all}
use Rattle.std.proofs.Common.{◌≡◌, ℕ, suc, ◌+◌, ◌≤◌, ◌==◌, ◌&&◌, ◌||◌, not, List, [], ◌∷◌, Bool, true, false, if◌then◌else◌, sym, refl, ◌∙◌, subst, arith, lit<, true≢false}
use Rattle.std.proofs.lemmas.Bool.{and_parts, eqb-true}
use Rattle.wg_trace.specs.declared.parts.PartRun.{PartRun}
use Rattle.wg_trace.specs.declared.parts.PartRun.TheVariants.{Buffer, Queries, Texture}
use Rattle.wg_trace.specs.declared.parts.Cells.{Cells}
use Rattle.wg_trace.specs.declared.parts.Cells.TheVariants.{Bytes, Queries as QueryCells, Layers, Slices}
use Rattle.wg_trace.specs.declared.steps.Item.{Item}
use Rattle.wg_trace.specs.declared.steps.Item.TheVariants.{Bar as BarItem, Step as StepItem, Free as FreeItem}
use Rattle.wg_rows.specs.Rows.{EachRow}
use Rattle.wg_rows.specs.Once.{AreOnce}
use Rattle.wg_readtrace.specs.declared.line.Line.{Line}
use Rattle.wg_readtrace.specs.declared.line.Line.TheVariants.{Bar, Step, Use, Acc, Free, End}
use Rattle.wg_readtrace.specs.Forms.{most_53, line_of}
use Rattle.wg_readtrace.specs.Reading.{is_text_byte, ends_line, lines_of, behind_trace, is_bar, is_step, is_end, last_line, steps_in, is_some_line, is_counted, may_stand, given_by, gives_again, judged, is_none_left, onto, then_read, read_from, read_behind, read_lines, uses_in, accesses_in, items_of, as_items}
use Rattle.wg_readtrace.proofs.Once.{items_once}
use Rattle.wg_readback.specs.Shapes.{IsFrom, IsSet, HasPart, HasCell, IsShapedUse, IsShapedAccess, IsFilledStep, IsShapedItem, GoOn, BarsLead}
use Rattle.wg_readback.specs.Printable.{IsSmallPart, AreSmallCells, IsSmallUse, IsSmallAccess, IsSmallItem, step_count, IsPrintable}
use Rattle.wg_readback.specs.Laws.{ReadIsPrintable}
use Rattle.wg_readback.proofs.Whole.{IsPart, AreCells}
use Rattle.wg_readback.proofs.Said.{IsLine}
use Rattle.wg_readback.proofs.Lines.{AreLines}
use Rattle.wg_readback.proofs.Told.{Has, line_has}

-- the shape of what lines say, and its numbers
part_parts : (run : PartRun) → IsPart run → HasPart run × IsSmallPart run
part_parts (Buffer object) h = (lit< tt, h)
part_parts (Queries object) h = (lit< tt, h)
part_parts (Texture object aspect mip lo hi) h = (h.2.0, (h.0, h.1, h.2.1))

cells_parts : (run : Cells) → AreCells run → HasCell run × AreSmallCells run
cells_parts (Bytes object lo hi) h = (h.1.0, (h.0, h.1.1))
cells_parts (QueryCells object lo hi) h = (h.1.0, (h.0, h.1.1))
cells_parts (Layers object aspect mip lo hi) h = (h.2.0, (h.0, h.1, h.2.1))
cells_parts (Slices object mip lo hi) h = (h.2.0, (h.0, h.1, h.2.1))

uses_parts : (lines : List Line) → AreLines lines → EachRow IsShapedUse (uses_in lines) × EachRow IsSmallUse (uses_in lines)
uses_parts [] h = (tt, tt)
uses_parts (Bar part from to ∷ lines) h = (tt, tt)
uses_parts (Step number place name ∷ lines) h = (tt, tt)
uses_parts (Use part set ∷ lines) h =
    let run : HasPart part × IsSmallPart part = part_parts part h.0.0 in
    let rest : EachRow IsShapedUse (uses_in lines) × EachRow IsSmallUse (uses_in lines) = uses_parts lines h.1 in
    (((run.0, h.0.1), rest.0), (run.1, rest.1))
uses_parts (Acc kind cells ∷ lines) h = uses_parts lines h.1
uses_parts (Free object sort ∷ lines) h = (tt, tt)
uses_parts (End ∷ lines) h = (tt, tt)

accesses_parts : (lines : List Line) → AreLines lines → EachRow IsShapedAccess (accesses_in lines) × EachRow IsSmallAccess (accesses_in lines)
accesses_parts [] h = (tt, tt)
accesses_parts (Bar part from to ∷ lines) h = (tt, tt)
accesses_parts (Step number place name ∷ lines) h = (tt, tt)
accesses_parts (Use part set ∷ lines) h = accesses_parts lines h.1
accesses_parts (Acc kind cells ∷ lines) h =
    let run : HasCell cells × AreSmallCells cells = cells_parts cells h.0 in
    let rest : EachRow IsShapedAccess (accesses_in lines) × EachRow IsSmallAccess (accesses_in lines) = accesses_parts lines h.1 in
    ((run.0, rest.0), (run.1, rest.1))
accesses_parts (Free object sort ∷ lines) h = (tt, tt)
accesses_parts (End ∷ lines) h = (tt, tt)

abbrev IsFilledItem : Item → Type 0
IsFilledItem (BarItem part from to) = HasPart part × IsFrom from × IsSet to
IsFilledItem (StepItem step) = IsFilledStep step
IsFilledItem (FreeItem object sort) = Unit {0}

items_parts : (lines : List Line) → AreLines lines → EachRow IsFilledItem (items_of lines) × EachRow IsSmallItem (items_of lines)
items_parts [] h = (tt, tt)
items_parts (Bar part from to ∷ lines) h =
    let run : HasPart part × IsSmallPart part = part_parts part h.0.0 in
    let rest : EachRow IsFilledItem (items_of lines) × EachRow IsSmallItem (items_of lines) = items_parts lines h.1 in
    (((run.0, h.0.1, h.0.2), rest.0), (run.1, rest.1))
items_parts (Step number place name ∷ lines) h =
    let uses : EachRow IsShapedUse (uses_in lines) × EachRow IsSmallUse (uses_in lines) = uses_parts lines h.1 in
    let accesses : EachRow IsShapedAccess (accesses_in lines) × EachRow IsSmallAccess (accesses_in lines) = accesses_parts lines h.1 in
    let rest : EachRow IsFilledItem (items_of lines) × EachRow IsSmallItem (items_of lines) = items_parts lines h.1 in
    ((record { uses = uses.0; accesses = accesses.0 }, rest.0), (record { place = h.0.1; uses = uses.1; accesses = accesses.1 }, rest.1))
items_parts (Use part set ∷ lines) h = items_parts lines h.1
items_parts (Acc kind cells ∷ lines) h = items_parts lines h.1
items_parts (Free object sort ∷ lines) h =
    let rest : EachRow IsFilledItem (items_of lines) × EachRow IsSmallItem (items_of lines) = items_parts lines h.1 in
    ((tt, rest.0), (h.0, rest.1))
items_parts (End ∷ lines) h = items_parts lines h.1

items_shaped : (items : List Item) → EachRow IsFilledItem items → AreOnce items → EachRow IsShapedItem items
items_shaped [] h once = tt
items_shaped (BarItem part from to ∷ items) h once = (h.0, items_shaped items h.1 once)
items_shaped (StepItem step ∷ items) h once = ((h.0, once.0), items_shaped items h.1 once.1)
items_shaped (FreeItem object sort ∷ items) h once = (tt, items_shaped items h.1 once)

-- What is known of a line that keeps the rules.
record Stands (is_last : Bool) (last : Option Line) (steps : ℕ) (line : Line) : Type 0 where
  whole : IsLine line
  stands : may_stand last steps line ≡ true
  ends : is_last && not (is_end line) ≡ false

abbrev IfJudged : Bool → Option Line → ℕ → Result Line (ℕ × ℕ) → Type 0
IfJudged is_last last steps (Ok line) = Stands is_last last steps line
IfJudged is_last last steps (Err e) = Unit {0}

abbrev verdict : ℕ → Line → Bool → Bool → Bool → Result Line (ℕ × ℕ)
verdict n line s t u = if not s then Err (3, n) else (if t then Err (3, n) else (if u then Err (4, n) else Ok line))

judged_stands : (n : ℕ) (is_last : Bool) (last : Option Line) (steps : ℕ) (rows : List Cells) (o : Option Line) → Has IsLine o → IfJudged is_last last steps (judged n is_last last steps rows o)
judged_stands n is_last last steps rows None h = tt
judged_stands n is_last last steps rows (Some line) h = by_tests (may_stand last steps line) (is_last && not (is_end line)) (gives_again rows line) refl refl
  where
    by_tests : (s t u : Bool) → may_stand last steps line ≡ s → is_last && not (is_end line) ≡ t → IfJudged is_last last steps (verdict n line s t u)
    by_tests false t u a b = tt
    by_tests true true u a b = tt
    by_tests true false true a b = tt
    by_tests true false false a b = record { whole = h; stands = a; ends = b }

-- behind a barrier stands a barrier or a step
no_bar : (last : Option Line) (steps : ℕ) (line : Line) → may_stand last steps line ≡ true → is_bar line || is_step line ≡ false → is_some_line is_bar last ≡ true → ⊥
no_bar last steps line h other bar = clash (is_some_line is_bar last) (is_bar line || is_step line) (and_parts _ _ (and_parts _ _ h).0).1 bar other
  where
    clash : (b c : Bool) → not b || c ≡ true → b ≡ true → c ≡ false → ⊥
    clash true true e f g = true≢false g
    clash true false e f g = true≢false (sym e)
    clash false c e f g = true≢false (sym f)

counted : (last : Option Line) (steps number : ℕ) (line : Line) → may_stand last steps line ≡ true → is_counted steps line ≡ (number == steps) → number ≡ steps
counted last steps number line h e = eqb-true number steps (sym e ∙ (and_parts _ _ (and_parts _ _ (and_parts _ _ (and_parts _ _ h).0).0).0).0)

not_done : (b : Bool) → b && true ≡ false → b ≡ false
not_done true e = e
not_done false e = refl

-- Lines that are read, behind these, and whether none is left.
record Fine (before lines : List Line) (is_done : Bool) : Type 0 where
  whole : AreLines lines
  bars : BarsLead (items_of lines)
  goes : is_done ≡ false → is_some_line is_bar (last_line before) ≡ true → GoOn (items_of lines)
  count : steps_in before ≤ most_53 + 1 → steps_in before + step_count (items_of lines) ≤ most_53 + 1

abbrev AreFine : List Line → Bool → Result (List Line) (ℕ × ℕ) → Type 0
AreFine before is_done (Ok lines) = Fine before lines is_done
AreFine before is_done (Err e) = Unit {0}

line_fine : (before : List Line) (line : Line) (lines : List Line) (is_done : Bool) → Stands is_done (last_line before) (steps_in before) line → Fine (line ∷ before) lines is_done → Fine before (line ∷ lines) false
line_fine before (Bar part from to) lines is_done s f = record {
  whole = (s.whole, f.whole);
  bars = (f.goes (not_done is_done s.ends) refl, f.bars);
  goes = λ d b. tt;
  count = f.count;
}
line_fine before (Step number place name) lines is_done s f = record {
  whole = (s.whole, f.whole);
  bars = f.bars;
  goes = λ d b. tt;
  count = λ l. step_counted (steps_in before) number (step_count (items_of lines)) (counted (last_line before) (steps_in before) number (Step number place name) s.stands refl) s.whole.0 f.count;
}
  where
    step_counted : (steps number count : ℕ) → number ≡ steps → number ≤ most_53 → (suc steps ≤ most_53 + 1 → suc steps + count ≤ most_53 + 1) → steps + (count + 1) ≤ most_53 + 1
    step_counted steps number count e l h = let rest : suc steps + count ≤ most_53 + 1 = h (omega arith) in omega arith
line_fine before (Use part set) lines is_done s f = record {
  whole = (s.whole, f.whole);
  bars = f.bars;
  goes = λ d b. absurd (no_bar (last_line before) (steps_in before) (Use part set) s.stands refl b);
  count = f.count;
}
line_fine before (Acc kind cells) lines is_done s f = record {
  whole = (s.whole, f.whole);
  bars = f.bars;
  goes = λ d b. absurd (no_bar (last_line before) (steps_in before) (Acc kind cells) s.stands refl b);
  count = f.count;
}
line_fine before (Free object sort) lines is_done s f = record {
  whole = (s.whole, f.whole);
  bars = f.bars;
  goes = λ d b. absurd (no_bar (last_line before) (steps_in before) (Free object sort) s.stands refl b);
  count = f.count;
}
line_fine before End lines is_done s f = record {
  whole = (s.whole, f.whole);
  bars = f.bars;
  goes = λ d b. absurd (no_bar (last_line before) (steps_in before) End s.stands refl b);
  count = f.count;
}

then_fine : (before : List Line) (is_done : Bool) (more : Line → Result (List Line) (ℕ × ℕ)) (r : Result Line (ℕ × ℕ)) → IfJudged is_done (last_line before) (steps_in before) r → ((line : Line) → AreFine (line ∷ before) is_done (more line)) → AreFine before false (then_read more r)
then_fine before is_done more (Err e) s h = tt
then_fine before is_done more (Ok line) s h = by_rest (more line) (h line)
  where
    by_rest : (r : Result (List Line) (ℕ × ℕ)) → AreFine (line ∷ before) is_done r → AreFine before false (onto line r)
    by_rest (Err e) f = tt
    by_rest (Ok lines) f = line_fine before line lines is_done s f

lines_fine : (n : ℕ) (before : List Line) (texts : List (List ℕ)) → AreFine before (is_none_left texts) (read_from n before texts)
lines_fine n before [] = record { whole = tt; bars = tt; goes = λ d b. absurd (true≢false d); count = λ l. omega arith }
lines_fine n before (text ∷ texts) =
    then_fine before (is_none_left texts) (λ line. read_from (suc n) (line ∷ before) texts) (judged n (is_none_left texts) (last_line before) (steps_in before) (given_by before) (line_of text))
    (judged_stands n (is_none_left texts) (last_line before) (steps_in before) (given_by before) (line_of text) (line_has text))
    (λ line. lines_fine (suc n) (line ∷ before) texts)

-- so each trace that is read is printable
abbrev GivePrintable : Result (List Line) (ℕ × ℕ) → Type 0
GivePrintable (Ok lines) = IsPrintable (items_of lines)
GivePrintable (Err e) = Unit {0}

from_printable : (n : ℕ) (texts : List (List ℕ)) → GivePrintable (read_from n [] texts)
from_printable n texts = by_lines (read_from n [] texts) refl (lines_fine n [] texts)
  where
    by_lines : (r : Result (List Line) (ℕ × ℕ)) → read_from n [] texts ≡ r → AreFine [] (is_none_left texts) r → GivePrintable r
    by_lines (Err e) is f = tt
    by_lines (Ok lines) is f =
        let parts : EachRow IsFilledItem (items_of lines) × EachRow IsSmallItem (items_of lines) = items_parts lines f.whole in
        let count : 0 + step_count (items_of lines) ≤ most_53 + 1 = f.count (omega arith) in
        record {
          shaped = record { items = items_shaped (items_of lines) parts.0 (items_once n texts lines is); bars = f.bars };
          small = parts.1;
          steps = omega arith;
        }

behind_printable : (o : Option (ℕ × List (List ℕ))) → GivePrintable (read_behind o)
behind_printable None = tt
behind_printable (Some found) = by_test (is_none_left found.1)
  where
    by_test : (t : Bool) → GivePrintable (if t then Err (3, found.0) else read_from (suc found.0) [] found.1)
    by_test true = tt
    by_test false = from_printable (suc found.0) found.1

lines_printable : (bytes : List ℕ) → GivePrintable (read_lines bytes)
unfolding read_lines
lines_printable bytes = by_test (not (list_all is_text_byte bytes) || not (ends_line bytes))
  where
    by_test : (t : Bool) → GivePrintable (if t then Err (1, 0) else read_behind (behind_trace 1 (lines_of bytes)))
    by_test true = tt
    by_test false = behind_printable (behind_trace 1 (lines_of bytes))

pub read_is_printable : ReadIsPrintable
read_is_printable bytes trace e = by_lines (read_lines bytes) (lines_printable bytes) e
  where
    by_lines : (r : Result (List Line) (ℕ × ℕ)) → GivePrintable r → as_items r ≡ Ok trace → IsPrintable trace
    by_lines (Err x) h k = absurd (cc)
    by_lines (Ok lines) h k = let same : items_of lines ≡ trace = cc in subst IsPrintable same h
