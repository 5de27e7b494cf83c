-- The lines of a trace keep the rules of the reader.
use Rattle.std.specs.Prelude.{Some, Option, Result, Ok, Err, map}
use Rattle.std.proofs.Common.{◌≡◌, ℕ, suc, ◌+◌, ◌≤◌, ◌==◌, ◌&&◌, ◌||◌, not, List, [], ◌∷◌, ◌++◌, Bool, true, false, if◌then◌else◌, ap, sym, refl, ◌∙◌, arith, eq-eqb, ◌⊎◌, inl, inr, subst}
use Rattle.wg_trace.specs.declared.parts.PartRun.{PartRun}
use Rattle.wg_trace.specs.declared.parts.Cells.{Cells}
use Rattle.wg_trace.specs.declared.parts.AccessKind.{AccessKind}
use Rattle.wg_trace.specs.declared.usages.Usages.{Usages}
use Rattle.wg_trace.specs.declared.steps.Sort.{Sort}
use Rattle.wg_trace.specs.declared.steps.Item.{Item}
use Rattle.wg_trace.specs.declared.steps.Item.TheVariants.{Bar as BarItem, Step as StepItem, Free as FreeItem}
use Rattle.wg_rows.specs.Once.{AreOnce}
use Rattle.wg_readtrace.specs.declared.line.Line.{Line}
use Rattle.wg_readtrace.specs.declared.line.Line.TheVariants.{Bar, Step, Use, Acc, Free}
use Rattle.wg_readtrace.specs.Given.{is_given}
use Rattle.wg_readtrace.specs.Forms.{most_53, line_of}
use Rattle.wg_readtrace.specs.Reading.{is_bar, is_step, is_use, is_acc, is_end, last_line, steps_in, is_some_line, may_stand, given_by, gives_again, judged, is_none_left, onto, then_read, read_from}
use Rattle.wg_readback.specs.Shapes.{GoOn, BarsLead}
use Rattle.wg_readback.specs.Printable.{step_count}
use Rattle.wg_readback.proofs.Whole.{AreUses, AreAccesses, AreItems}
use Rattle.wg_readback.proofs.Said.{IsLine, said, line_read}
use Rattle.wg_readback.proofs.Lines.{use_lines, acc_lines, trace_lines, AreLines}
use Rattle.wg_readback.proofs.Apart.{AreNew, once_new}

-- A line keeps the rules behind those before it, and before those behind it.
pub record Keeps (before : List Line) (line : Line) (lines : List Line) : Type 0 where
  pub whole : IsLine line
  pub stands : may_stand (last_line before) (steps_in before) line ≡ true
  pub ends : is_none_left (map said lines) && not (is_end line) ≡ false
  pub news : gives_again (given_by before) line ≡ false

abbrev pub Follow : List Line → List Line → Type 0
Follow before [] = Unit {0}
Follow before (line ∷ lines) = Keeps before line lines × Follow (line ∷ before) lines

abbrev by_rules : ℕ → Line → Bool → Bool → Bool → Result Line (ℕ × ℕ)
by_rules n line s t u = if not s then Err (3, n) else (if t then Err (3, n) else (if u then Err (4, n) else Ok line))

judged_ok : (n : ℕ) (is_last : Bool) (last : Option Line) (steps : ℕ) (rows : List Cells) (text : Option Line) (line : Line)
    → text ≡ Some line → may_stand last steps line ≡ true → is_last && not (is_end line) ≡ false → gives_again rows line ≡ false → judged n is_last last steps rows text ≡ Ok line
judged_ok n is_last last steps rows text line e a b c = ap (judged n is_last last steps rows) e ∙ by_tests (may_stand last steps line) (is_last && not (is_end line)) (gives_again rows line) a b c
  where
    by_tests : (s t u : Bool) → s ≡ true → t ≡ false → u ≡ false → by_rules n line s t u ≡ Ok line
    by_tests s t u a b c = rw (a, b, c) refl

-- lines that keep the rules are read
pub follow_read : (n : ℕ) (before lines : List Line) → Follow before lines → read_from n before (map said lines) ≡ Ok lines
follow_read n before [] h = refl
follow_read n before (line ∷ lines) h =
    ap (then_read (λ l. read_from (suc n) (l ∷ before) (map said lines)))
    (judged_ok n (is_none_left (map said lines)) (last_line before) (steps_in before) (given_by before) (line_of (said line)) line (line_read line h.0.whole) h.0.stands h.0.ends h.0.news)
    ∙ ap (onto line) (follow_read (suc n) (line ∷ before) lines h.1)

pub follow_lines : (before lines : List Line) → Follow before lines → AreLines lines
follow_lines before [] h = tt
follow_lines before (line ∷ lines) h = (h.0.whole, follow_lines (line ∷ before) lines h.1)

-- some line is behind
abbrev pub IsMore : List Line → Type 0
IsMore lines = is_none_left (map said lines) ≡ false

pub trace_more : (n : ℕ) (items : List Item) → IsMore (trace_lines n items)
trace_more n [] = refl
trace_more n (BarItem part from to ∷ items) = refl
trace_more n (StepItem step ∷ items) = refl
trace_more n (FreeItem object sort ∷ items) = refl

acc_more : (rows : List (Cells × AccessKind)) (lines : List Line) → IsMore lines → IsMore (acc_lines rows lines)
acc_more [] lines h = h
acc_more (row ∷ rows) lines h = refl

use_more : (rows : List (PartRun × Usages)) (lines : List Line) → IsMore lines → IsMore (use_lines rows lines)
use_more [] lines h = h
use_more (row ∷ rows) lines h = refl

not_last : (line : Line) (lines : List Line) → IsMore lines → is_none_left (map said lines) && not (is_end line) ≡ false
not_last line lines h = ap (λ (t : Bool). t && not (is_end line)) h

-- the tests of rule 3, for a line that is no use and no access, for a use and for an access
item_stands : (c t s e : Bool) → c ≡ true → (t ≡ false) ⊎ (s ≡ true) → e ≡ false → ((((c && true) && true) && (not t || s)) && not e) ≡ true
item_stands c t s e a (inl b) d = rw (a, b, d) refl
item_stands c t s e a (inr b) d = rw (a, b, d) (by_test t)
  where
    by_test : (t : Bool) → (not t || true) && true ≡ true
    by_test true = refl
    by_test false = refl

use_stands : (u t e : Bool) → u ≡ true → t ≡ false → e ≡ false → (((u && true) && (not t || false)) && not e) ≡ true
use_stands u t e a b d = rw (a, b, d) refl

acc_stands : (u t e : Bool) → u ≡ true → t ≡ false → e ≡ false → ((u && (not t || false)) && not e) ≡ true
acc_stands u t e a b d = rw (a, b, d) refl

-- What is known of the lines before, inside a step.
record Inside (steps : ℕ) (rows : List Cells) (before : List Line) : Type 0 where
  steps_are : steps_in before ≡ steps
  rows_are : given_by before ≡ rows
  takes_acc : is_some_line (λ l. is_step l || is_use l || is_acc l) (last_line before) ≡ true
  no_bar : is_some_line is_bar (last_line before) ≡ false
  no_end : is_some_line is_end (last_line before) ≡ false

accs_follow : (steps : ℕ) (olds : List Cells) (before : List Line) (rows : List (Cells × AccessKind)) (lines : List Line) → AreAccesses rows → AreNew olds rows → Inside steps olds before → IsMore lines
    → ((now : List Cells) (behind : List Line) → Inside steps now behind → Follow behind lines) → Follow before (acc_lines rows lines)
accs_follow steps olds before [] lines a new inside more rest = rest olds before inside
accs_follow steps olds before (row ∷ rows) lines a new inside more rest = (
  record {
    whole = a.0;
    stands = acc_stands (is_some_line (λ l. is_step l || is_use l || is_acc l) (last_line before)) (is_some_line is_bar (last_line before)) (is_some_line is_end (last_line before)) inside.takes_acc inside.no_bar inside.no_end;
    ends = not_last (Acc row.1 row.0) (acc_lines rows lines) (acc_more rows lines more);
    news = ap (λ (cells : List Cells). is_given cells row.0) inside.rows_are ∙ new.0;
  },
  accs_follow steps (olds ++ row.0 ∷ []) (Acc row.1 row.0 ∷ before) rows lines a.1 new.1
      (record { steps_are = inside.steps_are; rows_are = ap (λ (cells : List Cells). cells ++ row.0 ∷ []) inside.rows_are; takes_acc = refl; no_bar = refl; no_end = refl }) more rest,
)

uses_follow : (steps : ℕ) (before : List Line) (rows : List (PartRun × Usages)) (lines : List Line) → AreUses rows → Inside steps [] before → is_some_line (λ l. is_step l || is_use l) (last_line before) ≡ true → IsMore lines
    → ((behind : List Line) → Inside steps [] behind → Follow behind lines) → Follow before (use_lines rows lines)
uses_follow steps before [] lines a inside takes more rest = rest before inside
uses_follow steps before (row ∷ rows) lines a inside takes more rest = (
  record {
    whole = (a.0, a.1);
    stands = use_stands (is_some_line (λ l. is_step l || is_use l) (last_line before)) (is_some_line is_bar (last_line before)) (is_some_line is_end (last_line before)) takes inside.no_bar inside.no_end;
    ends = not_last (Use row.0 row.1) (use_lines rows lines) (use_more rows lines more);
    news = refl;
  },
  uses_follow steps (Use row.0 row.1 ∷ before) rows lines a.2
      (record { steps_are = inside.steps_are; rows_are = inside.rows_are; takes_acc = refl; no_bar = refl; no_end = refl }) refl more rest,
)

-- a bar before these items asks for a bar or a step
abbrev pub GoOnIf : Bool → List Item → Type 0
GoOnIf true items = GoOn items
GoOnIf false items = Unit {0}

no_free : (t : Bool) (object : ℕ) (sort : Sort) (items : List Item) → GoOnIf t (FreeItem object sort ∷ items) → t ≡ false
no_free true object sort items h = absurd h
no_free false object sort items h = refl

no_none : (t : Bool) → GoOnIf t [] → t ≡ false
no_none true h = absurd h
no_none false h = refl

pub trace_follow : (n : ℕ) (before : List Line) (trace : List Item) → steps_in before ≡ n → is_some_line is_end (last_line before) ≡ false → GoOnIf (is_some_line is_bar (last_line before)) trace
    → AreItems trace → n + step_count trace ≤ most_53 + 1 → BarsLead trace → AreOnce trace → Follow before (trace_lines n trace)
trace_follow n before [] e last go items steps bars once = (
  record {
    whole = tt;
    stands = item_stands true (is_some_line is_bar (last_line before)) false (is_some_line is_end (last_line before)) refl (inl (no_none (is_some_line is_bar (last_line before)) go)) last;
    ends = refl;
    news = refl;
  },
  tt,
)
trace_follow n before (BarItem part from to ∷ items) e last go whole steps bars once = (
  record {
    whole = whole.0;
    stands = item_stands true (is_some_line is_bar (last_line before)) true (is_some_line is_end (last_line before)) refl (inr refl) last;
    ends = not_last (Bar part from to) (trace_lines n items) (trace_more n items);
    news = refl;
  },
  trace_follow n (Bar part from to ∷ before) items e refl bars.0 whole.1 steps bars.1 once,
)
trace_follow n before (StepItem step ∷ items) e last go whole steps bars once = (
  record {
    whole = (omega arith, whole.0.0);
    stands = item_stands (n == steps_in before) (is_some_line is_bar (last_line before)) true (is_some_line is_end (last_line before)) (eq-eqb n (steps_in before) (sym e)) (inr refl) last;
    ends = not_last (Step n step.place step.name) (use_lines step.uses (acc_lines step.accesses (trace_lines (n + 1) items))) (use_more step.uses (acc_lines step.accesses (trace_lines (n + 1) items)) (acc_more step.accesses (trace_lines (n + 1) items) (trace_more (n + 1) items)));
    news = refl;
  },
  uses_follow (n + 1) (Step n step.place step.name ∷ before) step.uses (acc_lines step.accesses (trace_lines (n + 1) items)) whole.0.1
      (record { steps_are = omega (arith, e); rows_are = refl; takes_acc = refl; no_bar = refl; no_end = refl }) refl (acc_more step.accesses (trace_lines (n + 1) items) (trace_more (n + 1) items))
      (λ behind inside. accs_follow (n + 1) [] behind step.accesses (trace_lines (n + 1) items) whole.0.2 (once_new step.accesses whole.0.2 once.0) inside (trace_more (n + 1) items)
      (λ now later within. trace_follow (n + 1) later items within.steps_are within.no_end (go_on later within.no_bar) whole.1 (omega arith) bars once.1)),
)
  where
    go_on : (later : List Line) → is_some_line is_bar (last_line later) ≡ false → GoOnIf (is_some_line is_bar (last_line later)) items
    go_on later k = subst (λ (t : Bool). GoOnIf t items) (sym k) tt
trace_follow n before (FreeItem object sort ∷ items) e last go whole steps bars once = (
  record {
    whole = whole.0;
    stands = item_stands true (is_some_line is_bar (last_line before)) false (is_some_line is_end (last_line before)) refl (inl (no_free (is_some_line is_bar (last_line before)) object sort items go)) last;
    ends = not_last (Free object sort) (trace_lines n items) (trace_more n items);
    news = refl;
  },
  trace_follow n (Free object sort ∷ before) items e refl tt whole.1 steps bars once,
)
