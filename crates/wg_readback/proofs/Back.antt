-- A printed trace is read as that trace.
use Rattle.std.specs.Prelude.{Some, Result, Ok, Err, codes, map}
use Rattle.std.specs.List.{list_all}
use Rattle.std.proofs.Common.{◌≡◌, ℕ, suc, ◌+◌, List, [], ◌∷◌, ◌++◌, length, Bool, true, if◌then◌else◌, ap, sym, refl, ◌∙◌, arith, append_assoc}
use Rattle.wg_trace.specs.declared.parts.PartRun.{PartRun}
use Rattle.wg_trace.specs.declared.parts.Cells.{Cells}
use Rattle.wg_trace.specs.declared.parts.AccessKind.{AccessKind}
use Rattle.wg_trace.specs.declared.usages.Usages.{Usages}
use Rattle.wg_trace.specs.declared.steps.Step.{Step as StepOf}
use Rattle.wg_trace.specs.declared.steps.Item.{Item}
use Rattle.wg_trace.specs.declared.steps.Item.TheVariants.{Bar as BarItem, Step as StepItem, Free as FreeItem}
use Rattle.wg_print.specs.Pieces.{line_text}
use Rattle.wg_readtrace.specs.declared.line.Line.{Line}
use Rattle.wg_readtrace.specs.Reading.{is_text_byte, ends_line, lines_of, behind_trace, read_from, read_behind, read_lines, uses_in, accesses_in, items_of, as_items}
use Rattle.wg_readback.specs.Texts.{items_text, trace_behind}
use Rattle.wg_readback.specs.Printable.{IsPrintable, IsFront}
use Rattle.wg_readback.specs.Laws.{ReadsBack}
use Rattle.wg_readback.proofs.Whole.{items_whole, items_once}
use Rattle.wg_readback.proofs.Said.{said}
use Rattle.wg_readback.proofs.Lines.{use_lines, acc_lines, trace_lines, AreLines, text_of, trace_text}
use Rattle.wg_readback.proofs.Splits.{lines_split, texts_more, lines_bytes, last_byte, front_lines, trace_found}
use Rattle.wg_readback.proofs.Rules.{Follow, follow_read, follow_lines, trace_follow, trace_more}

-- the items of the lines of a trace are the trace
trace_uses : (n : ℕ) (items : List Item) → (uses_in (trace_lines n items) ≡ []) × (accesses_in (trace_lines n items) ≡ [])
trace_uses n [] = (refl, refl)
trace_uses n (BarItem part from to ∷ items) = (refl, refl)
trace_uses n (StepItem step ∷ items) = (refl, refl)
trace_uses n (FreeItem object sort ∷ items) = (refl, refl)

acc_back : (rows : List (Cells × AccessKind)) (lines : List Line) → uses_in lines ≡ [] → accesses_in lines ≡ []
    → (uses_in (acc_lines rows lines) ≡ []) × (accesses_in (acc_lines rows lines) ≡ rows) × (items_of (acc_lines rows lines) ≡ items_of lines)
acc_back [] lines u a = (u, a, refl)
acc_back (row ∷ rows) lines u a =
    let rest : (uses_in (acc_lines rows lines) ≡ []) × (accesses_in (acc_lines rows lines) ≡ rows) × (items_of (acc_lines rows lines) ≡ items_of lines) = acc_back rows lines u a in
    (rest.0, ap (λ (xs : List (Cells × AccessKind)). row ∷ xs) rest.1, rest.2)

use_back : (rows : List (PartRun × Usages)) (lines : List Line) → uses_in lines ≡ []
    → (uses_in (use_lines rows lines) ≡ rows) × (accesses_in (use_lines rows lines) ≡ accesses_in lines) × (items_of (use_lines rows lines) ≡ items_of lines)
use_back [] lines u = (u, refl, refl)
use_back (row ∷ rows) lines u =
    let rest : (uses_in (use_lines rows lines) ≡ rows) × (accesses_in (use_lines rows lines) ≡ accesses_in lines) × (items_of (use_lines rows lines) ≡ items_of lines) = use_back rows lines u in
    (ap (λ (xs : List (PartRun × Usages)). row ∷ xs) rest.0, rest.1, rest.2)

step_back : (step : StepOf) (uses : List (PartRun × Usages)) (accesses : List (Cells × AccessKind)) (items more : List Item) → uses ≡ step.uses → accesses ≡ step.accesses → items ≡ more
    → (StepItem (record { place = step.place; name = step.name; uses = uses; accesses = accesses }) ∷ items) ≡ (StepItem step ∷ more)
step_back step uses accesses items more u a e = rw (u, a, e) refl

trace_back : (n : ℕ) (trace : List Item) → items_of (trace_lines n trace) ≡ trace
trace_back n [] = refl
trace_back n (BarItem part from to ∷ items) = ap (λ (xs : List Item). BarItem part from to ∷ xs) (trace_back n items)
trace_back n (StepItem step ∷ items) =
    let accs : (uses_in (acc_lines step.accesses (trace_lines (n + 1) items)) ≡ []) × (accesses_in (acc_lines step.accesses (trace_lines (n + 1) items)) ≡ step.accesses) × (items_of (acc_lines step.accesses (trace_lines (n + 1) items)) ≡ items_of (trace_lines (n + 1) items))
    = acc_back step.accesses (trace_lines (n + 1) items) (trace_uses (n + 1) items).0 (trace_uses (n + 1) items).1 in
    let uses : (uses_in (use_lines step.uses (acc_lines step.accesses (trace_lines (n + 1) items))) ≡ step.uses) × (accesses_in (use_lines step.uses (acc_lines step.accesses (trace_lines (n + 1) items))) ≡ accesses_in (acc_lines step.accesses (trace_lines (n + 1) items))) × (items_of (use_lines step.uses (acc_lines step.accesses (trace_lines (n + 1) items))) ≡ items_of (acc_lines step.accesses (trace_lines (n + 1) items)))
    = use_back step.uses (acc_lines step.accesses (trace_lines (n + 1) items)) accs.0 in
    step_back step (uses_in (use_lines step.uses (acc_lines step.accesses (trace_lines (n + 1) items)))) (accesses_in (use_lines step.uses (acc_lines step.accesses (trace_lines (n + 1) items)))) (items_of (use_lines step.uses (acc_lines step.accesses (trace_lines (n + 1) items)))) items
    uses.0 (uses.1 ∙ accs.1) (uses.2 ∙ (accs.2 ∙ trace_back (n + 1) items))
trace_back n (FreeItem object sort ∷ items) = ap (λ (xs : List Item). FreeItem object sort ∷ xs) (trace_back n items)

-- the text is one of lines
whole_text : (before : List ℕ) (trace : List Item) → trace_behind before trace ≡ before ++ (codes "trace" ++ (10 ∷ text_of (trace_lines 0 trace)))
whole_text before trace =
    append_assoc (before ++ line_text (codes "trace")) (items_text trace) (line_text (codes "end"))
    ∙ (append_assoc before (line_text (codes "trace")) (items_text trace ++ line_text (codes "end"))
    ∙ ap (λ (t : List ℕ). before ++ (codes "trace" ++ (10 ∷ t))) (sym (trace_text 0 trace)))

ends : (before : List ℕ) (trace : List Item) → ends_line (trace_behind before trace) ≡ true
ends before trace = last_byte (before ++ line_text (codes "trace") ++ items_text trace) (line_text (codes "end")) (omega arith)

all_text : (before : List ℕ) (trace : List Item) → list_all is_text_byte before ≡ true → AreLines (trace_lines 0 trace) → list_all is_text_byte (trace_behind before trace) ≡ true
all_text before trace h lines =
    ap (list_all is_text_byte) (whole_text before trace) ∙ texts_more before (codes "trace" ++ (10 ∷ text_of (trace_lines 0 trace))) h (lines_bytes (trace_lines 0 trace) lines)

found : (before : List ℕ) (trace : List Item) → IsFront before → AreLines (trace_lines 0 trace)
    → behind_trace 1 (lines_of (trace_behind before trace)) ≡ Some (1 + length (lines_of before), map said (trace_lines 0 trace))
found before trace front lines =
    ap (behind_trace 1) (ap lines_of (whole_text before trace)
    ∙ (front_lines before (codes "trace" ++ (10 ∷ text_of (trace_lines 0 trace))) front.ended
    ∙ ap (λ (texts : List (List ℕ)). lines_of before ++ (codes "trace" ∷ texts)) (lines_split (trace_lines 0 trace) lines)))
    ∙ trace_found 1 (lines_of before) (map said (trace_lines 0 trace)) front.none

followed : (trace : List Item) → IsPrintable trace → Follow [] (trace_lines 0 trace)
followed trace h = trace_follow 0 [] trace refl refl tt (items_whole trace h.shaped.items h.small) (omega (arith, h.steps)) h.shaped.bars (items_once trace h.shaped.items)

by_text : (bytes : List ℕ) (r : Result (List Line) (ℕ × ℕ)) → list_all is_text_byte bytes ≡ true → ends_line bytes ≡ true → read_behind (behind_trace 1 (lines_of bytes)) ≡ r → read_lines bytes ≡ r
unfolding read_lines
by_text bytes r a b e = rw (a, b) e

lines_read : (before : List ℕ) (trace : List Item) → IsFront before → IsPrintable trace → read_lines (trace_behind before trace) ≡ Ok (trace_lines 0 trace)
lines_read before trace front h =
    let rules : Follow [] (trace_lines 0 trace) = followed trace h in
    let lines : AreLines (trace_lines 0 trace) = follow_lines [] (trace_lines 0 trace) rules in
    by_text (trace_behind before trace) (Ok (trace_lines 0 trace)) (all_text before trace front.text lines) (ends before trace)
    (ap read_behind (found before trace front lines)
    ∙ (ap (λ (t : Bool). if t then Err (3, 1 + length (lines_of before)) else read_from (suc (1 + length (lines_of before))) [] (map said (trace_lines 0 trace))) (trace_more 0 trace)
    ∙ follow_read (suc (1 + length (lines_of before))) [] (trace_lines 0 trace) rules))

pub reads_back : ReadsBack
reads_back before trace front h = ap as_items (lines_read before trace front h) ∙ ap Ok (trace_back 0 trace)
