-- What is written of a log is what is written of the history that it is of.
use Rattle.std.proofs.Common.{◌≡◌, ℕ, ◌+◌, Bool, List, [], ◌∷◌, ◌++◌, codes, map, length, fold, count_by, Option, refl, ap, ap₂, sym, ◌∙◌, arith, if◌then◌else◌}
use Rattle.wg_trace.specs.declared.steps.Item.{Item}
use Rattle.wg_history.specs.Entries.{Entry}
use Rattle.wg_core.specs.declared.logged.Line.{Line}
use Rattle.wg_core.specs.Cores.{line_of}
use Rattle.wg_readback.specs.Texts.{Told, trace_behind, history_text}
use Rattle.wg_shaped.specs.Reports.{told, report_text}
use Rattle.wg_gen.specs.Counts.{Tally, is_issue, is_fault, is_free, counts_of}
use Rattle.wg_top.specs.Line.{counts_text, more_text, counted_text}
use Rattle.wg_top.specs.Logged.{line_told, logged_text, line_issued, faulted, logged_counts, logged_counted}

told_of : (history : List Entry) → map line_told (map line_of history) ≡ map told history
told_of [] = refl
told_of (entry ∷ history) = ap (λ lines. told entry ∷ lines) (told_of history)

pub text_of : (lines : List Line) (history : List Entry) (trace : List Item) → lines ≡ map line_of history → logged_text lines trace ≡ report_text history trace
text_of lines history trace are = ap (λ (ls : List Line). logged_text ls trace) are ∙ ap (λ entries. trace_of entries) (told_of history)
  where
    trace_of : List Told → List ℕ
    trace_of entries = trace_behind (history_text entries) trace

fold_lines : (f : ℕ → Line → ℕ) (n : ℕ) (history : List Entry) → fold f n (map line_of history) ≡ fold (λ (m : ℕ) (entry : Entry). f m (line_of entry)) n history
fold_lines f n [] = refl
fold_lines f n (entry ∷ history) = fold_lines f (f n (line_of entry)) history

count_lines : (test : Line → Bool) (history : List Entry) → count_by test (map line_of history) ≡ count_by (λ (entry : Entry). test (line_of entry)) history
count_lines test history = fold_lines (λ (m : ℕ) (line : Line). m + (if test line then 1 else 0)) 0 history

length_lines : (history : List Entry) → length (map line_of history) ≡ length history
length_lines [] = refl
length_lines (entry ∷ history) = let e = length_lines history in omega (arith, e)

counts_are : (history : List Entry) (trace : List Item) → logged_counts (map line_of history) trace ≡ counts_of history trace
counts_are history trace = by_numbers _ _ _ _ _ _ (length_lines history) (count_lines line_issued history) (count_lines faulted history)
  where
    by_numbers : (a b c d e f : ℕ) → a ≡ b → c ≡ d → e ≡ f → ◌≡◌ {A = Tally} (record { entries = a; ops = c; faults = e; frees = count_by is_free trace }) (record { entries = b; ops = d; faults = f; frees = count_by is_free trace })
    by_numbers a b c d e f p q r = rw (p, q, r) refl

pub counted_of : (lanes : Option ℕ) (lines : List Line) (history : List Entry) (trace : List Item) → lines ≡ map line_of history → logged_counted lanes lines trace ≡ counted_text lanes history trace
counted_of lanes lines history trace are =
    ap (λ (ls : List Line). logged_counted lanes ls trace) are
    ∙ ap (λ (counts : Tally). counts_text counts ++ more_text lanes trace ++ codes "\n") (counts_are history trace)
