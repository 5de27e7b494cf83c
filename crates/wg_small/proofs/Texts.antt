-- A report has no fewer bytes than the history has entries, and than the trace has steps.
use Rattle.std.proofs.Common.{◌≡◌, ℕ, ◌+◌, ◌≤◌, List, [], ◌∷◌, ◌++◌, map, length, codes, decimal, sym, arith}
use Rattle.std.specs.List.{flat_map}
use Rattle.std.proofs.lemmas.List.{length-append, length-map}
use Rattle.wg_trace.specs.StepNames.{step_name_text}
use Rattle.wg_trace.specs.declared.replies.Reply.{Reply}
use Rattle.wg_types.specs.declared.words.Verb.{Verb}
use Rattle.wg_trace.specs.declared.steps.Item.{Item}
use Rattle.wg_trace.specs.declared.steps.Item.TheVariants.{Bar, Step as StepItem, Free}
use Rattle.wg_types.specs.Words.{verb_text}
use Rattle.wg_print.specs.Entries.{answer_text, fault_text, settled_text, entry_text}
use Rattle.wg_print.specs.Items.{place_text, use_text, access_text, item_text}
use Rattle.wg_print.specs.Pieces.{line_text}
use Rattle.wg_history.specs.Entries.{Entry}
use Rattle.wg_history.specs.Traces.{Trace}
use Rattle.wg_readback.specs.Printable.{step_count}
use Rattle.wg_readback.specs.Texts.{Told, numbered, told_after, told_line, entries_text, step_after, items_text, history_text}
use Rattle.wg_shaped.specs.Reports.{told, report_text}
use Rattle.wg_small.proofs.Stepped.{ranges_of_recordings, reads_back_by_recordings}
use Rattle.wg_small.specs.Ranged.{StepsAreSmall, ReadsBackByCounts, ReadsBackByLength}
use Rattle.wg_small.proofs.RangedHistory.{recordings_are_small}

-- a text behind another
first_length : (xs ys : List ℕ) → length xs ≤ length (xs ++ ys)
first_length xs ys = let both = length-append xs ys in omega (arith, both)

last_length : (xs ys : List ℕ) → length ys ≤ length (xs ++ ys)
last_length xs ys = let both = length-append xs ys in omega (arith, both)

line_has : (n who : ℕ) (verb : Verb) (reply : Reply) → 1 ≤ length (entry_text n who (verb_text verb) reply)
unfolding entry_text
line_has n who verb reply =
    let front : List ℕ = decimal n ++ codes " " ++ decimal who ++ codes " " ++ verb_text verb ++ codes " " ++ answer_text reply.answer ++ fault_text reply.fault ++ settled_text reply.settled in
    last_length front (codes "\n")

entry_has : (n : ℕ) (entry : Told) → 1 ≤ length (told_line n entry)
entry_has n entry = line_has n entry.0 entry.1 entry.2

chain : {a b c : ℕ} → a ≤ b → b ≤ c → a ≤ c
chain first second = omega (arith, first, second)

chained : {a b c d : ℕ} → a ≡ b → b ≤ c → c ≤ d → a ≤ d
chained same first second = omega (arith, same, first, second)

entries_length : (n : ℕ) (entries : List Told) → length entries ≤ length (numbered told_after told_line n entries)
entries_length n [] = omega arith
entries_length n (entry ∷ entries) =
    let both = length-append (told_line n entry) (numbered told_after told_line (n + 1) entries) in
    let one = entry_has n entry in
    let rest = entries_length (n + 1) entries in
    omega (arith, both, one, rest)

items_length : (n : ℕ) (items : List Item) → step_count items ≤ length (numbered step_after item_text n items)
unfolding item_text
items_length n [] = omega arith
items_length n (StepItem step ∷ items) =
    let both = length-append (item_text n (StepItem step)) (numbered step_after item_text (n + 1) items) in
    let rest = items_length (n + 1) items in
    let line : List ℕ = codes "tep " ++ decimal n ++ codes " " ++ place_text step.place ++ codes " " ++ step_name_text step.name ++ codes "\n" ++ flat_map use_text step.uses ++ flat_map access_text step.accesses in
    let one : length (item_text n (StepItem step)) ≡ length line + 1 = omega arith in
    omega (arith, both, one, rest)
items_length n (Bar part from to ∷ items) =
    let both = length-append (item_text n (Bar part from to)) (numbered step_after item_text n items) in
    let rest = items_length n items in
    omega (arith, both, rest)
items_length n (Free object sort ∷ items) =
    let both = length-append (item_text n (Free object sort)) (numbered step_after item_text n items) in
    let rest = items_length n items in
    omega (arith, both, rest)

history_length : (history : List Entry) (trace : List Item) → length history ≤ length (report_text history trace)
history_length history trace =
    let text : List ℕ = history_text (map told history) in
    let entries : length (map told history) ≤ length (entries_text (map told history)) = entries_length 0 (map told history) in
    let same : length (map told history) ≡ length history = length-map history told in
    let before : length (entries_text (map told history)) ≤ length text = last_length (line_text (codes "history")) (entries_text (map told history)) in
    let line : length text ≤ length (text ++ line_text (codes "trace")) = first_length text (line_text (codes "trace")) in
    let items : length (text ++ line_text (codes "trace")) ≤ length (text ++ line_text (codes "trace") ++ items_text trace) = first_length (text ++ line_text (codes "trace")) (items_text trace) in
    let end : length (text ++ line_text (codes "trace") ++ items_text trace) ≤ length (report_text history trace) = first_length (text ++ line_text (codes "trace") ++ items_text trace) (line_text (codes "end")) in
    chained (sym same) entries (chain before (chain line (chain items end)))

trace_length : (history : List Entry) (trace : List Item) → step_count trace ≤ length (report_text history trace)
trace_length history trace =
    let text : List ℕ = history_text (map told history) in
    let items : step_count trace ≤ length (items_text trace) = items_length 0 trace in
    let before : length (items_text trace) ≤ length (text ++ line_text (codes "trace") ++ items_text trace) = last_length (text ++ line_text (codes "trace")) (items_text trace) in
    let end : length (text ++ line_text (codes "trace") ++ items_text trace) ≤ length (report_text history trace) = first_length (text ++ line_text (codes "trace") ++ items_text trace) (line_text (codes "end")) in
    chain items (chain before end)

pub steps_are_small : StepsAreSmall
steps_are_small setup history run best fixed = ranges_of_recordings setup history run best (recordings_are_small setup history run best fixed)

pub reads_back_by_counts : ReadsBackByCounts
reads_back_by_counts setup history run best fixed few steps = reads_back_by_recordings setup history run best few (recordings_are_small setup history run best fixed) steps

pub reads_back_by_length : ReadsBackByLength
reads_back_by_length setup history run best fixed few =
    let entries = history_length history (Trace setup history) in
    let steps = trace_length history (Trace setup history) in
    reads_back_by_counts setup history run best fixed (omega (arith, entries, few)) (omega (arith, steps, few))
