-- Items of lines, and the turns of the loop that reads them.
use Rattle.std.specs.Prelude.{Result, Ok, Err, Option, Some, None}
use Rattle.std.proofs.Common.{◌≡◌, ℕ, suc, ◌+◌, ◌-◌, ◌<◌, ◌≤◌, List, [], ◌∷◌, ◌++◌, length, take, drop, Bool, ap, sym, refl, ◌∙◌, append_assoc}
use Rattle.std.proofs.lemmas.List.{append-nil}
use Rattle.wg_trace.specs.declared.parts.PartRun.{PartRun}
use Rattle.wg_trace.specs.declared.parts.Cells.{Cells}
use Rattle.wg_trace.specs.declared.parts.AccessKind.{AccessKind}
use Rattle.wg_trace.specs.declared.usages.Usages.{Usages}
use Rattle.wg_trace.specs.declared.steps.StepPlace.{StepPlace}
use Rattle.wg_trace.specs.declared.steps.StepName.{StepName}
use Rattle.wg_trace.specs.declared.steps.Item.{Item}
use Rattle.wg_trace.specs.declared.steps.Item.TheVariants as item
use Rattle.wg_readtrace.specs.declared.line.Line.{Line}
use Rattle.wg_readtrace.specs.declared.line.Line.TheVariants.{Bar, Step, Use, Acc, Free, End}
use Rattle.wg_readtrace.specs.declared.draft.TraceDraft.{TraceDraft}
use Rattle.wg_readtrace.specs.declared.reading.TraceFault.{TraceFault}
use Rattle.wg_readtrace.specs.declared.reading.TraceFault.TheVariants.{Bad, NoMemory}
use Rattle.wg_readtrace.specs.Forms.{line_of}
use Rattle.wg_readtrace.specs.Lines.{line_len}
use Rattle.wg_readtrace.specs.Reading.{Refuses, lines_of, steps_in, is_none_left, last_line, given_by, judged, then_read, onto, read_from, items_of, uses_in, accesses_in}
use Rattle.wg_readtrace.specs.Drafts.{steps_after, rows_after, lines_from, flow, items_with, read_with, Gives}
use Rattle.wg_readtrace.proofs.Lines.{line_at}

-- The lines as they are defined are those by what is kept of the lines before.
given_more : (before : List Line) (line : Line) → given_by (line ∷ before) ≡ rows_after (given_by before) line
given_more before (Bar part from to) = refl
given_more before (Step number place name) = refl
given_more before (Use part set) = refl
given_more before (Acc kind cells) = refl
given_more before (Free object sort) = refl
given_more before End = refl

steps_more : (before : List Line) (line : Line) → steps_in (line ∷ before) ≡ steps_after (steps_in before) line
steps_more before (Bar part from to) = refl
steps_more before (Step number place name) = refl
steps_more before (Use part set) = refl
steps_more before (Acc kind cells) = refl
steps_more before (Free object sort) = refl
steps_more before End = refl

then_same : (f g : Line → Result (List Line) (ℕ × ℕ)) (r : Result Line (ℕ × ℕ)) → ((line : Line) → f line ≡ g line) → then_read f r ≡ then_read g r
then_same f g (Ok line) h = ap (onto line) (h line)
then_same f g (Err e) h = refl

pub read_by_state : (n : ℕ) (before : List Line) (texts : List (List ℕ)) → read_from n before texts ≡ lines_from n (last_line before) (steps_in before) (given_by before) texts
read_by_state n before [] = refl
read_by_state n before (text ∷ texts) =
    then_same (λ line. read_from (suc n) (line ∷ before) texts) (λ line. lines_from (suc n) (Some line) (steps_after (steps_in before) line) (rows_after (given_by before) line) texts)
    (judged n (is_none_left texts) (last_line before) (steps_in before) (given_by before) (line_of text))
    (λ line. read_by_state (suc n) (line ∷ before) texts
    ∙ (ap (λ (m : ℕ). lines_from (suc n) (Some line) m (given_by (line ∷ before)) texts) (steps_more before line)
    ∙ ap (λ (rows : List Cells). lines_from (suc n) (Some line) (steps_after (steps_in before) line) rows texts) (given_more before line)))

-- Behind a line that begins another item the open step has all its rows.
pub closes : (items : List Item) (open_ : Option (StepPlace × StepName)) (uses : List (PartRun × Usages)) (accesses : List (Cells × AccessKind)) (lines : List Line) → uses_in lines ≡ [] → accesses_in lines ≡ []
    → (items ++ flow open_ uses accesses []) ++ items_of lines ≡ items ++ flow open_ uses accesses lines
closes items None uses accesses lines u a = ap (λ (xs : List Item). xs ++ items_of lines) (append-nil items)
closes items (Some step) uses accesses lines u a =
    append_assoc items (item.Step (record { place = step.0; name = step.1; uses = uses ++ []; accesses = accesses ++ [] }) ∷ []) (items_of lines)
    ∙ (ap (λ (us : List (PartRun × Usages)). items ++ (item.Step (record { place = step.0; name = step.1; uses = uses ++ us; accesses = accesses ++ [] }) ∷ items_of lines)) (sym u)
    ∙ ap (λ (as_ : List (Cells × AccessKind)). items ++ (item.Step (record { place = step.0; name = step.1; uses = uses ++ uses_in lines; accesses = accesses ++ as_ }) ∷ items_of lines)) (sym a))

front_more : (draft draft2 : TraceDraft) (line : Line) (r : Result (List Line) (ℕ × ℕ)) → ((lines : List Line) → items_with draft2 lines ≡ items_with draft (line ∷ lines)) → read_with draft2 r ≡ read_with draft (onto line r)
front_more draft draft2 line (Ok lines) h = ap Ok (h lines)
front_more draft draft2 line (Err e) h = refl

lines_here : (n : ℕ) (last : Option Line) (steps : ℕ) (rows : List Cells) (text : List ℕ) (at end : ℕ) → at < length text → at ≤ end → end - at ≡ line_len (drop at text)
    → lines_from n last steps rows (lines_of (drop at text))
    ≡ then_read (λ line. lines_from (suc n) (Some line) (steps_after steps line) (rows_after rows line) (lines_of (drop (end + 1) text)))
    (judged n (is_none_left (lines_of (drop (end + 1) text))) last steps rows (line_of (take (end - at) (drop at text))))
lines_here n last steps rows text at end l le e = ap (lines_from n last steps rows) (line_at text at end l le e)

pub turn_err : (draft : TraceDraft) (n : ℕ) (last : Option Line) (steps : ℕ) (rows : List Cells) (text : List ℕ) (at end : ℕ) (is_last : Bool) (e : TraceFault) → at < length text → at ≤ end → end - at ≡ line_len (drop at text)
    → is_last ≡ is_none_left (lines_of (drop (end + 1) text)) → Gives (Err e) (judged n is_last last steps rows (line_of (take (end - at) (drop at text))))
    → Refuses e (read_with draft (lines_from n last steps rows (lines_of (drop at text))))
turn_err draft n last steps rows text at end is_last (Bad rule line) l le e lone h =
    ap (read_with draft) (lines_here n last steps rows text at end l le e
    ∙ ap (then_read (λ line. lines_from (suc n) (Some line) (steps_after steps line) (rows_after rows line) (lines_of (drop (end + 1) text)))) (ap (λ (t : Bool). judged n t last steps rows (line_of (take (end - at) (drop at text)))) (sym lone) ∙ h))
turn_err draft n last steps rows text at end is_last NoMemory l le e lone h = tt

pub turn_ok : (draft draft2 : TraceDraft) (n n2 : ℕ) (last last2 : Option Line) (steps steps2 : ℕ) (rows rows2 : List Cells) (text : List ℕ) (at end : ℕ) (is_last : Bool) (line : Line) → at < length text → at ≤ end → end - at ≡ line_len (drop at text)
    → is_last ≡ is_none_left (lines_of (drop (end + 1) text)) → judged n is_last last steps rows (line_of (take (end - at) (drop at text))) ≡ Ok line
    → n2 ≡ suc n → last2 ≡ Some line → steps2 ≡ steps_after steps line → rows2 ≡ rows_after rows line → ((lines : List Line) → items_with draft2 lines ≡ items_with draft (line ∷ lines))
    → read_with draft2 (lines_from n2 last2 steps2 rows2 (lines_of (drop (end + 1) text))) ≡ read_with draft (lines_from n last steps rows (lines_of (drop at text)))
turn_ok draft draft2 n n2 last last2 steps steps2 rows rows2 text at end is_last line l le e lone h a b c d items =
    rw (a, b, c, d) (front_more draft draft2 line (lines_from (suc n) (Some line) (steps_after steps line) (rows_after rows line) (lines_of (drop (end + 1) text))) items
    ∙ sym (ap (read_with draft) (lines_here n last steps rows text at end l le e
    ∙ ap (then_read (λ line. lines_from (suc n) (Some line) (steps_after steps line) (rows_after rows line) (lines_of (drop (end + 1) text)))) (ap (λ (t : Bool). judged n t last steps rows (line_of (take (end - at) (drop at text)))) (sym lone) ∙ h))))

-- the items of a draft with no open step
pub finished : (draft old : TraceDraft) → items_with draft [] ≡ items_with old [] ++ [] → draft.begun ≡ None → draft.items ≡ items_with old []
finished draft old h none =
    sym (append-nil draft.items) ∙ (ap (λ (b : Option (StepPlace × StepName)). draft.items ++ flow b draft.uses draft.accesses []) (sym none) ∙ (h ∙ append-nil (items_with old [])))

-- a line that is an item of its own
pub item_noted : (old mid : TraceDraft) (items : List Item) (x : Item) (line : Line) (lines : List Line)
    → ((lines : List Line) → items_with mid lines ≡ items_with old [] ++ items_of lines) → mid.begun ≡ None → items ≡ mid.items ++ x ∷ []
    → items_of (line ∷ lines) ≡ x ∷ items_of lines → uses_in (line ∷ lines) ≡ [] → accesses_in (line ∷ lines) ≡ []
    → items ++ flow mid.begun mid.uses mid.accesses lines ≡ items_with old (line ∷ lines)
item_noted old mid items x line lines h none pushed is u a =
    ap (λ (b : Option (StepPlace × StepName)). items ++ flow b mid.uses mid.accesses lines) none
    ∙ (ap (λ (xs : List Item). xs ++ items_of lines) pushed
    ∙ (append_assoc mid.items (x ∷ []) (items_of lines)
    ∙ (ap (λ (xs : List Item). mid.items ++ xs) (sym is)
    ∙ (ap (λ (b : Option (StepPlace × StepName)). mid.items ++ flow b mid.uses mid.accesses (line ∷ lines)) (sym none)
    ∙ (h (line ∷ lines) ∙ closes old.items old.begun old.uses old.accesses (line ∷ lines) u a)))))

-- a line that begins a step
pub step_noted : (old mid : TraceDraft) (number : ℕ) (place : StepPlace) (name : StepName) (lines : List Line)
    → ((lines : List Line) → items_with mid lines ≡ items_with old [] ++ items_of lines) → mid.begun ≡ None → mid.uses ≡ [] → mid.accesses ≡ []
    → mid.items ++ flow (Some (place, name)) mid.uses mid.accesses lines ≡ items_with old (Step number place name ∷ lines)
step_noted old mid number place name lines h none u a =
    ap (λ (us : List (PartRun × Usages)). mid.items ++ flow (Some (place, name)) us mid.accesses lines) u
    ∙ (ap (λ (as_ : List (Cells × AccessKind)). mid.items ++ flow (Some (place, name)) [] as_ lines) a
    ∙ (ap (λ (b : Option (StepPlace × StepName)). mid.items ++ flow b mid.uses mid.accesses (Step number place name ∷ lines)) (sym none)
    ∙ (h (Step number place name ∷ lines) ∙ closes old.items old.begun old.uses old.accesses (Step number place name ∷ lines) refl refl)))
