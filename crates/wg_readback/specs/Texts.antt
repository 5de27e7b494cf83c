-- The text of a trace, and of the entries before it.
use Rattle.std.specs.Prelude.{ℕ, ◌+◌, List, [], ◌∷◌, ◌++◌, codes}
use Rattle.wg_types.specs.declared.words.Verb.{Verb}
use Rattle.wg_trace.specs.declared.replies.Reply.{Reply}
use Rattle.wg_trace.specs.declared.steps.Item.{Item}
use Rattle.wg_trace.specs.declared.steps.Item.TheVariants.{Step as StepItem}
use Rattle.wg_types.specs.Words.{verb_text}
use Rattle.wg_print.specs.Entries.{entry_text}
use Rattle.wg_print.specs.Items.{item_text}
use Rattle.wg_print.specs.Pieces.{line_text}

-- The texts of items one after another. Each has a number, which goes on from one to the next by what the one is.
abbrev pub numbered : {X : Type 0} → (ℕ → X → ℕ) → (ℕ → X → List ℕ) → ℕ → List X → List ℕ
numbered next text n [] = []
numbered next text n (x ∷ xs) = text n x ++ numbered next text (next n x) xs

-- the steps of a trace are numbered from 0
abbrev pub step_after : ℕ → Item → ℕ
step_after n (StepItem step) = n + 1
step_after n _ = n

-- the items of a trace, as they are printed
abbrev pub items_text : List Item → List ℕ
items_text trace = numbered step_after item_text 0 trace

-- a trace behind a text
abbrev pub trace_behind : List ℕ → List Item → List ℕ
trace_behind before trace = before ++ line_text (codes "trace") ++ items_text trace ++ line_text (codes "end")

-- what is printed of an entry beside its number: who called, what the call was, and the reply
abbrev pub Told : Type 0
Told = ℕ × Verb × Reply

-- the number of the entry behind one
abbrev pub told_after : ℕ → Told → ℕ
told_after n entry = n + 1

-- the line of an entry, with its number
abbrev pub told_line : ℕ → Told → List ℕ
told_line n entry = entry_text n entry.0 (verb_text entry.1) entry.2

-- the entries of a history are numbered from 0
abbrev pub entries_text : List Told → List ℕ
entries_text entries = numbered told_after told_line 0 entries

-- the entries of a history, as they are printed, behind their heading
abbrev pub history_text : List Told → List ℕ
history_text entries = line_text (codes "history") ++ entries_text entries
