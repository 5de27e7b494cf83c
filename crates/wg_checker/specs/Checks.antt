-- How a check ends, and why.
use Rattle.std.specs.Prelude.{◌≡◌, ℕ, List, Option, Some, None, Result, Ok, Err}
use Rattle.std.specs.Io.KnownBytes.{Appends}
use Rattle.wg_trace.specs.declared.steps.Item.{Item}
use Rattle.wg_io.specs.Causes.{Rose}
use Rattle.wg_io.specs.Exchange.{Giving, Taking, IsUntouched}
use Rattle.wg_io.specs.Reading.{GaveAll, GaveMore, GaveWithin}
use Rattle.wg_print.specs.Printing.{TakesPart}
use Rattle.wg_readtrace.specs.Reading.{trace_in}
use Rattle.wg_check.specs.declared.clashes.Clash.{Clash}
use Rattle.wg_check.specs.Verdict.{IsVerdict, TellsOrders}
use Rattle.wg_checker.specs.declared.checking.Checked.{Checked}
use Rattle.wg_checker.specs.declared.checking.Checked.TheVariants.{Agrees, Differs, BadTrace, ReadFault, WriteFault, NoMemory, TooLarge}
use Rattle.wg_checker.specs.Texts.{verdict_text, fault_text}

-- the bytes that a text may have
abbrev pub limit : ℕ
limit = 67108864

-- what is answered of a verdict
abbrev pub told : Option Clash → Checked
told None = Agrees
told (Some clash) = Differs clash

-- This is found of a trace: the least clash, or that there is none; and so of the orders that keep its barriers.
pub record IsFound (items : List Item) (found : Option Clash) : Type 0 where
  pub least : IsVerdict items found
  pub orders : TellsOrders items found

-- A line that may be written of a trace: that of what is found of it.
pub record IsLineFor (items : List Item) (text : List ℕ) : Type 0 where
  pub found : Option Clash
  pub judged : IsFound items found
  pub line : text ≡ verdict_text found

-- The trace was judged, and its line written whole; or the sink failed, after it had taken a part of it; or there was no
-- memory, and nothing was written.
abbrev pub Judges : List Item → Taking → Checked → Type 0
Judges items taking Agrees = IsFound items None × Appends taking.old taking.new (verdict_text None)
Judges items taking (Differs clash) = IsFound items (Some clash) × Appends taking.old taking.new (verdict_text (Some clash))
Judges items taking WriteFault = Rose taking.before taking.after × ((text : List ℕ) × IsLineFor items text × TakesPart taking.old taking.new text)
Judges items taking NoMemory = IsUntouched taking
Judges items taking (BadTrace rule line) = ⊥
Judges items taking ReadFault = ⊥
Judges items taking TooLarge = ⊥

-- A line that the reading of a text may be answered with: one of its trace, or that of the rule that it breaks first.
abbrev pub IsTextFor : Result (List Item) (ℕ × ℕ) → List ℕ → Type 0
IsTextFor (Ok items) text = IsLineFor items text
IsTextFor (Err fault) text = text ≡ fault_text fault

-- The text is this trace, which was judged so.
abbrev pub IsTrace : List ℕ → Taking → Checked → Type 0
IsTrace bytes taking checked = (items : List Item) × (trace_in bytes ≡ Ok items) × Judges items taking checked

-- A text was answered: as the trace that it is; with the rule that it breaks first; or the sink failed, after it had taken
-- a part of a line that the text may be answered with; or there was no memory, and nothing was written.
abbrev pub Answers : List ℕ → Taking → Checked → Type 0
Answers bytes taking Agrees = IsTrace bytes taking Agrees
Answers bytes taking (Differs clash) = IsTrace bytes taking (Differs clash)
Answers bytes taking (BadTrace rule line) = (trace_in bytes ≡ Err (rule, line)) × Appends taking.old taking.new (fault_text (rule, line))
Answers bytes taking WriteFault = Rose taking.before taking.after × ((text : List ℕ) × IsTextFor (trace_in bytes) text × TakesPart taking.old taking.new text)
Answers bytes taking NoMemory = IsUntouched taking
Answers bytes taking ReadFault = ⊥
Answers bytes taking TooLarge = ⊥

-- The source was read to its end within the limit, and its bytes were answered so.
abbrev pub AnswersAll : Giving → Taking → Checked → Type 0
AnswersAll giving taking checked = (bytes : List ℕ) × GaveAll giving.old giving.new limit bytes × Answers bytes taking checked

-- A text is read from the source, and answered.
abbrev pub Checks : Giving → Taking → Checked → Type 0
Checks giving taking ReadFault = Rose giving.before giving.after × GaveWithin giving.old giving.new limit × IsUntouched taking
Checks giving taking TooLarge = GaveMore giving.old giving.new limit × IsUntouched taking
Checks giving taking NoMemory = IsUntouched taking
Checks giving taking Agrees = AnswersAll giving taking Agrees
Checks giving taking (Differs clash) = AnswersAll giving taking (Differs clash)
Checks giving taking (BadTrace rule line) = AnswersAll giving taking (BadTrace rule line)
Checks giving taking WriteFault = AnswersAll giving taking WriteFault

-- A line was written whole.
abbrev pub HasAnswered : Checked → Type 0
HasAnswered Agrees = Unit {0}
HasAnswered (Differs clash) = Unit {0}
HasAnswered (BadTrace rule line) = Unit {0}
HasAnswered ReadFault = ⊥
HasAnswered WriteFault = ⊥
HasAnswered NoMemory = ⊥
HasAnswered TooLarge = ⊥
