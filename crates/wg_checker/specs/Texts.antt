-- The line that is written of a text.
use Rattle.std.specs.Prelude.{ℕ, List, ◌++◌, codes, decimal, Option, Some, None}
use Rattle.wg_check.specs.declared.clashes.Clash.{Clash}
use Rattle.wg_print.specs.Parts.{cells_text}

-- the reader of a clash, as it is printed: a step by its number, or the end
abbrev pub reader_text : Option ℕ → List ℕ
reader_text None = codes "end"
reader_text (Some step) = decimal step

-- the line of a clash
abbrev pub clash_text : Clash → List ℕ
clash_text clash = codes "differs " ++ reader_text clash.reader ++ codes " " ++ decimal clash.writer ++ codes " " ++ cells_text clash.cell ++ codes "\n"

-- the line of a verdict
abbrev pub verdict_text : Option Clash → List ℕ
verdict_text None = codes "agrees\n"
verdict_text (Some clash) = clash_text clash

-- the line for a text that is no trace: the rule that it breaks first, and the number of its line
abbrev pub fault_text : ℕ × ℕ → List ℕ
fault_text fault = codes "bad trace " ++ decimal fault.0 ++ codes " " ++ decimal fault.1 ++ codes "\n"
