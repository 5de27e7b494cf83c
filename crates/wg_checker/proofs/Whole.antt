-- What was answered of all bytes of a source.
use Rattle.std.proofs.Common.{ℕ, List}
use Rattle.wg_io.specs.Exchange.{Giving, Taking}
use Rattle.wg_io.specs.Reading.{GaveAll}
use Rattle.wg_checker.specs.declared.checking.Checked.{Checked}
use Rattle.wg_checker.specs.declared.checking.Checked.TheVariants.{Agrees, Differs, BadTrace, ReadFault, WriteFault, NoMemory, TooLarge}
use Rattle.wg_checker.specs.Checks.{limit, Answers, Checks}

pub checks_all : (giving : Giving) (taking : Taking) (bytes : List ℕ) (checked : Checked) → GaveAll giving.old giving.new limit bytes → Answers bytes taking checked → Checks giving taking checked
checks_all giving taking bytes Agrees gave answers = (bytes, gave, answers)
checks_all giving taking bytes (Differs clash) gave answers = (bytes, gave, answers)
checks_all giving taking bytes (BadTrace rule line) gave answers = (bytes, gave, answers)
checks_all giving taking bytes WriteFault gave answers = (bytes, gave, answers)
checks_all giving taking bytes NoMemory gave answers = answers
checks_all giving taking bytes ReadFault gave answers = absurd answers
checks_all giving taking bytes TooLarge gave answers = absurd answers
