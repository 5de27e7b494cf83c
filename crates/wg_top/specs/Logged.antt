-- What is written of the lines of a log, and of a trace.
use Rattle.std.specs.Prelude.{ℕ, Bool, is_some, List, ◌++◌, map, length, count_by, codes, Option}
use Rattle.wg_trace.specs.declared.steps.Item.{Item}
use Rattle.wg_history.specs.Operations.{is_queued}
use Rattle.wg_core.specs.declared.logged.Line.{Line}
use Rattle.wg_readback.specs.Texts.{Told, trace_behind, history_text}
use Rattle.wg_gen.specs.Counts.{Tally, is_free}
use Rattle.wg_top.specs.Line.{counts_text, more_text}

-- a line, as it is printed
abbrev pub line_told : Line → Told
line_told line = (line.who, line.verb, line.reply)

-- the report of lines and a trace
abbrev pub logged_text : List Line → List Item → List ℕ
logged_text lines trace = trace_behind (history_text (map line_told lines)) trace

-- whether an entry that was logged issued an operation
abbrev pub line_issued : Line → Bool
line_issued line = is_queued line.reply.answer

-- whether an entry has a fault
abbrev pub faulted : Line → Bool
faulted line = is_some line.reply.fault

-- what is counted of entries that were logged and of a trace
abbrev pub logged_counts : List Line → List Item → Tally
logged_counts lines trace = record { entries = length lines; ops = count_by line_issued lines; faults = count_by faulted lines; frees = count_by is_free trace }

-- what is written where a script was generated
abbrev pub logged_counted : Option ℕ → List Line → List Item → List ℕ
logged_counted lanes lines trace = counts_text (logged_counts lines trace) ++ more_text lanes trace ++ codes "\n"
