-- The shape of the traces of histories.
use Rattle.std.specs.Prelude.{◌+◌, ◌≤◌, List, Ok, ◌≡◌}
use Rattle.wg_rows.specs.Rows.{EachRow}
use Rattle.wg_history.specs.declared.events.Setup.{Setup}
use Rattle.wg_history.specs.Entries.{Entry}
use Rattle.wg_history.specs.Answers.{Run}
use Rattle.wg_history.specs.Steps.{Steps}
use Rattle.wg_history.specs.Traces.{Trace}
use Rattle.wg_readtrace.specs.Forms.{most_53}
use Rattle.wg_readtrace.specs.Reading.{trace_in}
use Rattle.wg_readback.specs.Printable.{IsSmallItem, step_count}
use Rattle.wg_readback.specs.Shapes.{IsFilledStep, IsShaped}
use Rattle.wg_shaped.specs.Reports.{report_of}

-- No step of a history has an empty row or an empty set.
abbrev pub StepsAreFilled : Type 0
StepsAreFilled = (setup : Setup) (history : List Entry) → EachRow IsFilledStep (Steps setup history)

-- The trace of a run has the shape that the reader of traces asks for.
abbrev pub HistoryIsShaped : Type 0
HistoryIsShaped = (setup : Setup) (history : List Entry) → Run setup history → IsShaped (Trace setup history)

-- What is printed of a history and its trace is read as that trace, if its replies are the right ones, and its numbers are ones
-- that the reader takes.
abbrev pub HistoryReadsBack : Type 0
HistoryReadsBack =
    (setup : Setup) (history : List Entry)
    → Run setup history
    → EachRow IsSmallItem (Trace setup history)
    → step_count (Trace setup history) ≤ most_53 + 1
    → trace_in (report_of setup history) ≡ Ok (Trace setup history)
