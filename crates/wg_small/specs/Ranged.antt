-- The ranges of what command buffers do are small, so that the report of a run is read back.
use Rattle.std.specs.Prelude.{◌+◌, ◌≤◌, List, length, Ok, ◌≡◌}
use Rattle.wg_limits.specs.Limits.{AreNoBetter, HaveFixed}
use Rattle.wg_rows.specs.Rows.{EachRow}
use Rattle.wg_history.specs.declared.events.Setup.{Setup}
use Rattle.wg_history.specs.Entries.{Entry}
use Rattle.wg_history.specs.Answers.{Run}
use Rattle.wg_history.specs.Steps.{Steps}
use Rattle.wg_history.specs.Traces.{Trace}
use Rattle.wg_readtrace.specs.Forms.{most_53}
use Rattle.wg_readtrace.specs.Reading.{trace_in}
use Rattle.wg_readback.specs.Printable.{step_count}
use Rattle.wg_shaped.specs.Reports.{report_of}
use Rattle.wg_small.specs.Small.{HasSmallRanges}
use Rattle.wg_small.specs.Limits.{RecordsSmallRanges}

-- In a run what a valid command buffer does lies in small ranges, where no limit of the device is better than the best, and
-- those that no script changes are as they are by default.
abbrev pub RecordingsAreSmall : Type 0
RecordingsAreSmall =
    (setup : Setup) (history : List Entry)
    → Run setup history
    → AreNoBetter setup.limits
    → HaveFixed setup.limits
    → EachRow RecordsSmallRanges history

-- In a run all steps lie in small ranges, under the same limits.
abbrev pub StepsAreSmall : Type 0
StepsAreSmall =
    (setup : Setup) (history : List Entry)
    → Run setup history
    → AreNoBetter setup.limits
    → HaveFixed setup.limits
    → EachRow HasSmallRanges (Steps setup history)

-- The report of a run is read as its trace, if the history is not longer than the greatest number that the reader takes and
-- there are numbers for its steps.
abbrev pub ReadsBackByCounts : Type 0
ReadsBackByCounts =
    (setup : Setup) (history : List Entry)
    → Run setup history
    → AreNoBetter setup.limits
    → HaveFixed setup.limits
    → length history ≤ most_53
    → step_count (Trace setup history) ≤ most_53 + 1
    → trace_in (report_of setup history) ≡ Ok (Trace setup history)

-- which is so where the report has no more bytes than that number, since each entry and each step has a line.
abbrev pub ReadsBackByLength : Type 0
ReadsBackByLength =
    (setup : Setup) (history : List Entry)
    → Run setup history
    → AreNoBetter setup.limits
    → HaveFixed setup.limits
    → length (report_of setup history) ≤ most_53
    → trace_in (report_of setup history) ≡ Ok (Trace setup history)
