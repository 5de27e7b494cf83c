-- The reports of scripts are accepted where traces are checked.
use Rattle.std.specs.Prelude.{◌≡◌, ℕ, ◌≤◌, List, length, Ok}
use Rattle.wg_trace.specs.declared.steps.Item.{Item}
use Rattle.wg_limits.specs.Limits.{AreNoBetter, HaveFixed}
use Rattle.wg_io.specs.Exchange.{Taking}
use Rattle.wg_readtrace.specs.Reading.{trace_in}
use Rattle.wg_checker.specs.declared.checking.Checked.{Checked}
use Rattle.wg_checker.specs.declared.checking.Checked.TheVariants.{Agrees}
use Rattle.wg_checker.specs.Checks.{limit, Answers, HasAnswered}
use Rattle.wg_script.specs.declared.draft.Script.{Script}
use Rattle.wg_names.specs.Script.{script_of}
use Rattle.wg_history.specs.Entries.{Entry}
use Rattle.wg_history.specs.Answers.{Run}
use Rattle.wg_history.specs.Traces.{Trace}
use Rattle.wg_shaped.specs.Reports.{report_of}
use Rattle.wg_play.specs.Play.{script_setup}

-- The device of a script that is read has no limit better than the best, and those that no script changes as they are by default.
abbrev pub LimitsAreGranted : Type 0
LimitsAreGranted = (bytes : List ℕ) (script : Script) → script_of bytes ≡ Ok script → AreNoBetter script.limits × HaveFixed script.limits

-- A text is read as this trace, and whatever check has answered it has said that its barriers are enough.
pub record IsAccepted (text : List ℕ) (trace : List Item) : Type 0 where
  pub read : trace_in text ≡ Ok trace
  pub agrees : (taking : Taking) (checked : Checked) → Answers text taking checked → HasAnswered checked → checked ≡ Agrees

-- The report of a script that was read and of any history of its device whose replies are the right ones is read as its trace,
-- and agrees where it is checked, if it has no more bytes than a text that is checked.
abbrev pub ReportsAreAccepted : Type 0
ReportsAreAccepted =
    (bytes : List ℕ) (script : Script) (history : List Entry)
    → script_of bytes ≡ Ok script
    → Run (script_setup script) history
    → length (report_of (script_setup script) history) ≤ limit
    → IsAccepted (report_of (script_setup script) history) (Trace (script_setup script) history)
