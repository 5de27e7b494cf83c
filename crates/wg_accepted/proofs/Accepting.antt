-- The report of a script's history is read as its trace, whose verdict is None.
use Rattle.std.proofs.Common.{◌≡◌, ℕ, List, Some, None, Ok, Err, refl, sym, ◌∙◌, subst, arith}
use Rattle.wg_trace.specs.declared.steps.Item.{Item}
use Rattle.wg_io.specs.Exchange.{Taking}
use Rattle.wg_check.specs.Verdict.{IsVerdict}
use Rattle.wg_checker.specs.declared.checking.Checked.{Checked}
use Rattle.wg_checker.specs.declared.checking.Checked.TheVariants.{Agrees, Differs, BadTrace, ReadFault, WriteFault, NoMemory, TooLarge}
use Rattle.wg_checker.specs.Checks.{Answers, HasAnswered}
use Rattle.wg_readtrace.specs.Reading.{trace_in}
use Rattle.wg_history.specs.declared.events.Setup.{Setup}
use Rattle.wg_history.specs.Entries.{Entry}
use Rattle.wg_history.specs.Traces.{Trace}
use Rattle.wg_accepted.proofs.Agreeing.{verdict_is_none}
use Rattle.wg_shaped.specs.Reports.{report_of}
use Rattle.wg_small.proofs.Texts.{reads_back_by_length}
use Rattle.wg_play.specs.Play.{script_setup}
use Rattle.wg_accepted.specs.Accepted.{ReportsAreAccepted}
use Rattle.wg_accepted.proofs.Granted.{limits_are_granted}

answered : (setup : Setup) (history : List Entry) (text : List ℕ) → trace_in text ≡ Ok (Trace setup history) → (taking : Taking) (checked : Checked) → Answers text taking checked → HasAnswered checked → checked ≡ Agrees
answered setup history text read taking Agrees answers has = refl
answered setup history text read taking (Differs clash) answers has =
    let same : answers.0 ≡ Trace setup history = cc in
    let none : Some clash ≡ None = verdict_is_none setup history (Some clash) (subst (λ (items : List Item). IsVerdict items (Some clash)) same answers.2.0.least) in
    absurd (cc)
answered setup history text read taking (BadTrace rule line) answers has = absurd (let both : Err (rule, line) ≡ Ok (Trace setup history) = sym answers.0 ∙ read in cc)
answered setup history text read taking ReadFault answers has = absurd has
answered setup history text read taking WriteFault answers has = absurd has
answered setup history text read taking NoMemory answers has = absurd has
answered setup history text read taking TooLarge answers has = absurd has

pub reports_are_accepted : ReportsAreAccepted
reports_are_accepted bytes script history e run few =
    let granted = limits_are_granted bytes script e in
    let read : trace_in (report_of (script_setup script) history) ≡ Ok (Trace (script_setup script) history) = reads_back_by_length (script_setup script) history run granted.0 granted.1 (omega (arith, few)) in
    record { read = read; agrees = λ taking checked answers has. answered (script_setup script) history (report_of (script_setup script) history) read taking checked answers has }
