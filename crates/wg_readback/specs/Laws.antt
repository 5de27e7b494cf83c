-- What is printed of a trace is read as that trace.
use Rattle.std.specs.Prelude.{ℕ, List, Ok, ◌≡◌}
use Rattle.wg_rows.specs.Rows.{EachRow}
use Rattle.wg_orders.specs.Trace.{Item, Work, trace_of, work_steps}
use Rattle.wg_readtrace.specs.Reading.{trace_in}
use Rattle.wg_readback.specs.Texts.{trace_behind, Told, history_text}
use Rattle.wg_readback.specs.Shapes.{IsShapedStep, IsShaped}
use Rattle.wg_readback.specs.Printable.{IsPrintable, IsFront}

-- What is printed of a printable trace, behind a text without a line `trace`, is read as that trace.
abbrev pub ReadsBack : Type 0
ReadsBack = (before : List ℕ) (trace : List Item) → IsFront before → IsPrintable trace → trace_in (trace_behind before trace) ≡ Ok trace

-- What is printed of a printable trace behind the entries of a history is read as that trace.
abbrev pub ReportReadsBack : Type 0
ReportReadsBack = (entries : List Told) (trace : List Item) → IsPrintable trace → trace_in (trace_behind (history_text entries) trace) ≡ Ok trace

-- Each trace that is read is printable, so that nothing is asked of a trace but what the reader asks.
abbrev pub ReadIsPrintable : Type 0
ReadIsPrintable = (bytes : List ℕ) (trace : List Item) → trace_in bytes ≡ Ok trace → IsPrintable trace

-- The trace of works whose steps have their shape has its shape: barriers and clears have it of themselves.
abbrev pub TraceIsShaped : Type 0
TraceIsShaped = (works : List Work) → EachRow IsShapedStep (work_steps works) → IsShaped (trace_of works)
