use Rattle.std.proofs.Common.{◌≡◌, ◌≤◌, ◌+◌, ◌-◌, drop, length}
use Rattle.wg_readtrace.specs.Reading.{behind_trace, lines_of}
use Rattle.wg_readtrace.proofs.reading.behind_trace.Given as goal

abbrev pub invariant-loop-at : goal.invariant-loop-at
invariant-loop-at l = record {
  same : behind_trace l.n (lines_of (drop l.at l.text)) ≡ behind_trace 1 (lines_of l.text);
  within : l.at ≤ length l.text + 1;
  small : l.n ≤ l.at + 1;
}

abbrev pub decreases-loop-at : goal.decreases-loop-at
decreases-loop-at l = length l.text - l.at
