use Rattle.std.specs.Prelude.{None}
use Rattle.std.proofs.Common.{◌≡◌, ◌≤◌, ◌+◌, ◌-◌, drop, length, []}
use Rattle.wg_readtrace.specs.Given.{Knows}
use Rattle.wg_readtrace.specs.Reading.{as_items, lines_of}
use Rattle.wg_readtrace.specs.Drafts.{lines_from, read_with, rows_of}
use Rattle.wg_readtrace.proofs.reading.read_items.Given as goal

abbrev pub invariant-loop-at : goal.invariant-loop-at
invariant-loop-at l = record {
  same : read_with l.draft (lines_from l.n l.last l.steps (rows_of l.draft.accesses) (lines_of (drop l.at l.text))) ≡ as_items (lines_from l.first None 0 [] (lines_of (drop l.from l.text)));
  told : Knows l.draft.given (rows_of l.draft.accesses);
  within : l.at ≤ length l.text + 1;
  small : l.n ≤ l.at + 1;
  few : l.steps ≤ l.n;
}

abbrev pub decreases-loop-at : goal.decreases-loop-at
decreases-loop-at l = length l.text - l.at
