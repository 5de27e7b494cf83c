use Rattle.std.proofs.Common.{◌≡◌, ◌++◌, drop, map}
use Rattle.wg_trace.specs.Added.{BeginsWith}
use Rattle.wg_orders.specs.Trace.{bar}
use Rattle.wg_bars.proofs.barriers.push_bars.Given as goal

abbrev pub invariant-loop-row : goal.invariant-loop-row
invariant-loop-row l =
    (l.items.items ++ map bar (drop l.row-index l.rows) ≡ l.initial.items.items ++ map bar l.rows)
    × BeginsWith l.items.items l.initial.items.items
