use Rattle.std.proofs.Common.{◌≡◌, ◌++◌, length, reverse}
use Rattle.wg_rows.proofs.rows.step_to_start.Given as goal

abbrev pub invariant-loop-row : goal.invariant-loop-row
invariant-loop-row g l = l.front.items ++ reverse l.back.items ≡ l.fn.front.items ++ reverse l.fn.back.items

abbrev pub decreases-loop-row : goal.decreases-loop-row
decreases-loop-row g l = length l.front.items
