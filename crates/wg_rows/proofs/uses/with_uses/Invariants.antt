use Rattle.std.proofs.Common.{◌≡◌, ◌≤◌, drop, length}
use Rattle.wg_rows.specs.Sets.{with_uses}
use Rattle.wg_rows.proofs.uses.with_uses.Given as goal

abbrev pub invariant-loop-i : goal.invariant-loop-i
invariant-loop-i l = (l.i ≤ length l.more) × (l.out.items ≡ with_uses (drop l.i l.more) l.rows)

abbrev pub decreases-loop-i : goal.decreases-loop-i
decreases-loop-i l = l.i
