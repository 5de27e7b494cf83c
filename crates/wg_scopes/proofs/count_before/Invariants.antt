use Rattle.std.proofs.Common.{◌≡◌, drop}
use Rattle.wg_scopes.specs.OfObject.{skipped}
use Rattle.wg_scopes.proofs.count_before.Given as goal

abbrev pub invariant-loop-i : goal.invariant-loop-i
invariant-loop-i l = skipped l.object (drop l.i l.rows) ≡ skipped l.object l.rows
