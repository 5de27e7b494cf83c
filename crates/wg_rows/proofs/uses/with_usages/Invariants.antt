use Rattle.std.proofs.Common.{◌≡◌, ◌++◌, drop, Some}
use Rattle.wg_rows.specs.Cut.{choose}
use Rattle.wg_rows.specs.Sets.{both_sets}
use Rattle.wg_rows.proofs.uses.with_usages.Given as goal

abbrev pub invariant-loop-row : goal.invariant-loop-row
invariant-loop-row l = l.out.items ++ choose (λ old. Some (both_sets l.fn.usages old)) (drop l.row-index l.rows) ≡ choose (λ old. Some (both_sets l.fn.usages old)) l.rows
