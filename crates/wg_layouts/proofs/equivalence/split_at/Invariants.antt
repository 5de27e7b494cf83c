use Rattle.std.proofs.Common.{◌≡◌, drop}
use Rattle.wg_model.specs.Equality.{of_binding}
use Rattle.wg_layouts.proofs.equivalence.split_at.Given as goal

abbrev pub invariant-loop-i : goal.invariant-loop-i
invariant-loop-i l = of_binding l.binding (drop l.i l.entries) ≡ of_binding l.binding l.entries
