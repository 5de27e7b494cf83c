use Rattle.std.proofs.Common.{◌≡◌, drop}
use Rattle.wg_auto.specs.Walks.{first_clash}
use Rattle.wg_auto.proofs.order.first_clash.Given as goal

abbrev pub invariant-loop-i : goal.invariant-loop-i
invariant-loop-i l = first_clash (drop l.i l.uses) ≡ first_clash l.uses
