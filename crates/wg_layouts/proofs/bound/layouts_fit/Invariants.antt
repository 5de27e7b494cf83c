use Rattle.std.proofs.Common.{◌≡◌, drop}
use Rattle.wg_model.specs.Bound.{layouts_fit}
use Rattle.wg_layouts.proofs.bound.layouts_fit.Given as goal

abbrev pub invariant-loop-i : goal.invariant-loop-i
invariant-loop-i l = layouts_fit l.owner (drop l.i l.layouts) l.groups l.i ≡ layouts_fit l.owner l.layouts l.groups 0
