use Rattle.std.proofs.Common.{◌≡◌, drop}
use Rattle.std.specs.List.{list_all}
use Rattle.wg_model.specs.Touches.{in_scope}
use Rattle.wg_access.proofs.touching.all_in_scope.Given as goal

abbrev pub invariant-loop-touch : goal.invariant-loop-touch
invariant-loop-touch l = list_all in_scope (drop l.touch-index l.touches) ≡ list_all in_scope l.touches
