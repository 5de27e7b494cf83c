use Rattle.std.proofs.Common.{◌≡◌, ◌++◌, drop}
use Rattle.std.specs.List.{filter}
use Rattle.wg_model.specs.Touches.{in_scope}
use Rattle.wg_access.proofs.touching.touches_in_scope.Given as goal

abbrev pub invariant-loop-touch : goal.invariant-loop-touch
invariant-loop-touch l = l.scoped ++ filter in_scope (drop l.touch-index l.touches) ≡ filter in_scope l.touches
