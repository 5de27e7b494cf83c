use Rattle.std.proofs.Common.{◌≡◌, ◌++◌, drop}
use Rattle.std.specs.List.{filter}
use Rattle.wg_model.specs.Bundles.{is_used_so}
use Rattle.wg_access.proofs.bundled.touches_so.Given as goal

abbrev pub invariant-loop-touch : goal.invariant-loop-touch
invariant-loop-touch l = l.found ++ filter (is_used_so l.used) (drop l.touch-index l.touches) ≡ filter (is_used_so l.used) l.touches
