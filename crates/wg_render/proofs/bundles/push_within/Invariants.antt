use Rattle.std.proofs.Common.{◌≡◌, ◌++◌, drop, map}
use Rattle.wg_model.specs.Bundles.{bundle_touch}
use Rattle.wg_render.proofs.bundles.push_within.Given as goal

abbrev pub invariant-loop-touch : goal.invariant-loop-touch
invariant-loop-touch l = l.touches ++ map bundle_touch (drop l.touch-index l.within) ≡ l.initial.touches ++ map bundle_touch l.within
