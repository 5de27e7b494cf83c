use Rattle.std.proofs.Common.{◌≡◌, ◌++◌, drop}
use Rattle.wg_model.specs.Bundles.{executed_touches}
use Rattle.wg_render.proofs.bundles.push_bundles.Given as goal

abbrev pub invariant-loop-bundle : goal.invariant-loop-bundle
invariant-loop-bundle l = l.touches ++ executed_touches (drop l.bundle-index l.bundles) ≡ l.initial.touches ++ executed_touches l.bundles
