use Rattle.std.proofs.Common.{◌≡◌, drop}
use Rattle.wg_model.specs.Render.{bundle_spares, all_bundles}
use Rattle.wg_render.proofs.bundles.all_spare.Given as goal

abbrev pub invariant-loop-bundle : goal.invariant-loop-bundle
invariant-loop-bundle l = all_bundles (bundle_spares l.targets) (drop l.bundle-index l.bundles) ≡ all_bundles (bundle_spares l.targets) l.bundles
