use Rattle.std.proofs.Common.{◌≡◌, ◌+◌, drop}
use Rattle.wg_model.specs.Render.{executed_draws}
use Rattle.wg_render.proofs.bundles.executed_draws.Given as goal

abbrev pub invariant-loop-bundle : goal.invariant-loop-bundle
invariant-loop-bundle l = l.draws + executed_draws (drop l.bundle-index l.bundles) ≡ executed_draws l.bundles
