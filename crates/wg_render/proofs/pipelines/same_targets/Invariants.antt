use Rattle.std.proofs.Common.{◌≡◌, drop}
use Rattle.wg_model.specs.Render.{same_targets}
use Rattle.wg_render.proofs.pipelines.same_targets.Given as goal

abbrev pub invariant-loop-i : goal.invariant-loop-i
invariant-loop-i l = same_targets (drop l.i l.targets) l.rest ≡ same_targets l.targets l.others
