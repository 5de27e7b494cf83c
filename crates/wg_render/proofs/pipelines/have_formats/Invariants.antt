use Rattle.std.proofs.Common.{◌≡◌, drop}
use Rattle.wg_model.specs.FixedFunction.{target_formats}
use Rattle.wg_model.specs.Render.{same_targets}
use Rattle.wg_render.proofs.pipelines.have_formats.Given as goal

abbrev pub invariant-loop-i : goal.invariant-loop-i
invariant-loop-i l = same_targets (target_formats (drop l.i l.targets)) l.rest ≡ same_targets (target_formats l.targets) l.others
