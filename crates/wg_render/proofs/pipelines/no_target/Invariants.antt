use Rattle.std.proofs.Common.{◌≡◌, drop}
use Rattle.wg_model.specs.FixedFunction.{target_formats}
use Rattle.wg_model.specs.Render.{none_given}
use Rattle.wg_render.proofs.pipelines.no_target.Given as goal

abbrev pub invariant-loop-target : goal.invariant-loop-target
invariant-loop-target l = none_given (target_formats (drop l.target-index l.targets)) ≡ none_given (target_formats l.targets)
