-- The rules of a command of a render pass, one list after another.
use Rattle.std.proofs.Common.{◌≡◌, ◌++◌, ap, ◌∙◌}
use Rattle.std.specs.Option.{option_or}
use Rattle.wg_types.specs.Commands.{Command}
use Rattle.wg_model.specs.Rules.{first_unmet}
use Rattle.wg_model.specs.Commands.{debug_rules}
use Rattle.wg_model.specs.Queries.{pass_end_rules}
use Rattle.wg_model.specs.Settings.{pipeline_given, given_rules, end_rules}
use Rattle.wg_types.specs.declared.limits.CommandLimits.{CommandLimits}
use Rattle.wg_model.specs.Render.{RenderSet, draws_rules, pipeline_given_rules, drawing_rules, render_rules}
use Rattle.wg_model.proofs.Unmet.{first_unmet_joined}

pub rules_parted : (limits : CommandLimits) (render : RenderSet) (command : Command) → first_unmet (render_rules limits render command)
    ≡ option_or (first_unmet (debug_rules render.set.depth command)) (option_or (first_unmet (end_rules render.set.depth command)) (option_or (first_unmet (pass_end_rules render.occlusion.active command)) (option_or (first_unmet (draws_rules render.most render.draws command)) (option_or (first_unmet (pipeline_given_rules render.targets (pipeline_given command))) (option_or (first_unmet (given_rules command)) (first_unmet (drawing_rules limits render command)))))))
rules_parted limits render command =
    first_unmet_joined (debug_rules render.set.depth command) (end_rules render.set.depth command ++ (pass_end_rules render.occlusion.active command ++ (draws_rules render.most render.draws command ++ (pipeline_given_rules render.targets (pipeline_given command) ++ (given_rules command ++ drawing_rules limits render command)))))
    ∙ ap (option_or (first_unmet (debug_rules render.set.depth command)))
    (first_unmet_joined (end_rules render.set.depth command) (pass_end_rules render.occlusion.active command ++ (draws_rules render.most render.draws command ++ (pipeline_given_rules render.targets (pipeline_given command) ++ (given_rules command ++ drawing_rules limits render command))))
    ∙ ap (option_or (first_unmet (end_rules render.set.depth command)))
    (first_unmet_joined (pass_end_rules render.occlusion.active command) (draws_rules render.most render.draws command ++ (pipeline_given_rules render.targets (pipeline_given command) ++ (given_rules command ++ drawing_rules limits render command)))
    ∙ ap (option_or (first_unmet (pass_end_rules render.occlusion.active command)))
    (first_unmet_joined (draws_rules render.most render.draws command) (pipeline_given_rules render.targets (pipeline_given command) ++ (given_rules command ++ drawing_rules limits render command))
    ∙ ap (option_or (first_unmet (draws_rules render.most render.draws command)))
    (first_unmet_joined (pipeline_given_rules render.targets (pipeline_given command)) (given_rules command ++ drawing_rules limits render command)
    ∙ ap (option_or (first_unmet (pipeline_given_rules render.targets (pipeline_given command)))) (first_unmet_joined (given_rules command) (drawing_rules limits render command))))))
