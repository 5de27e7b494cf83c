-- The rules of a command of a compute pass, one list after another.
use Rattle.std.proofs.Common.{◌≡◌, ◌++◌, ap, ◌∙◌}
use Rattle.std.specs.Option.{option_or}
use Rattle.wg_types.specs.Commands.{Command}
use Rattle.wg_model.specs.Rules.{first_unmet}
use Rattle.wg_model.specs.Commands.{debug_rules}
use Rattle.wg_model.specs.Settings.{Settings, given_rules, end_rules}
use Rattle.wg_model.specs.Compute.{dispatch_rules, compute_rules}
use Rattle.wg_model.proofs.Unmet.{first_unmet_joined}

pub rules_parted : (set : Settings) (command : Command) → first_unmet (compute_rules set command)
    ≡ option_or (first_unmet (debug_rules set.depth command)) (option_or (first_unmet (end_rules set.depth command)) (option_or (first_unmet (given_rules command)) (first_unmet (dispatch_rules set command))))
rules_parted set command =
    first_unmet_joined (debug_rules set.depth command) (end_rules set.depth command ++ (given_rules command ++ dispatch_rules set command))
    ∙ ap (option_or (first_unmet (debug_rules set.depth command)))
    (first_unmet_joined (end_rules set.depth command) (given_rules command ++ dispatch_rules set command)
    ∙ ap (option_or (first_unmet (end_rules set.depth command))) (first_unmet_joined (given_rules command) (dispatch_rules set command)))
