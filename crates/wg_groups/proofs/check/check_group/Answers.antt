use Rattle.std.proofs.Common.{◌∙◌, ap}
use Rattle.wg_model.specs.Groups.{group_rules}
use Rattle.wg_model.specs.Rules.{first_unmet}
use Rattle.wg_groups.proofs.check.check_group.Goals as goal

pub returns : goal.returns
returns c = c.check_entries.ensures ∙ ap (λ layout. first_unmet (group_rules c.args.limits.now layout c.args.entries.now)) (c.as_slice.ensures ∙ c.get.ensures)
