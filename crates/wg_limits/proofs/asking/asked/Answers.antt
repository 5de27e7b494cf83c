use Rattle.std.proofs.Common.{sym, subst, ◌∙◌}
use Rattle.wg_limits.specs.Limits.{limit_of, IsBetween}
use Rattle.wg_limits.proofs.Between.{all_between}
use Rattle.wg_limits.proofs.asking.asked.Goals as goal

pub returns-then-can_all-clause-between : goal.returns-then-can_all-clause-between
returns-then-can_all-clause-between c =
    λ name. subst (λ limits. IsBetween name (limit_of name limits)) (sym c.limits_for.ensures) (all_between c.args.values.now (sym c.can_all.ensures ∙ c.if-can_all.true) name)
