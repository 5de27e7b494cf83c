use Rattle.std.proofs.Common.{sym, ap, ◌∙◌}
use Rattle.wg_holders.specs.Holders.{HoldersValue, is_held}
use Rattle.wg_holders.proofs.HeldLemmas.{held_is}
use Rattle.wg_holders.proofs.Holders.is_held.Goals as goal

pub returns : goal.returns
returns c =
    c.is_held.ensures
    ∙ (sym (held_is _ _ _ _ _ _ c.self.invariant.tidy c.self.invariant.owned c.args.number)
    ∙ ap (λ (value : HoldersValue). is_held value.holdings c.args.number) c.self.view_is)
