use Rattle.std.proofs.Common.{◌≡◌, IfOk, ap, subst, ◌∙◌}
use Rattle.wg_maps.specs.Waits.{arranged}
use Rattle.wg_maps.proofs.ListedLemmas.{unlike_first, due_waiting}
use Rattle.wg_maps.proofs.waits.Waits.due.Goals as goal

pub arrange-requires : goal.arrange-requires
arrange-requires c = rw c.in_ok-waits.ensures (unlike_first c.self.inside.promises.entries c.self.inside.listed.items _ c.self.invariant.listed)

pub returns-clause-due : goal.returns-clause-due
returns-clause-due c =
    rw (← c.self.view_is) (subst (λ list. IfOk c.arrange.result (λ new. new.items ≡ list))
    (ap arranged c.in_ok-waits.ensures ∙ due_waiting c.self.inside.promises.entries c.self.inside.listed.items c.args.completed _ c.count_due-count.ensures.due) c.arrange.ensures.arranged)
