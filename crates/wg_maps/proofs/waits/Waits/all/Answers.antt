use Rattle.std.proofs.Common.{◌≡◌, ◌≤◌, IfOk, length, ap, subst, ◌∙◌, rules}
use Rattle.wg_maps.specs.Waits.{arranged, waiting}
use Rattle.wg_maps.proofs.ListedLemmas.{unlike_first, all_waiting}
use Rattle.wg_maps.proofs.waits.Waits.all.Goals as goal

pub arrange-requires : goal.arrange-requires
arrange-requires c = rw c.in_ok-waits.ensures (unlike_first c.self.inside.promises.entries c.self.inside.listed.items _ c.self.invariant.listed)

pub returns-clause-all : goal.returns-clause-all
returns-clause-all c =
    let whole : length c.self.inside.listed.items ≤ c.len-count.result = search rules in
    rw (← c.self.view_is) (subst (λ list. IfOk c.arrange.result (λ new. new.items ≡ list))
    (ap arranged c.in_ok-waits.ensures ∙ all_waiting c.self.inside.promises.entries c.self.inside.listed.items c.len-count.result whole) c.arrange.ensures.arranged)
