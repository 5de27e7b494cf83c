use Rattle.std.proofs.Common.{rules, ◌∙◌, ap, sym, subst, arith, List}
use Rattle.wg_types.specs.declared.bindings.IfaceEntry.{IfaceEntry}
use Rattle.wg_model.specs.Automatic.{layouts_below}
use Rattle.wg_auto.specs.Walks.{SameUses}
use Rattle.wg_auto.proofs.Clashes.{least_clash}
use Rattle.wg_auto.proofs.Judged.{too_many, layouts_are, few_groups}
use Rattle.wg_auto.proofs.merging.merge.Goals as goal

pub returns-in-Some : goal.returns-in-Some
returns-in-Some c = least_clash _ c.in_ok-uses.uses.items _ _ c.in_ok-uses.ensures.in_order c.in_ok-uses.ensures.same (search rules)

pub returns-then-not-groups_fit : goal.returns-then-not-groups_fit
returns-then-not-groups_fit c = too_many _ c.in_ok-uses.uses.items c.in_ok-uses.ensures.in_order c.in_ok-uses.ensures.same (search rules) (search rules)

pub layouts_below-requires-clause-few : goal.layouts_below-requires-clause-few
layouts_below-requires-clause-few c = let count = c.group_count.ensures in let few = few_groups c.args.iface.now (search rules) in omega (arith, count, few)

pub returns : goal.returns
returns c =
    let same : SameUses c.in_ok-uses.uses.items c.args.iface.now = c.in_ok-uses.ensures.same in
    layouts_are _ c.in_ok-uses.uses.items _ c.in_ok-uses.ensures.in_order same (search rules) (search rules)
    (c.in_ok-layouts.ensures c.args.iface.now (subst (λ (l : List IfaceEntry). SameUses l c.args.iface.now) (sym c.deref-2.ensures.value) same) ∙ ap (layouts_below c.args.iface.now) c.group_count.ensures)
