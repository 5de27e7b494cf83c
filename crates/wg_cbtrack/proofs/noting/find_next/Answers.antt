use Rattle.std.proofs.Common.{rules, ◌≡◌, subst}
use Rattle.wg_cbtrack.specs.Next.{AreCells, AreMore}
use Rattle.wg_cbtrack.proofs.noting.find_next.Goals as goal

pub returns : goal.returns
returns c =
    let before : c.in_ok-before.before.items ≡ c.args.ends.now = search rules in
    record {
      clear = c.in_ok-cells.cells.clear.items;
      cells = λ tidy. subst (λ xs. AreCells c.args.wants.now c.args.leaves.now xs c.in_ok-cells.cells.clear.items c.in_ok-cells.cells.wants.items c.in_ok-cells.cells.leaves.items) c.as_slice.ensures (c.in_ok-cells.ensures tidy);
      kept = subst (λ xs. AreMore xs c.in_ok-cells.cells.clear.items c.args.deed.now c.in_ok-more.more.kept.items c.in_ok-more.more.ends.items) before (subst (λ d. AreMore c.in_ok-before.before.items c.in_ok-cells.cells.clear.items d c.in_ok-more.more.kept.items c.in_ok-more.more.ends.items) c.in_ok-step.ensures c.in_ok-more.ensures);
    }
