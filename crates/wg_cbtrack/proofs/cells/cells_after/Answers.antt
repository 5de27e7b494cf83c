use Rattle.std.proofs.Common.{rules, ◌≡◌, ◌∙◌, [], ap, ap₂}
use Rattle.wg_cbtrack.specs.Leaves.{left_after, with_pieces, unset_pieces, unwritten_pieces}
use Rattle.wg_cbtrack.proofs.Leaving.{cells_are}
use Rattle.wg_cbtrack.proofs.cells.cells_after.Goals as goal

pub returns : goal.returns
returns c = λ tidy.
    let none : c.new-none.result.items ≡ [] = search rules in
    let before : c.in_ok-before.before.items ≡ c.args.wants.now = search rules in
    let held : c.in_ok-held.held.items ≡ c.args.leaves.now = search rules in
    cells_are c.args.wants.now c.args.leaves.now c.args.accesses.now c.in_ok-clear.clear.items c.in_ok-wanted.wanted.items c.in_ok-set.set.items c.in_ok-left.left.items tidy (c.in_ok-clear.ensures ∙ ap (with_pieces (unset_pieces c.args.leaves.now) c.args.accesses.now) none) (c.in_ok-wanted.ensures ∙ ap (with_pieces (unwritten_pieces c.args.leaves.now) c.args.accesses.now) before) (c.in_ok-set.ensures ∙ ap₂ left_after c.as_slice.ensures.value held) c.in_ok-left.ensures
