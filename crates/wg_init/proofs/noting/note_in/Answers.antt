use Rattle.std.proofs.Common.{◌≤◌, ◌∙◌, length, ap, subst, arith}
use Rattle.wg_bars.specs.Kept.{SameRows}
use Rattle.wg_bars.proofs.Here.{made_longer, notes_longer}
use Rattle.wg_init.proofs.Notes.{note_is}
use Rattle.wg_init.proofs.noting.note_in.Goals as goal

pub returns-clause-noted : goal.returns-clause-noted
returns-clause-noted c =
    let same : SameRows c.args.kept.now.items c.grow.new.kept.items = subst (λ rows. SameRows rows c.grow.new.kept.items) c.in_ok-reserve_to.ensures.items c.grow.ensures.same in
    note_is c.args.kept.now.items c.grow.new.kept.items c.place.new.kept.items c.args.accesses.now c.in_ok-begun.begun c.in_ok-fresh.fresh c.in_ok-begun.ensures.same c.in_ok-fresh.ensures.notes same c.place.ensures.items

pub returns-clause-made : goal.returns-clause-made
returns-clause-made c =
    let longer : length c.args.kept.now.items ≤ length c.place.new.kept.items = omega (arith, c.grow.ensures.longer, ap length c.in_ok-reserve_to.ensures.items, ap length c.place.ensures.items, notes_longer c.grow.new.kept.items c.in_ok-fresh.fresh) in
    made_longer c.args.kept.now c.place.new.kept c.requires (c.place.ensures.gone ∙ (c.grow.ensures.gone ∙ c.in_ok-reserve_to.ensures.gone)) longer
