use Rattle.std.proofs.Common.{◌∙◌, ◌≤◌, ap, length, subst, sym}
use Rattle.wg_bars.specs.Kept.{with_notes}
use Rattle.wg_bars.proofs.Here.{made_longer, notes_longer}
use Rattle.wg_init.specs.Rows.{RunsApart}
use Rattle.wg_init.proofs.state.CellState.place.Goals as goal

pub invariant_of-self : goal.invariant_of-self
invariant_of-self c = record {
  apart = subst RunsApart (sym c.place.ensures.items) (subst (λ kept. RunsApart (with_notes kept.items c.args.fresh)) (sym c.self.view_is) c.requires.apart);
  made = made_longer c.self.inside.kept c.place.new.kept c.self.invariant.made c.place.ensures.gone (subst (λ items. length c.self.inside.kept.items ≤ length items) (sym c.place.ensures.items) (notes_longer c.self.inside.kept.items c.args.fresh));
}

pub returns-clause-items : goal.returns-clause-items
returns-clause-items c = c.place.ensures.items ∙ ap (λ kept. with_notes kept.items c.args.fresh) c.self.view_is
