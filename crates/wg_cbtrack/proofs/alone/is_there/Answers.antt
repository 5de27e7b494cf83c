use Rattle.std.proofs.Common.{◌∙◌, ap, sym, true≢false, eq-eqb, eqb-true}
use Rattle.wg_cbtrack.proofs.Standing.{stands_at}
use Rattle.wg_cbtrack.proofs.alone.is_there.Goals as goal

pub returns-then-at-rows-clause-no : goal.returns-then-at-rows-clause-no
returns-then-at-rows-clause-no g c = λ e. (stands_at g.T.Owned.object c.args.object c.args.rows.now c.args.at c.requires.ordered c.requires.place).behind c.if-at-rows.true

pub returns-clause-no : goal.returns-clause-no
returns-clause-no g c = λ e. (stands_at g.T.Owned.object c.args.object c.args.rows.now c.args.at c.requires.ordered c.requires.place).other c.index-rows-at.result c.if-at-rows.false (λ k. true≢false (sym (eq-eqb c.object.result c.args.object (c.object.ensures ∙ (ap g.T.Owned.object c.index-rows-at.is ∙ k))) ∙ e))

pub returns-clause-some : goal.returns-clause-some
returns-clause-some g c = λ e none. (stands_at g.T.Owned.object c.args.object c.args.rows.now c.args.at c.requires.ordered c.requires.place).some c.index-rows-at.result c.if-at-rows.false (ap g.T.Owned.object (sym c.index-rows-at.is) ∙ (sym c.object.ensures ∙ eqb-true c.object.result c.args.object e)) none
