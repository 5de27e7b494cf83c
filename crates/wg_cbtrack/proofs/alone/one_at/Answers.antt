use Rattle.std.proofs.Common.{◌∙◌, ◌∷◌, [], ap, sym}
use Rattle.wg_cbtrack.proofs.Standing.{stands_at}
use Rattle.wg_cbtrack.proofs.alone.one_at.Goals as goal

pub returns-then-at-rows : goal.returns-then-at-rows
returns-then-at-rows g c = (stands_at g.T.Owned.object c.args.object c.args.rows.now c.args.at c.requires.ordered c.requires.place).behind c.if-at-rows.true

pub returns-then-object : goal.returns-then-object
returns-then-object g c = (stands_at g.T.Owned.object c.args.object c.args.rows.now c.args.at c.requires.ordered c.requires.place).other c.index-rows-at.result c.if-at-rows.false (λ k. c.if-object.true (c.object.ensures ∙ (ap g.T.Owned.object c.index-rows-at.is ∙ k)))

pub returns : goal.returns
returns g c = (stands_at g.T.Owned.object c.args.object c.args.rows.now c.args.at c.requires.ordered c.requires.place).one c.index-rows-at.result c.index-rows-at.result c.if-at-rows.false (ap g.T.Owned.object (sym c.index-rows-at.is) ∙ (sym c.object.ensures ∙ c.if-object.false)) (c.goes_on.ensures c.if-goes_on.false c.index-rows-at.result) ∙ ap (λ x. x ∷ []) (sym c.index-rows-at.is)
