use Rattle.std.proofs.Common.{◌∙◌, ap, sym, arith, true}
use Rattle.wg_rows.specs.Chained.{is_clear}
use Rattle.wg_inplace.proofs.Placing.{clear_upto}
use Rattle.wg_inplace.proofs.place.step_back.Goals as goal

pub returns-then-is_clear-clause-clear : goal.returns-then-is_clear-clause-clear
returns-then-is_clear-clause-clear g c = clear_upto g.R.Run.sort g.V.Value.same c.args.row c.args.rows.now c.loop-at.at c.index-rows-at.result c.requires.chained c.loop-at-test.true (omega (arith, c.loop-at.invariant, c.requires.bound)) (ap (λ x. is_clear g.R.Run.sort g.V.Value.same x c.args.row) (sym c.index-rows-at.is) ∙ (sym c.is_clear.ensures ∙ c.if-is_clear.true))
