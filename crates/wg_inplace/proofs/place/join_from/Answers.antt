use Rattle.std.proofs.Common.{◌∙◌, ap, sym, arith}
use Rattle.wg_rows.specs.Rows.{joined}
use Rattle.wg_inplace.proofs.Placing.{Joins, joins_on}
use Rattle.wg_inplace.proofs.place.join_from.Goals as goal

pub loop-to-preserved : goal.loop-to-preserved
loop-to-preserved g c =
    let on : Joins g.R.Run.sort g.V.Value.same c.loop-to.all c.in-Some.both c.args.rows.now c.loop-to.to = joins_on g.R.Run.sort g.V.Value.same c.requires.widens c.loop-to.all c.in-Some.both c.args.rows.now c.loop-to.to c.index-rows-to.result c.requires.chained c.loop-to-test.true (ap (λ x. joined g.R.Run.sort g.V.Value.same x c.loop-to.all) (sym c.index-rows-to.is) ∙ (sym c.joined.ensures ∙ c.in-Some.is)) in
    (omega (arith, c.loop-to.invariant.0), omega (arith, c.loop-to-test.true), c.loop-to.invariant.2 ∙ on.put_is, on.stops)
