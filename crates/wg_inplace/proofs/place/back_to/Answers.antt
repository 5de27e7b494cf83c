use Rattle.std.proofs.Common.{rules, get_or, ◌-◌, ◌≡◌, arith, true}
use Rattle.wg_rows.specs.Chained.{ends_before}
use Rattle.wg_inplace.proofs.Placing.{before_upto}
use Rattle.wg_inplace.proofs.place.back_to.Goals as goal

pub returns-then-ends_before-clause-before : goal.returns-then-ends_before-clause-before
returns-then-ends_before-clause-before g c =
    let e : ends_before g.R.Run.sort (get_or c.args.rows.now (c.loop-at.at - 1) c.index-rows-at.result).0 c.args.run ≡ true = search rules in
    before_upto g.R.Run.sort c.args.run c.args.rows.now c.loop-at.at c.index-rows-at.result c.requires.chained c.loop-at-test.true (omega (arith, c.loop-at.invariant, c.requires.bound)) e
