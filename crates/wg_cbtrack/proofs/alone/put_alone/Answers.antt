use Rattle.std.proofs.Common.{arith}
use Rattle.wg_rows.specs.Runs.{part_sort}
use Rattle.wg_cbtrack.proofs.Local.{apart_ordered}
use Rattle.wg_cbtrack.proofs.Spreading.{alone_at, goes_on}
use Rattle.wg_cbtrack.proofs.alone.put_alone.Goals as goal

pub put_next-hint-requires-clause-ordered : goal.put_next-hint-requires-clause-ordered
put_next-hint-requires-clause-ordered c = apart_ordered part_sort c.loop-row.rows.items c.loop-row.invariant.1

pub put_next-hint-requires-clause-alone : goal.put_next-hint-requires-clause-alone
put_next-hint-requires-clause-alone c = alone_at c.args.uses.now c.loop-row.rows.items c.loop-row.row-index _ c.loop-row-test.true c.loop-row.invariant.3

pub loop-row-preserved : goal.loop-row-preserved
loop-row-preserved c =
    let on = goes_on c.args.uses.now c.args.rows.now.items c.loop-row.rows.items c.put_next-hint.new.rows.items c.loop-row.row-index _ c.loop-row-test.true c.loop-row.invariant.0 c.loop-row.invariant.1 c.loop-row.invariant.2 c.loop-row.invariant.3 c.put_next-hint.ensures.items in
    (on.is, on.apart, on.spread, on.alone, omega (arith, on.fewer, c.loop-row.invariant.4, c.put_next-hint.ensures.len, c.put_next-hint.ensures.capacity), omega (arith, c.loop-row.invariant.5, c.put_next-hint.ensures.capacity))
