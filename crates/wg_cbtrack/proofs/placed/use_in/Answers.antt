use Rattle.std.proofs.Common.{arith}
use Rattle.wg_rows.specs.Runs.{BufferPart}
use Rattle.wg_rows.specs.Uses.{clear_usage}
use Rattle.wg_cbtrack.proofs.Placing.{uses_on}
use Rattle.wg_cbtrack.proofs.placed.use_in.Goals as goal

pub use_one-requires-clause-full : goal.use_one-requires-clause-full
use_one-requires-clause-full c = (uses_on c.args.uses.now c.args.rows.now.items c.loop-row.rows.items c.loop-row.rows.items c.loop-row.row-index _ c.loop-row-test.true c.loop-row.invariant.0 c.loop-row.invariant.1 c.loop-row.invariant.2).full

pub use_one-requires-clause-room : goal.use_one-requires-clause-room
use_one-requires-clause-room c =
    let on = uses_on c.args.uses.now c.args.rows.now.items c.loop-row.rows.items c.loop-row.rows.items c.loop-row.row-index (BufferPart 0, clear_usage) c.loop-row-test.true c.loop-row.invariant.0 c.loop-row.invariant.1 c.loop-row.invariant.2 in
    omega (arith, on.fewer, c.loop-row.invariant.3)

pub loop-row-preserved : goal.loop-row-preserved
loop-row-preserved c =
    let on = uses_on c.args.uses.now c.args.rows.now.items c.loop-row.rows.items c.use_one.new.rows.items c.loop-row.row-index _ c.loop-row-test.true c.loop-row.invariant.0 c.loop-row.invariant.1 c.loop-row.invariant.2 in
    let all = on.on c.use_one.ensures.items in
    (all.0, all.1, all.2, omega (arith, on.fewer, c.loop-row.invariant.3, c.use_one.ensures.len, c.use_one.ensures.capacity), omega (arith, c.loop-row.invariant.4, c.use_one.ensures.capacity))
