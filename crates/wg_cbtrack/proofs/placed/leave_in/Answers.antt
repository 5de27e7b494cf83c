use Rattle.std.proofs.Common.{arith}
use Rattle.wg_rows.specs.Runs.{Bytes}
use Rattle.wg_rows.specs.Uses.{Read}
use Rattle.wg_cbtrack.proofs.Placing.{leaves_on}
use Rattle.wg_cbtrack.proofs.placed.leave_in.Goals as goal

pub leave_one-requires-clause-room : goal.leave_one-requires-clause-room
leave_one-requires-clause-room c =
    let on = leaves_on c.args.accesses.now c.args.rows.now.items c.loop-access.rows.items c.loop-access.rows.items c.loop-access.access-index (Bytes 0 0 0, Read) c.loop-access-test.true c.loop-access.invariant.0 c.loop-access.invariant.1 in
    omega (arith, on.fewer, c.loop-access.invariant.2)

pub loop-access-preserved : goal.loop-access-preserved
loop-access-preserved c =
    let on = leaves_on c.args.accesses.now c.args.rows.now.items c.loop-access.rows.items c.leave_one.new.rows.items c.loop-access.access-index _ c.loop-access-test.true c.loop-access.invariant.0 c.loop-access.invariant.1 in
    let all = on.on c.leave_one.ensures.items in
    (all.0, all.1, omega (arith, on.fewer, c.loop-access.invariant.2, c.leave_one.ensures.len, c.leave_one.ensures.capacity))
