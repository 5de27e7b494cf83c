use Rattle.std.proofs.Common.{arith}
use Rattle.wg_rows.specs.Runs.{Bytes}
use Rattle.wg_rows.specs.Uses.{Read}
use Rattle.wg_cbtrack.proofs.Placing.{wants_on}
use Rattle.wg_cbtrack.proofs.placed.want_in.Goals as goal

pub want_one-requires-clause-room_wants : goal.want_one-requires-clause-room_wants
want_one-requires-clause-room_wants c =
    let on = wants_on c.args.pieces.now c.args.wants.now.items c.loop-row.wants.items c.loop-row.wants.items c.loop-row.row-index (Bytes 0 0 0, Read) c.loop-row-test.true c.loop-row.invariant.0 c.loop-row.invariant.1 c.loop-row.invariant.2 in
    omega (arith, on.fewer, c.loop-row.invariant.4)

pub want_one-requires-clause-room_needs : goal.want_one-requires-clause-room_needs
want_one-requires-clause-room_needs c =
    let on = wants_on c.args.pieces.now c.args.wants.now.items c.loop-row.wants.items c.loop-row.wants.items c.loop-row.row-index (Bytes 0 0 0, Read) c.loop-row-test.true c.loop-row.invariant.0 c.loop-row.invariant.1 c.loop-row.invariant.2 in
    omega (arith, on.fewer, c.loop-row.invariant.5)

pub loop-row-preserved : goal.loop-row-preserved
loop-row-preserved c =
    let on = wants_on c.args.pieces.now c.args.wants.now.items c.loop-row.wants.items c.want_one.new.wants.items c.loop-row.row-index _ c.loop-row-test.true c.loop-row.invariant.0 c.loop-row.invariant.1 c.loop-row.invariant.2 in
    let all = on.on c.want_one.ensures.wants in
    (all.0, all.1, all.2, c.want_one.ensures.same, omega (arith, on.fewer, c.loop-row.invariant.4, c.want_one.ensures.len_wants, c.want_one.ensures.capacity_wants), omega (arith, on.fewer, c.loop-row.invariant.5, c.want_one.ensures.len_needs, c.want_one.ensures.capacity_needs))
