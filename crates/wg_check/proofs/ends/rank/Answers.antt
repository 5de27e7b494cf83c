use Rattle.std.proofs.Common.{arith, ◌≤◌, ◌+◌, ◌-◌, ◌/◌, sym, ◌∙◌}
use Rattle.wg_check.specs.Segments.{rank}
use Rattle.wg_check.proofs.Sorting.{rank_below, rank_above}
use Rattle.wg_check.proofs.ends.rank.Goals as goal

pub loop-lo-preserved-then-is_before : goal.loop-lo-preserved-then-is_before
loop-lo-preserved-then-is_before c =
    let held = c.loop-lo.invariant in
    let most : rank c.args.ends.now c.args.key.now ≤ c.loop-lo.lo + (c.loop-lo.hi - c.loop-lo.lo) / 2 = rank_below c.args.ends.now c.args.key.now (c.loop-lo.lo + (c.loop-lo.hi - c.loop-lo.lo) / 2) _ c.requires (omega (arith, held, c.loop-lo-test.true)) (sym c.is_before.ensures ∙ c.if-is_before.true) in
    (held.0, most, omega arith, omega (arith, held, c.loop-lo-test.true))

pub loop-lo-preserved : goal.loop-lo-preserved
loop-lo-preserved c =
    let held = c.loop-lo.invariant in
    let least : c.loop-lo.lo + (c.loop-lo.hi - c.loop-lo.lo) / 2 + 1 ≤ rank c.args.ends.now c.args.key.now = omega (arith, rank_above c.args.ends.now c.args.key.now (c.loop-lo.lo + (c.loop-lo.hi - c.loop-lo.lo) / 2) _ c.requires (omega (arith, held, c.loop-lo-test.true)) (sym c.is_before.ensures ∙ c.if-is_before.false)) in
    (least, held.1, omega (arith, held, c.loop-lo-test.true), held.3)
