use Rattle.std.proofs.Common.{rules, arith, ◌∙◌, ◌<◌, ◌≡◌, get_or, ap, length}
use Rattle.wg_player.proofs.Adding.{phase_more}
use Rattle.wg_player.proofs.phase.play_phases.Goals as goal

pub loop-index-preserved : goal.loop-index-preserved
loop-index-preserved g c = let inv = c.loop-index.invariant in let lock = c.args.device.now.lock in let phases = c.args.phases.now in
    let long = c.loop-index.passes.ok.0 in let after = c.in_ok-passes.passes.ok.0 in let all = inv.1 in let some = lock.some_caller in
    let lanes = c.as_slice.result.now in let i = c.loop-index.index in
    let lt : i < length phases = search rules in
    let is : lanes ≡ get_or phases i lanes = c.as_slice.ensures ∙ (search rules) in
    let few = c.requires.few i lanes lt in let same = ap length is in
    let m = phase_more lock phases i lanes c.loop-index.objects.items c.play_phase.new.objects.items inv.0 c.loop-index.passes.items c.in_ok-passes.passes.items c.requires.fresh
    (omega arith) (omega (arith, few, same)) (omega arith) inv.2 inv.3 c.in_ok-passes.ensures.ran lt is in
    (m.0, omega (arith, m.1), m.2, m.3)
