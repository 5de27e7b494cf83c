use Rattle.std.proofs.Common.{arith}
use Rattle.std.proofs.lemmas.Grind.{common_steps}
use Rattle.wg_trace.proofs.Beginnings.{begins_then}
use Rattle.wg_types.proofs.render.gather_colors.Goals as goal

pub returns-in_err-gather_color-clause-begins : goal.returns-in_err-gather_color-clause-begins
returns-in_err-gather_color-clause-begins g c = begins_then _ _ _ c.in_err-gather_color.ensures.begins c.loop-color.invariant.1

pub loop-color-preserved : goal.loop-color-preserved
loop-color-preserved g c =
    let held = c.loop-color.invariant.0 in
    let adds = c.in_ok-gather_color.ensures.gathered in
    (grind (arith, common_steps), begins_then _ _ _ c.in_ok-gather_color.ensures.begins c.loop-color.invariant.1)

pub returns-clause-gathered : goal.returns-clause-gathered
returns-clause-gathered g c =
    let held = c.loop-color.invariant.0 in
    grind (arith, common_steps)
