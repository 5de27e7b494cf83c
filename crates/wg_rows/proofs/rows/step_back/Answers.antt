use Rattle.std.proofs.Common.{◌∙◌}
use Rattle.wg_rows.proofs.Chained.{without_last, moved}
use Rattle.wg_rows.proofs.rows.step_back.Goals as goal

pub loop-last-preserved : goal.loop-last-preserved
loop-last-preserved g c = (without_last g.R.Run.sort c.loop-last.front.items c.pop.new.self.items c.in-Some.last c.in-Some.ensures.items c.loop-last.invariant.0, moved c.loop-last.front.items c.pop.new.self.items c.loop-last.back.items c.push-in-Some.new.self.items c.in-Some.last c.in-Some.ensures.items c.in_ok-push-2.ensures.items ∙ c.loop-last.invariant.1)
