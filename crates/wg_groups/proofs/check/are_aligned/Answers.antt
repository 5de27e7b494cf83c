use Rattle.std.proofs.Common.{◌∙◌, sym}
use Rattle.wg_groups.proofs.Aligned.{too_few}
use Rattle.wg_groups.proofs.check.are_aligned.Goals as goal

pub returns-in_default : goal.returns-in_default
returns-in_default c = sym (too_few c.loop-asked.least c.loop-asked.asked-index c.args.layout.now c.loop-asked.rest.now c.loop-asked-test.true c.in_default.ensures.cases) ∙ c.loop-asked.invariant
