use Rattle.std.proofs.Common.{rules, arith, ◌∙◌, sym}
use Rattle.wg_readtrace.proofs.words.set_bits.Goals as goal
use Rattle.wg_readtrace.proofs.Sets.{at_plus}

pub loop-i-preserved : goal.loop-i-preserved
loop-i-preserved c = (at_plus c.args.word.now c.loop-i.set c.in_ok-set.set c.loop-i.start c.loop-i.i (search rules) (search rules) (sym c.in_ok-set.ensures.value) ∙ c.loop-i.invariant.0, omega arith, c.in_ok-set.ensures.small)
