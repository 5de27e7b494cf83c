use Rattle.std.proofs.Common.{arith}
use Rattle.wg_print.specs.Items.{use_text}
use Rattle.wg_print.proofs.PrintingLemmas.{puts_item}
use Rattle.wg_print.proofs.items.put_uses.Goals as goal

pub loop-part-preserved : goal.loop-part-preserved
loop-part-preserved g c = record {
  same_reference = cc;
  text = puts_item use_text _ _ _ c.args.uses.now c.loop-part.part-index _ (omega arith) c.loop-part.invariant.text c.put_use.ensures.text;
}
