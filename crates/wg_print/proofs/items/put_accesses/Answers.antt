use Rattle.std.proofs.Common.{arith}
use Rattle.wg_print.specs.Items.{access_text}
use Rattle.wg_print.proofs.PrintingLemmas.{puts_item}
use Rattle.wg_print.proofs.items.put_accesses.Goals as goal

pub loop-cells-preserved : goal.loop-cells-preserved
loop-cells-preserved g c = record {
  same_reference = cc;
  text = puts_item access_text _ _ _ c.args.accesses.now c.loop-cells.cells-index _ (omega arith) c.loop-cells.invariant.text c.put_access.ensures.text;
}
