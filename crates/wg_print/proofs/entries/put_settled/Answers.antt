use Rattle.std.proofs.Common.{arith}
use Rattle.wg_print.specs.Entries.{settlement_text}
use Rattle.wg_print.proofs.PrintingLemmas.{puts_item}
use Rattle.wg_print.proofs.entries.put_settled.Goals as goal

pub loop-settlement-preserved : goal.loop-settlement-preserved
loop-settlement-preserved g c = record {
  same_reference = cc;
  text = puts_item settlement_text _ _ _ c.args.settlements.now c.loop-settlement.settlement-index _ (omega arith) c.loop-settlement.invariant.text c.put_settlement.ensures.text;
}
