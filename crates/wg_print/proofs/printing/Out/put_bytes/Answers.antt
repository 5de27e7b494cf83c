use Rattle.std.proofs.Common.{arith}
use Rattle.wg_print.proofs.PrintingLemmas.{puts_next}
use Rattle.wg_print.proofs.printing.Out.put_bytes.Goals as goal

pub loop-byte-preserved : goal.loop-byte-preserved
loop-byte-preserved g c = record {
  same_reference = cc;
  text = puts_next _ _ _ _ _ (omega arith) c.loop-byte.invariant.text c.put_byte.ensures.text;
}
