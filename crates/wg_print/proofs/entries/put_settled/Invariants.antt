use Rattle.std.proofs.Common.{◌≡◌, take}
use Rattle.wg_print.specs.Printing.{Puts}
use Rattle.wg_print.specs.Seen.{seen, reference}
use Rattle.wg_print.specs.Entries.{settled_text}
use Rattle.wg_print.proofs.entries.put_settled.Given as goal

abbrev pub invariant-loop-settlement : goal.invariant-loop-settlement
invariant-loop-settlement g l = record {
  same_reference : reference l.out ≡ reference l.fn.out;
  text : Puts (seen g.W.Sink.taken g.W.Sink.faults l.fn.out) (seen g.W.Sink.taken g.W.Sink.faults l.out) (settled_text (take l.settlement-index l.settlements));
}
