use Rattle.std.proofs.Common.{◌≡◌, take}
use Rattle.std.specs.List.{flat_map}
use Rattle.wg_print.specs.Printing.{Puts}
use Rattle.wg_print.specs.Seen.{seen, reference}
use Rattle.wg_print.specs.Items.{use_text}
use Rattle.wg_print.proofs.items.put_uses.Given as goal

abbrev pub invariant-loop-part : goal.invariant-loop-part
invariant-loop-part g l = record {
  same_reference : reference l.out ≡ reference l.fn.out;
  text : Puts (seen g.W.Sink.taken g.W.Sink.faults l.fn.out) (seen g.W.Sink.taken g.W.Sink.faults l.out) (flat_map use_text (take l.part-index l.uses));
}
