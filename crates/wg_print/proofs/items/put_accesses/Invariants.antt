use Rattle.std.proofs.Common.{◌≡◌, take}
use Rattle.std.specs.List.{flat_map}
use Rattle.wg_print.specs.Printing.{Puts}
use Rattle.wg_print.specs.Seen.{seen, reference}
use Rattle.wg_print.specs.Items.{access_text}
use Rattle.wg_print.proofs.items.put_accesses.Given as goal

abbrev pub invariant-loop-cells : goal.invariant-loop-cells
invariant-loop-cells g l = record {
  same_reference : reference l.out ≡ reference l.fn.out;
  text : Puts (seen g.W.Sink.taken g.W.Sink.faults l.fn.out) (seen g.W.Sink.taken g.W.Sink.faults l.out) (flat_map access_text (take l.cells-index l.accesses));
}
