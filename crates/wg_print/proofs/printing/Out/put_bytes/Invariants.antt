use Rattle.std.proofs.Common.{◌≡◌, take}
use Rattle.wg_print.specs.Printing.{Puts}
use Rattle.wg_print.specs.Seen.{seen, reference}
use Rattle.wg_print.proofs.printing.Out.put_bytes.Given as goal

abbrev pub invariant-loop-byte : goal.invariant-loop-byte
invariant-loop-byte g l = record {
  same_reference : reference l.self ≡ reference l.fn.self;
  text : Puts (seen g.W.Sink.taken g.W.Sink.faults l.fn.self) (seen g.W.Sink.taken g.W.Sink.faults l.self) (take l.byte-index l.text);
}
