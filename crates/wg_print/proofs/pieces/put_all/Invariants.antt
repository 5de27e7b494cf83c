use Rattle.std.proofs.Common.{◌≡◌, take}
use Rattle.wg_print.specs.Printing.{Puts}
use Rattle.wg_print.specs.Seen.{seen, reference}
use Rattle.wg_print.specs.Pieces.{pieces_text}
use Rattle.wg_print.proofs.pieces.put_all.Given as goal

abbrev pub invariant-loop-piece : goal.invariant-loop-piece
invariant-loop-piece g l = record {
  same_reference : reference l.out ≡ reference l.fn.out;
  text : Puts (seen g.W.Sink.taken g.W.Sink.faults l.fn.out) (seen g.W.Sink.taken g.W.Sink.faults l.out) (pieces_text (take l.piece-index l.pieces));
}
