use Rattle.std.proofs.Common.{arith}
use Rattle.wg_print.specs.Pieces.{piece_text}
use Rattle.wg_print.proofs.PrintingLemmas.{puts_item}
use Rattle.wg_print.proofs.pieces.put_all.Goals as goal

pub loop-piece-preserved : goal.loop-piece-preserved
loop-piece-preserved g c = record {
  same_reference = cc;
  text = puts_item piece_text _ _ _ c.args.pieces.now c.loop-piece.piece-index _ (omega arith) c.loop-piece.invariant.text c.put_piece.ensures.text;
}
