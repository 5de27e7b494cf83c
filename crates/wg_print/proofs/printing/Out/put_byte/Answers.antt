use Rattle.wg_print.proofs.PrintingLemmas.{puts_then}
use Rattle.wg_print.proofs.printing.Out.put_byte.Goals as goal

pub returns-clause-text : goal.returns-clause-text
returns-clause-text g c = puts_then _ _ _ _ _ c.make_room.ensures.text c.hold.ensures.text
