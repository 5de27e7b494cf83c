use Rattle.wg_print.proofs.PrintingLemmas.{rest_written}
use Rattle.wg_print.proofs.printing.Out.finish.Goals as goal

pub returns : goal.returns
returns g c = λ start text fresh added.
    let w = c.write_all.ensures in
    rest_written start _ text _ _ _ fresh added w.later (rw c.as_slice.ensures at w.ok) (rw c.as_slice.ensures at w.part) w.cause
