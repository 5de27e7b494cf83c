use Rattle.std.proofs.Common.{refl}
use Rattle.wg_print.proofs.PrintingLemmas.{rest_written, stopped_written}
use Rattle.wg_print.proofs.printing.Out.close.Goals as goal

pub returns-then-failed : goal.returns-then-failed
returns-then-failed g c = λ start text fresh puts. stopped_written start _ text _ refl fresh (puts.stopped c.if-failed.true fresh.failed)

pub returns : goal.returns
returns g c = λ start text fresh puts.
    let w = c.write_all.ensures in
    rest_written start _ text _ _ _ fresh (puts.ok c.if-failed.false) w.later (rw c.as_slice-rest.ensures at w.ok) (rw c.as_slice-rest.ensures at w.part) w.cause
