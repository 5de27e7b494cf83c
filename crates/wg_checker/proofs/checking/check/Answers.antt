use Rattle.wg_checker.proofs.Whole.{checks_all}
use Rattle.wg_checker.proofs.checking.check.Goals as goal

pub returns-in-Ok-clause-checks : goal.returns-in-Ok-clause-checks
returns-in-Ok-clause-checks g c =
    checks_all (record { old = g.R.Source.left c.args.source.now; new = g.R.Source.left c.read_all.new.source; before = g.R.Source.faults c.args.source.now; after = g.R.Source.faults c.read_all.new.source })
    (record { old = g.W.Sink.taken c.args.sink.now; new = g.W.Sink.taken c.answer.new.sink; before = g.W.Sink.faults c.args.sink.now; after = g.W.Sink.faults c.answer.new.sink })
    c.in-Ok.bytes.items c.answer.result c.in-Ok.ensures.all (rw c.deref.ensures.value at c.answer.ensures)
