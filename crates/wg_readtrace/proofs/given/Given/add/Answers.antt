use Rattle.wg_readtrace.specs.Given.{ends_of}
use Rattle.wg_readtrace.proofs.Ends.{one_more_at}
use Rattle.wg_readtrace.proofs.given.Given.add.Goals as goal

pub returns : goal.returns
returns c = λ rows t fresh.
    one_more_at (ends_of c.args.self.now.ends) (ends_of c.insert.new.self) rows c.args.run c.line_of.result c.cell_lo.result c.cell_hi.result c.line_of.ensures c.cell_lo.ensures c.cell_hi.ensures t c.requires fresh
    (λ q. c.in_ok-insert.ensures.updates.0 q)
