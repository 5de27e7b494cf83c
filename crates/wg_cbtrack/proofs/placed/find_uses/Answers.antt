use Rattle.std.proofs.Common.{sym, ◌∙◌}
use Rattle.wg_cbtrack.specs.Alone.{FindsAll}
use Rattle.wg_cbtrack.proofs.Spreading.{spread_told}
use Rattle.wg_cbtrack.proofs.Opening.{puts_alone}
use Rattle.wg_cbtrack.proofs.placed.find_uses.Goals as goal

pub returns-in-Some-clause-alone : goal.returns-in-Some-clause-alone
returns-in-Some-clause-alone c = λ t.
    let all : FindsAll c.args.ends.now c.args.starts.now c.args.last.now c.args.uses.now c.in-Some.found.changes.items c.in-Some.found.first.items c.in-Some.found.opened.items = rw c.in-Some.is at c.in_ok-found.ensures in
    puts_alone c.args.ends.now c.args.starts.now c.args.last.now c.args.uses.now c.in-Some.found.changes.items c.in-Some.found.first.items c.in-Some.found.opened.items (spread_told c.args.uses.now (sym c.are_spread.ensures ∙ c.if-are_spread.true)) all
