use Rattle.std.proofs.Common.{rules, ◌≡◌, ◌∙◌, ◌<◌, arith, length, get_or, true}
use Rattle.std.proofs.lemmas.List.{take-append-drop}
use Rattle.wg_rows.specs.Chained.{ends_before}
use Rattle.wg_inplace.proofs.Placing.{CutsOn, chained_drop, cut_from, cut_ends, cuts_on}
use Rattle.wg_inplace.proofs.place.cut_in.Goals as goal

pub loop-i-init : goal.loop-i-init
loop-i-init g c = (omega arith, search (rules, c.requires.bound), cut_from g.R.Run.sort c.requires.whole c.args.run c.args.rows.now.items c.args.from c.requires.before, chained_drop g.R.Run.sort c.args.from c.args.rows.now.items c.requires.chained, omega arith, omega arith)

pub returns-then-ends_before-clause-items : goal.returns-then-ends_before-clause-items
returns-then-ends_before-clause-items g c =
    let behind : ends_before g.R.Run.sort c.args.run (get_or c.loop-i.rows.items c.loop-i.i c.index.result.now).0 ≡ true = search rules in
    let below : c.loop-i.i < length c.loop-i.rows.items = search rules in
    search (rules, cut_ends g.R.Run.sort c.requires.whole c.args.run c.loop-i.rows.items c.loop-i.i c.index.result.now c.loop-i.invariant.3 below behind, c.loop-i.invariant.2, take-append-drop c.loop-i.i c.loop-i.rows.items)

pub returns-then-count-gt1-clause-items : goal.returns-then-count-gt1-clause-items
returns-then-count-gt1-clause-items g c =
    let below : c.loop-i.i < length c.loop-i.rows.items = search rules in
    let on : CutsOn g.R.Run.sort c.args.run c.loop-i.rows.items c.cut_one-count.new.rows.items c.loop-i.i c.cut_one-count.result = cuts_on g.R.Run.sort c.requires.whole c.args.run c.loop-i.rows.items c.cut_one-count.new.rows.items c.loop-i.i c.cut_one-count.result c.index.result.now c.requires.full c.loop-i.invariant.3 below (c.cut_one-count.ensures.items c.index.result.now) (c.cut_one-count.ensures.count c.index.result.now) in
    on.ended c.if-count-gt1.true ∙ c.loop-i.invariant.2

pub loop-i-preserved : goal.loop-i-preserved
loop-i-preserved g c =
    let below : c.loop-i.i < length c.loop-i.rows.items = search rules in
    let on : CutsOn g.R.Run.sort c.args.run c.loop-i.rows.items c.cut_one-count.new.rows.items c.loop-i.i c.cut_one-count.result = cuts_on g.R.Run.sort c.requires.whole c.args.run c.loop-i.rows.items c.cut_one-count.new.rows.items c.loop-i.i c.cut_one-count.result c.index.result.now c.requires.full c.loop-i.invariant.3 below (c.cut_one-count.ensures.items c.index.result.now) (c.cut_one-count.ensures.count c.index.result.now) in
    (omega (arith, c.loop-i.invariant.0), omega (arith, on.len, below), on.is ∙ c.loop-i.invariant.2, on.chained, search (rules, on.len, c.if-count-gt1.false, c.loop-i.invariant.4), search (rules, c.cut_one-count.ensures.capacity, c.loop-i.invariant.5))
