use Rattle.std.proofs.Common.{rules, ◌<◌, ◌≤◌, length, arith}
use Rattle.wg_inplace.proofs.Placing.{replaced}
use Rattle.wg_inplace.proofs.place.replace.Goals as goal

pub returns-clause-items : goal.returns-clause-items
returns-clause-items g c =
    let less : c.args.from < c.args.to = omega (arith, c.requires.order, c.if-from-to.false) in
    let within : c.args.to ≤ length c.args.rows.now.items = search rules in
    replaced c.args.rows.now.items c.set_one.new.rows.items c.move_back.new.rows.items c.args.from c.args.to c.args.row less within c.set_one.ensures.items c.move_back.ensures.before c.move_back.ensures.behind
