use Rattle.std.proofs.Common.{subst}
use mathlib.Core.List.{IsPrefix}
use Rattle.wg_turn.specs.Passes.{seen_since, opened_with}
use Rattle.wg_turn.proofs.Lists.{of_both, prefix_under, prefix_trans}
use Rattle.wg_turn.proofs.lock.TurnLock.meet.Goals as goal

pub returns-clause-seen : goal.returns-clause-seen
returns-clause-seen g c =
    let base = g.S.Logged.history (opened_with c.args.self.now) in
    let p = seen_since c.args.pass.now in let o' = seen_since c.tell.new.to in let p' = seen_since c.tell-2.new.to in
    let two = of_both o' (seen_since c.tell.new.from) p' c.tell-2.ensures.seen c.tell-2.ensures.both in
    prefix_under base p p' (subst (λ l. IsPrefix l p') c.tell.ensures.from.2 two.1)

pub returns-clause-learned : goal.returns-clause-learned
returns-clause-learned g c =
    let base = g.S.Logged.history (opened_with c.args.self.now) in
    let p = seen_since c.args.pass.now in let o = seen_since c.args.other.now in let o' = seen_since c.tell.new.to in let p' = seen_since c.tell-2.new.to in
    let one = of_both p o o' c.tell.ensures.seen c.tell.ensures.both in
    let two = of_both o' (seen_since c.tell.new.from) p' c.tell-2.ensures.seen c.tell-2.ensures.both in
    prefix_under base o p' (prefix_trans o o' p' one.1 two.0)
