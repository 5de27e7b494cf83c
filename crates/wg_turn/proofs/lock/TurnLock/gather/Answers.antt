use Rattle.std.proofs.Common.{◌≡◌, ◌++◌, ◌∷◌, [], ◌+◌, vec_len, option_to_list, ap, subst, ◌∙◌, arith, append_assoc}
use Rattle.wg_turn.specs.Passes.{IsGathered, AreInOrder}
use Rattle.wg_turn.proofs.Gathering.{in_order_at, gathered_one, gathered_more}
use Rattle.wg_turn.proofs.lock.TurnLock.gather.Goals as goal

pub loop-pass-init : goal.loop-pass-init
loop-pass-init g c = let lock = c.args.self.now in let p = c.unwrap-seat.result in let left = c.pop.new.self in
    let is = c.pop.ensures.items ∙ ap (λ o. left.items ++ option_to_list o) c.unwrap-seat.ensures in let long = left.ok.0 in
    let there = in_order_at lock 0 (vec_len left) left.items p [] (omega arith) (subst (AreInOrder lock 0) is c.requires.in_order) in
    (p ∷ [], is, gathered_one lock (vec_len left) p there.0 there.1)

pub take_in-requires-clause-seat : goal.take_in-requires-clause-seat
take_in-requires-clause-seat g c = let lock = c.args.self.now in let p = c.in-Some.pass in let left = c.pop-in-loop-pass.new.self in let inv = c.loop-pass.invariant in
    let is = inv.1 ∙ ap (λ xs. xs ++ inv.0) c.in-Some.ensures.items ∙ append_assoc left.items (p ∷ []) inv.0 in let long = left.ok.0 in
    let there = in_order_at lock 0 (vec_len left) left.items p inv.0 (omega arith) (subst (AreInOrder lock 0) is c.requires.in_order) in (there.0.of, there.0.idle, there.0.one)

pub take_in-requires-clause-next : goal.take_in-requires-clause-next
take_in-requires-clause-next g c = let lock = c.args.self.now in let p = c.in-Some.pass in let left = c.pop-in-loop-pass.new.self in let inv = c.loop-pass.invariant in
    let is = inv.1 ∙ ap (λ xs. xs ++ inv.0) c.in-Some.ensures.items ∙ append_assoc left.items (p ∷ []) inv.0 in let long = left.ok.0 in
    let there = in_order_at lock 0 (vec_len left) left.items p inv.0 (omega arith) (subst (AreInOrder lock 0) is c.requires.in_order) in
    let a = inv.2.numbered in let b = there.0.numbered in let d = there.1 in let e = c.in-Some.ensures.cases in omega arith

pub loop-pass-preserved : goal.loop-pass-preserved
loop-pass-preserved g c = let lock = c.args.self.now in let p = c.in-Some.pass in let left = c.pop-in-loop-pass.new.self in let inv = c.loop-pass.invariant in
    let is = inv.1 ∙ ap (λ xs. xs ++ inv.0) c.in-Some.ensures.items ∙ append_assoc left.items (p ∷ []) inv.0 in let long = left.ok.0 in
    let there = in_order_at lock 0 (vec_len left) left.items p inv.0 (omega arith) (subst (AreInOrder lock 0) is c.requires.in_order) in
    let took = c.take_in.ensures in let fewer : vec_len c.loop-pass.passes ≡ vec_len left + 1 = (let e = c.in-Some.ensures.cases in omega arith) in
    (p ∷ inv.0, is, gathered_more lock (vec_len left) p inv.0 c.loop-pass.seat c.take_in.new.seat there.0 there.1 (subst (λ k. IsGathered lock k inv.0 c.loop-pass.seat) fewer inv.2) took.seat.0 took.seat.1 took.seat.2 took.seat.3 took.seat.4 took.owns took.seen.0 took.seen.1)
