use Rattle.std.proofs.Common.{◌≡◌, ◌+◌, ◌-◌, ◌*◌, ℕ, suc, List, [], ◌++◌, ap, ap₂, sym, ◌∙◌, arith, append_assoc}
use Rattle.std.proofs.lemmas.List.{append-nil}
use Rattle.wg_script.specs.CallOf.{BoundCall}
use Rattle.wg_gen.specs.declared.draws.Spot.{Spot}
use Rattle.wg_gen.specs.Generator.{next, spot_at, spots, iteration, iterations, lane_of}
use Rattle.wg_gen.proofs.calls.lane_calls.Goals as goal

-- one more iteration is pushed
one_more : (calls new all : List BoundCall) (slot then_slot n m state after : ℕ) (spot : Spot) → n ≡ suc m → then_slot ≡ slot + 2 → spot ≡ spot_at state → after ≡ next (next (next state))
    → new ≡ calls ++ iteration slot spot → calls ++ iterations slot (spots n state) ≡ all → new ++ iterations then_slot (spots m after) ≡ all
one_more calls new all slot then_slot n m state after spot less is_slot is_spot is_after is_new was =
    ap₂ (λ (xs : List BoundCall) (k : ℕ). xs ++ iterations k (spots m after)) is_new is_slot
    ∙ append_assoc calls (iteration slot spot) (iterations (slot + 2) (spots m after))
    ∙ ap₂ (λ (s : Spot) (k : ℕ). calls ++ (iteration slot s ++ iterations (slot + 2) (spots m k))) is_spot is_after
    ∙ sym (ap (λ (k : ℕ). calls ++ iterations slot (spots k state)) less)
    ∙ was

-- at first there is no call, and all iterations are still to come
none_yet : (calls : List BoundCall) (slot first n count state start : ℕ) → calls ≡ [] → slot ≡ first → n ≡ count → state ≡ start → calls ++ iterations slot (spots n state) ≡ iterations first (spots count start)
none_yet calls slot first n count state start empty is_slot is_n is_state =
    ap (λ (xs : List BoundCall). xs ++ iterations slot (spots n state)) empty
    ∙ ap₂ (λ (k j : ℕ). iterations k (spots j state)) is_slot is_n
    ∙ ap (λ (k : ℕ). iterations first (spots count k)) is_state

pub loop-made-init : goal.loop-made-init
loop-made-init c =
    let count : ℕ = c.args.count in
    let before : ℕ = c.args.lane * count in
    record {
      range = omega (arith, c.from.ensures, c.requires);
      calls = none_yet c.new-calls.result (8 + 2 * (before + 0)) (8 + 2 * before) (count - 0) count (c.from.result + 1) (c.args.lane + 1) c.new-calls.ensures (omega arith) (omega arith)
          (ap (λ (k : ℕ). k + 1) c.from.ensures);
    }

pub loop-made-preserved : goal.loop-made-preserved
loop-made-preserved c =
    let count : ℕ = c.args.count in
    let made : ℕ = c.loop-made.made in
    let before : ℕ = c.args.lane * count in
    let less : count - made ≡ suc (count - (made + 1)) = omega (arith, c.loop-made-test.true) in
    record {
      range = c.spot-spot.ensures.range;
      calls = one_more c.loop-made.calls c.push_iteration.new.calls (lane_of count c.args.lane) (8 + 2 * (before + made)) (8 + 2 * (before + (made + 1))) (count - made) (count - (made + 1)) c.loop-made.draws.state
          c.spot-spot.new.self.state c.spot-spot.result less (omega arith) c.spot-spot.ensures.spot c.spot-spot.ensures.state c.in_ok-push_iteration.ensures c.loop-made.invariant.calls;
    }

pub returns : goal.returns
returns c =
    let made : ℕ = c.loop-made.made in
    let none : c.args.count - made ≡ 0 = omega (arith, c.loop-made-test.false) in
    sym (append-nil c.loop-made.calls)
    ∙ sym (ap (λ (k : ℕ). c.loop-made.calls ++ iterations (8 + 2 * (c.args.lane * c.args.count + made)) (spots k c.loop-made.draws.state)) none)
    ∙ c.loop-made.invariant.calls
