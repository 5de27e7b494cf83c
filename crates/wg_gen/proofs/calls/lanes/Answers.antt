use Rattle.std.proofs.Common.{◌≡◌, ◌+◌, ◌-◌, ℕ, suc, List, [], ◌∷◌, ◌++◌, ap, sym, ◌∙◌, arith, append_assoc}
use Rattle.wg_script.specs.CallOf.{BoundCall}
use Rattle.wg_gen.specs.Generator.{lane_of, lanes_from}
use Rattle.wg_gen.proofs.calls.lanes.Goals as goal

-- one more lane is pushed
one_more : (phase new all : List (List BoundCall)) (calls : List BoundCall) (count lane after n m : ℕ) → n ≡ suc m → after ≡ suc lane → calls ≡ lane_of count lane → new ≡ phase ++ calls ∷ []
    → phase ++ lanes_from count lane n ≡ all → new ++ lanes_from count after m ≡ all
one_more phase new all calls count lane after n m less is_after is_calls is_new was =
    ap (λ (xs : List (List BoundCall)). xs ++ lanes_from count after m) is_new
    ∙ append_assoc phase (calls ∷ []) (lanes_from count after m)
    ∙ ap (λ (xs : List BoundCall). phase ++ xs ∷ lanes_from count after m) is_calls
    ∙ ap (λ (k : ℕ). phase ++ lane_of count lane ∷ lanes_from count k m) is_after
    ∙ sym (ap (λ (k : ℕ). phase ++ lanes_from count lane k) less)
    ∙ was

pub loop-lane-preserved : goal.loop-lane-preserved
loop-lane-preserved c =
    let lane : ℕ = c.loop-lane.lane in
    let less : c.args.lanes - lane ≡ suc (c.args.lanes - (lane + 1)) = omega (arith, c.loop-lane-test.true) in
    one_more c.loop-lane.phase c.push.new.self (lanes_from c.args.count 0 c.args.lanes) c.in_ok-lane_calls.field-0 c.args.count lane (lane + 1) (c.args.lanes - lane) (c.args.lanes - (lane + 1)) less (omega arith)
    c.in_ok-lane_calls.ensures c.in_ok-push.ensures.ok c.loop-lane.invariant
