use Rattle.std.proofs.Common.{◌≡◌, ℕ, List, [], length, arith, subst}
use Rattle.wg_script.specs.CallOf.{BoundCall}
use Rattle.wg_turn.specs.Closings.{entries_of, passes_of, state_of}
use Rattle.wg_device.specs.Fronts.{setup_of}
use Rattle.wg_play.specs.Play.{PlaysTo, setup_with}
use Rattle.wg_player.specs.Whole.{IsPlayedOut}
use Rattle.wg_player.proofs.PlayedOut.{at_opening, in_order, played_out}
use Rattle.wg_player.proofs.whole.play.Goals as goal

pub play_phases-requires-clause-at : goal.play_phases-requires-clause-at
play_phases-requires-clause-at g c κs within = let d = c.in_ok-device in at_opening d.device.lock 0 d.passes.items d.ensures.passes.1 d.ensures.fronts d.ensures.sound

pub close-requires-clause-in_order : goal.close-requires-clause-in_order
close-requires-clause-in_order g c = let p = c.in_ok-passes.ensures.played in in_order c.in_ok-device.device.lock 0 c.in_ok-passes.passes.items p.0 p.3

pub returns-clause-played : goal.returns-clause-played
returns-clause-played g c =
    let lock = c.in_ok-device.device.lock in let d = c.in_ok-device.ensures.device in let p = c.in_ok-passes.ensures.played in
    let ps = c.in_ok-passes.passes in let long = ps.ok.0 in let all = p.2 in let some = lock.some_caller in
    let phases = c.args.script.now.phases in
    let plays = subst (λ (l : List (List (List BoundCall))). PlaysTo (setup_of lock) l [] p.0 p.1) c.as_slice-phases.ensures p.4 in
    let out = played_out lock (setup_with c.args.script.now.budget c.args.script.now.limits) phases ps.items p.0 p.1 (state_of c.close.result) (entries_of c.close.result) (λ e. let same : 1 ≡ 0 = e in omega (arith, same)) d.0 d.1
    (omega (arith, long, all, some)) (omega (arith, long, all)) p.3 plays c.close.ensures.whole c.close.ensures.legal in
    let count : length ps.items ≡ passes_of c.close.result = omega (arith, long, c.close.ensures.callers) in
    subst (λ (k : ℕ). IsPlayedOut (setup_with c.args.script.now.budget c.args.script.now.limits) phases k (state_of c.close.result) (entries_of c.close.result)) count out
