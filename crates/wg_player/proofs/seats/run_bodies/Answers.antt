use Rattle.std.proofs.Common.{◌≡◌, Some, slice_get, length, ap, sym, subst, arith}
use Rattle.wg_player.proofs.Played.{whole_again}
use Rattle.wg_player.proofs.seats.run_bodies.Goals as goal

pub returns-clause-each : goal.returns-clause-each
returns-clause-each g c = λ i b at.
    let same = c.as_mut_slice.ensures.value in
    let r = c.run_all.ensures.each i b (subst (λ l. slice_get l i ≡ Some b) (sym same) at) in
    let long = c.args.bodies.now.ok.0 in let count = c.run_all.ensures.count in let lent = ap length same in
    (r.0, subst (λ l. slice_get l i ≡ Some r.0) (sym (whole_again c.run_all.new.bodies c.args.bodies.now.items c.args.bodies.now.len (omega arith) (omega arith))) r.1, r.2)
