use Rattle.std.proofs.Common.{◌≡◌, ◌++◌, ◌+◌, ◌≤◌, List, All, reverse, vec_len, vec_capacity}
use Rattle.wg_turn.specs.Passes.{IsPassOf}
use Rattle.wg_player.specs.Seats.{BodiesAreSeated}
use Rattle.wg_player.proofs.seats.seat.Given as goal

abbrev pub invariant-loop-pass : goal.invariant-loop-pass
invariant-loop-pass g l = (done : List _) × (l.fn.passes.items ≡ l.passes.items ++ done) × All (λ p. IsPassOf l.device.lock p) l.passes.items ×
    BodiesAreSeated l.device l.lanes l.objects done (reverse l.bodies.items) × (vec_len l.bodies + vec_len l.passes ≤ vec_capacity l.bodies)

abbrev pub decreases-loop-pass : goal.decreases-loop-pass
decreases-loop-pass g l = vec_len l.passes
