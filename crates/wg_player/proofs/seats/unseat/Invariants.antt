use Rattle.std.proofs.Common.{◌≡◌, ◌++◌, ◌+◌, ◌≤◌, All, map, flat_map, reverse, true, vec_len, vec_capacity}
use Rattle.wg_player.proofs.seats.unseat.Given as goal

abbrev pub invariant-loop-body : goal.invariant-loop-body
invariant-loop-body g l = (map (λ b. b.pass) (reverse l.fn.bodies.items) ≡ l.passes.items ++ map (λ b. b.pass) (reverse l.bodies.items)) ×
    (flat_map (λ b. b.seen.own.items) (reverse l.fn.bodies.items) ≡ l.made.items ++ flat_map (λ b. b.seen.own.items) (reverse l.bodies.items)) ×
    (All (λ b. b.through ≡ true) (reverse l.bodies.items) → All (λ b. b.through ≡ true) (reverse l.fn.bodies.items)) ×
    (vec_len l.passes + vec_len l.bodies ≤ vec_capacity l.passes)

abbrev pub decreases-loop-body : goal.decreases-loop-body
decreases-loop-body g l = vec_len l.bodies
