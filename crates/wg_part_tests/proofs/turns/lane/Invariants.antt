use Rattle.std.proofs.Common.{◌≡◌}
use Rattle.wg_turn.specs.Passes.{IsPassOf}
use Rattle.wg_part_tests.proofs.turns.lane.Given as goal

abbrev pub invariant-loop : goal.invariant-loop
invariant-loop g l = IsPassOf l.lock l.pass × (l.pass.number ≡ l.initial.pass.number) × (l.pass.calls ≡ l.counter)
