use Rattle.std.proofs.Common.{◌≡◌, ◌+◌, ◌-◌, ◌*◌, ◌<◌, ◌++◌}
use Rattle.wg_gen.specs.Generator.{spots, iterations, lane_of}
use Rattle.wg_gen.proofs.calls.lane_calls.Given as goal

-- What was pushed, and the iterations that are still to come, make the whole lane.
abbrev pub invariant-loop-made : goal.invariant-loop-made
invariant-loop-made l = record {
  range : l.draws.state < 2147483648;
  calls : l.calls ++ iterations (8 + 2 * (l.lane * l.count + l.made)) (spots (l.count - l.made) l.draws.state) ≡ lane_of l.count l.lane;
}
