use Rattle.std.proofs.Common.{◌≡◌, ◌-◌, ◌++◌}
use Rattle.wg_gen.specs.Generator.{lanes_from}
use Rattle.wg_gen.proofs.calls.lanes.Given as goal

-- The lanes that were pushed, and those that are still to come, make the whole phase.
abbrev pub invariant-loop-lane : goal.invariant-loop-lane
invariant-loop-lane l = l.phase ++ lanes_from l.count l.lane (l.lanes - l.lane) ≡ lanes_from l.count 0 l.lanes
