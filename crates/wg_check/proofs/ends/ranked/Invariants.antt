use Rattle.std.proofs.Common.{◌≡◌, map, take}
use Rattle.wg_check.specs.Segments.{ranked}
use Rattle.wg_check.proofs.ends.ranked.Given as goal

abbrev pub invariant-loop-event : goal.invariant-loop-event
invariant-loop-event l = l.segments.items ≡ map (ranked l.ends) (take l.event-index l.events)
