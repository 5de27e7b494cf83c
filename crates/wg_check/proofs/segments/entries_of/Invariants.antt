use Rattle.std.proofs.Common.{◌≡◌, map, take}
use Rattle.wg_check.specs.Digests.{Run}
use Rattle.wg_check.proofs.segments.entries_of.Given as goal

abbrev pub invariant-loop-event : goal.invariant-loop-event
invariant-loop-event l = l.entries.items ≡ map Run (take l.event-index l.events)
