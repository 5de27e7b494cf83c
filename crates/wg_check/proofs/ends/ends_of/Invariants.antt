use Rattle.std.proofs.Common.{◌≡◌, ◌++◌, drop}
use Rattle.wg_check.specs.Ends.{ends_of}
use Rattle.wg_check.proofs.ends.ends_of.Given as goal

abbrev pub invariant-loop-event : goal.invariant-loop-event
invariant-loop-event l = l.ends.items ++ ends_of (drop l.event-index l.events) ≡ ends_of l.events
