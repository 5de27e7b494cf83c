use Rattle.std.proofs.Common.{◌≡◌, ◌≤◌, ◌++◌, drop}
use Rattle.wg_check.specs.Keys.{key_events}
use Rattle.wg_check.proofs.events.key_events.Given as goal

abbrev pub invariant-loop-item : goal.invariant-loop-item
invariant-loop-item l = (l.events.items ++ key_events l.place (drop l.item-index l.items) ≡ key_events 0 l.items) × (l.place ≤ l.item-index)
