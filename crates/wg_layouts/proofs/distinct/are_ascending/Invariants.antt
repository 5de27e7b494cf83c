use Rattle.std.proofs.Common.{◌≡◌, drop}
use Rattle.wg_layouts.specs.Ascending.{ascends_from}
use Rattle.wg_layouts.proofs.distinct.are_ascending.Given as goal

abbrev pub invariant-loop-entry : goal.invariant-loop-entry
invariant-loop-entry l = ascends_from l.least (drop l.entry-index l.entries) ≡ ascends_from 0 l.entries
