use Rattle.std.proofs.Common.{◌≡◌, true, length}
use Rattle.wg_types.specs.Bindings.{entry_of}
use Rattle.wg_layouts.specs.Ascending.{ascends_from}
use Rattle.wg_layouts.proofs.bindings.find_ascending.Given as goal

abbrev pub invariant-loop-rest : goal.invariant-loop-rest
invariant-loop-rest l = (ascends_from 0 l.rest ≡ true) × (entry_of l.rest l.binding ≡ entry_of l.entries l.binding)

abbrev pub decreases-loop-rest : goal.decreases-loop-rest
decreases-loop-rest l = length l.rest
