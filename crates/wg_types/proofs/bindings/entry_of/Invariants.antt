use Rattle.std.proofs.Common.{◌≡◌, drop}
use Rattle.wg_types.specs.Bindings.{entry_of}
use Rattle.wg_types.proofs.bindings.entry_of.Given as goal

abbrev pub invariant-loop-entry : goal.invariant-loop-entry
invariant-loop-entry l = entry_of (drop l.entry-index l.entries) l.binding ≡ entry_of l.entries l.binding
