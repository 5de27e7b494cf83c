use Rattle.std.proofs.Common.{◌≡◌, drop}
use Rattle.wg_model.specs.Layouts.{bindings_are_distinct}
use Rattle.wg_layouts.proofs.distinct.are_apart.Given as goal

abbrev pub invariant-loop-i : goal.invariant-loop-i
invariant-loop-i l = bindings_are_distinct (drop l.i l.entries) ≡ bindings_are_distinct l.entries
