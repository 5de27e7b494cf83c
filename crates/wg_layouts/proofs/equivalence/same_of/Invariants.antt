use Rattle.std.proofs.Common.{◌≡◌, drop}
use Rattle.wg_model.specs.Equality.{same_list, same_layout_entry, of_binding}
use Rattle.wg_layouts.proofs.equivalence.same_of.Given as goal

abbrev pub invariant-loop-entry : goal.invariant-loop-entry
invariant-loop-entry l = same_list same_layout_entry (of_binding l.binding (drop l.entry-index l.a)) (of_binding l.binding l.rest)
    ≡ same_list same_layout_entry (of_binding l.binding l.a) (of_binding l.binding l.b)
