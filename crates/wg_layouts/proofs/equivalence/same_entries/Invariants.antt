use Rattle.std.proofs.Common.{◌≡◌, drop}
use Rattle.wg_model.specs.Equality.{same_list, same_layout_entry}
use Rattle.wg_layouts.proofs.equivalence.same_entries.Given as goal

abbrev pub invariant-loop-entry : goal.invariant-loop-entry
invariant-loop-entry l = same_list same_layout_entry (drop l.entry-index l.a) l.rest ≡ same_list same_layout_entry l.a l.b
