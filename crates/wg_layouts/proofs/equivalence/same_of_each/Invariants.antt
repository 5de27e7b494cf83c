use Rattle.std.proofs.Common.{◌≡◌, drop}
use Rattle.std.specs.List.{list_all}
use Rattle.wg_types.specs.declared.bindings.LayoutEntry.{LayoutEntry}
use Rattle.wg_model.specs.Equality.{same_list, same_layout_entry, of_binding}
use Rattle.wg_layouts.proofs.equivalence.same_of_each.Given as goal

abbrev pub invariant-loop-entry : goal.invariant-loop-entry
invariant-loop-entry l =
    list_all (λ (entry : LayoutEntry). same_list same_layout_entry (of_binding entry.binding l.a) (of_binding entry.binding l.b)) (drop l.entry-index l.a)
    ≡ list_all (λ (entry : LayoutEntry). same_list same_layout_entry (of_binding entry.binding l.a) (of_binding entry.binding l.b)) l.a
