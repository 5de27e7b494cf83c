-- Bindings that ascend are distinct.
use Rattle.std.proofs.Common.{◌≡◌, ◌+◌, ◌<◌, ℕ, List, [], ◌∷◌, true, false, ◌==◌, refl, arith}
use Rattle.std.specs.List.{list_any}
use Rattle.std.proofs.lemmas.Bool.Decides.{nat_tests}
use Rattle.wg_types.specs.declared.bindings.LayoutEntry.{LayoutEntry}
use Rattle.wg_model.specs.Layouts.{bindings_are_distinct}
use Rattle.wg_layouts.specs.Ascending.{ascends_from}

has_none_below : (n least : ℕ) (entries : List LayoutEntry) → n < least → ascends_from least entries ≡ true → list_any (λ (other : LayoutEntry). other.binding == n) entries ≡ false
has_none_below n least [] below ascends = refl
has_none_below n least (entry ∷ entries) below ascends = grind (arith, nat_tests, has_none_below n (entry.binding + 1) entries)

pub ascending_apart : (least : ℕ) (entries : List LayoutEntry) → ascends_from least entries ≡ true → bindings_are_distinct entries ≡ true
ascending_apart least [] ascends = refl
ascending_apart least (entry ∷ entries) ascends = grind (arith, nat_tests, ascending_apart (entry.binding + 1) entries, has_none_below entry.binding (entry.binding + 1) entries)
