-- What walks over uses find that stand in the order of their places.
use Rattle.std.specs.Prelude.{◌≡◌, ℕ, ◌==◌, Bool, true, false, not, ◌&&◌, List, [], ◌∷◌, Option, Some, None, if◌then◌else◌}
use Rattle.wg_types.specs.declared.bindings.LayoutEntry.{LayoutEntry}
use Rattle.wg_types.specs.declared.bindings.IfaceEntry.{IfaceEntry}
use Rattle.wg_types.specs.declared.groups.GroupLayoutInfo.{GroupLayoutInfo}
use Rattle.wg_model.specs.Pipelines.{same_use}
use Rattle.wg_model.specs.Automatic.{entry_used, entry_shared, uses_of}
use Rattle.wg_auto.specs.Automatic.{place_before}

-- whether a use comes before another
abbrev pub use_before : IfaceEntry → IfaceEntry → Bool
use_before a b = place_before a.group a.binding b.group b.binding

-- whether a use is of the same place as the next and of another kind
abbrev pub is_clash : IfaceEntry → IfaceEntry → Bool
is_clash used next = used.group == next.group && used.binding == next.binding && not (same_use used.kind next.kind)

-- whether a use clashes so with the one behind it, if there is one
abbrev pub clashes_with_next : IfaceEntry → List IfaceEntry → Bool
clashes_with_next used [] = false
clashes_with_next used (next ∷ uses) = is_clash used next

-- the place of the first of which this holds
abbrev pub first_clash : List IfaceEntry → Option (ℕ × ℕ)
first_clash [] = None
first_clash (used ∷ uses) = if clashes_with_next used uses then Some (used.group, used.binding) else first_clash uses

-- whether none comes before the one in front of it
abbrev pub in_order : List IfaceEntry → Bool
in_order [] = true
in_order (used ∷ []) = true
in_order (used ∷ next ∷ uses) = not (use_before next used) && in_order (next ∷ uses)

-- the entries for the uses of a group that are left, where one entry is begun
abbrev pub entries_from : ℕ → Option LayoutEntry → List IfaceEntry → List LayoutEntry
entries_from group None [] = []
entries_from group (Some entry) [] = entry ∷ []
entries_from group None (used ∷ uses) = if used.group == group then entries_from group (Some (entry_used used)) uses else entries_from group None uses
entries_from group (Some entry) (used ∷ uses) =
    if used.group == group
    then (if entry.binding == used.binding then entries_from group (Some (entry_shared entry used)) uses
    else entry ∷ entries_from group (Some (entry_used used)) uses)
    else entries_from group (Some entry) uses

-- the layout of a group with these
abbrev pub layout_from : ℕ → List IfaceEntry → GroupLayoutInfo
layout_from group uses = record { entries = entries_from group None uses; exclusive = None; pipeline = None }

-- Two interfaces have the same uses of each binding of each group.
abbrev pub SameUses : List IfaceEntry → List IfaceEntry → Type 0
SameUses a b = (group binding : ℕ) → uses_of group binding a ≡ uses_of group binding b
