-- What groups bind, by their entries and by the layouts from an index on.
use Rattle.std.specs.Prelude.{◌≡◌, ℕ, ◌++◌, Bool, ◌&&◌, List, Option, drop}
use Rattle.std.specs.List.{flat_map}
use Rattle.wg_types.specs.declared.bindings.LayoutEntry.{LayoutEntry}
use Rattle.wg_types.specs.declared.bindings.BoundEntry.{BoundEntry}
use Rattle.wg_types.specs.declared.commands.BoundGroup.{BoundGroup}
use Rattle.wg_types.specs.declared.groups.GroupLayoutInfo.{GroupLayoutInfo}
use Rattle.wg_model.specs.Bound.{Place, entry_places, layouts_places, are_clear}
use Rattle.wg_layouts.specs.declared.places.SetGroup.{SetGroup}
use Rattle.wg_layouts.specs.declared.overlaps.Behind.{Behind}

-- what some entries of a group bind that is set with offsets
abbrev pub entries_places : List LayoutEntry → List ℕ → List BoundEntry → List Place
entries_places layout offsets entries = flat_map (entry_places layout offsets) entries

-- what the entries of a group bind from one on
abbrev pub set_places_from : SetGroup → ℕ → List Place
set_places_from set from = entries_places set.layout set.offsets.now (drop from set.entries.now)

-- what the groups bind from an index on
abbrev pub places_from : List GroupLayoutInfo → List (Option BoundGroup) → ℕ → List Place
places_from layouts groups from = layouts_places (drop from layouts) groups from

-- what the groups bind from an index on
abbrev pub places_behind : Behind → List Place
places_behind behind = places_from behind.layouts.now behind.groups.now behind.from

-- what a group binds from one of its entries on, and what the groups behind it bind
abbrev pub places_after : SetGroup → ℕ → Behind → List Place
places_after set next behind = set_places_from set next ++ places_behind behind

-- The answer to whether places overlap neither each other nor those that come after them. These are not looked at among
-- themselves.
abbrev pub AreClearBefore : List Place → List Place → Bool → Type 0
AreClearBefore places later answer = are_clear (places ++ later) ≡ (answer && are_clear later)
