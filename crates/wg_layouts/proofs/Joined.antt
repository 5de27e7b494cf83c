-- Tests over what the entries of a group bind.
use Rattle.std.proofs.Common.{◌≡◌, ◌∙◌, ◌+◌, ℕ, Bool, ◌&&◌, ◌||◌, List, [], ◌∷◌, ◌++◌, Option, None, ap, append-nil}
use Rattle.std.specs.Prelude.{slice_index_or}
use Rattle.std.specs.List.{list_all, list_any, flat_map}
use Rattle.std.proofs.lemmas.List.Folds.{list_all-append, list_any-append}
use Rattle.std.proofs.lemmas.List.Concat.{flat_map-cons, flat_map-append}
use Rattle.wg_types.specs.declared.bindings.LayoutEntry.{LayoutEntry}
use Rattle.wg_types.specs.declared.bindings.BoundEntry.{BoundEntry}
use Rattle.wg_types.specs.declared.commands.BoundGroup.{BoundGroup}
use Rattle.wg_types.specs.declared.groups.GroupLayoutInfo.{GroupLayoutInfo}
use Rattle.wg_model.specs.Bound.{Place, entry_places, index_places, layouts_places, place_touches}
use Rattle.wg_layouts.specs.Places.{entries_places}

pub places_cons : (layout : List LayoutEntry) (offsets : List ℕ) (bound : BoundEntry) (entries : List BoundEntry) → entries_places layout offsets (bound ∷ entries) ≡ entry_places layout offsets bound ++ entries_places layout offsets entries
places_cons layout offsets bound entries = flat_map-cons (entry_places layout offsets) bound entries

pub all_of_entries : (p : Place → Bool) (layout : List LayoutEntry) (offsets : List ℕ) (bound : BoundEntry) (entries : List BoundEntry) → list_all p (entries_places layout offsets (bound ∷ entries)) ≡ list_all p (entry_places layout offsets bound) && list_all p (entries_places layout offsets entries)
all_of_entries p layout offsets bound entries = ap (list_all p) (places_cons layout offsets bound entries) ∙ list_all-append p (entry_places layout offsets bound) (entries_places layout offsets entries)

pub any_of_entries : (p : Place → Bool) (layout : List LayoutEntry) (offsets : List ℕ) (bound : BoundEntry) (entries : List BoundEntry) → list_any p (entries_places layout offsets (bound ∷ entries)) ≡ list_any p (entry_places layout offsets bound) || list_any p (entries_places layout offsets entries)
any_of_entries p layout offsets bound entries = ap (list_any p) (places_cons layout offsets bound entries) ∙ list_any-append p (entry_places layout offsets bound) (entries_places layout offsets entries)

pub any_of_layouts : (p : Place → Bool) (layout : GroupLayoutInfo) (layouts : List GroupLayoutInfo) (groups : List (Option BoundGroup)) (index : ℕ) → list_any p (layouts_places (layout ∷ layouts) groups index) ≡ list_any p (index_places layout (slice_index_or groups index None)) || list_any p (layouts_places layouts groups (index + 1))
any_of_layouts p layout layouts groups index = list_any-append p (index_places layout (slice_index_or groups index None)) (layouts_places layouts groups (index + 1))

-- What places touch.
pub one_place : (place : Place) → flat_map place_touches (place ∷ []) ≡ place_touches place
one_place place = flat_map-cons place_touches place [] ∙ append-nil (place_touches place)

pub entry_touches : (layout : List LayoutEntry) (offsets : List ℕ) (bound : BoundEntry) (entries : List BoundEntry) → flat_map place_touches (entries_places layout offsets (bound ∷ entries)) ≡ flat_map place_touches (entry_places layout offsets bound) ++ flat_map place_touches (entries_places layout offsets entries)
entry_touches layout offsets bound entries = ap (flat_map place_touches) (places_cons layout offsets bound entries) ∙ flat_map-append place_touches (entry_places layout offsets bound) (entries_places layout offsets entries)

pub layout_touches : (layout : GroupLayoutInfo) (layouts : List GroupLayoutInfo) (groups : List (Option BoundGroup)) (index : ℕ) → flat_map place_touches (layouts_places (layout ∷ layouts) groups index) ≡ flat_map place_touches (index_places layout (slice_index_or groups index None)) ++ flat_map place_touches (layouts_places layouts groups (index + 1))
layout_touches layout layouts groups index = flat_map-append place_touches (index_places layout (slice_index_or groups index None)) (layouts_places layouts groups (index + 1))
