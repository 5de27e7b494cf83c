-- What bind groups touch that are set is small.
use Rattle.std.specs.Prelude.{slice_index_or}
use Rattle.std.specs.List.{list_all, flat_map}
use Rattle.std.specs.Option.{option_map_or}
use Rattle.std.proofs.Common.{◌≡◌, ℕ, zero, suc, ◌+◌, ◌≤◌, ◌==◌, List, [], ◌∷◌, ◌++◌, map, Bool, true, false, Option, Some, None, refl, arith, if◌then◌else◌}
use Rattle.std.proofs.lemmas.Bool.{and_parts, and_from, leb-true}
use Rattle.wg_types.specs.Bindings.{entry_of}
use Rattle.wg_types.specs.Commands.{Command}
use Rattle.wg_types.specs.declared.bindings.BoundEntry.{BoundEntry}
use Rattle.wg_types.specs.declared.bindings.BoundResource.{BoundResource}
use Rattle.wg_types.specs.declared.bindings.BoundResource.TheVariants.{Buffer as BoundBuffer, View as BoundView, Sampler as BoundSampler}
use Rattle.wg_types.specs.declared.bindings.LayoutEntry.{LayoutEntry}
use Rattle.wg_types.specs.declared.commands.BoundGroup.{BoundGroup}
use Rattle.wg_types.specs.declared.groups.GroupLayoutInfo.{GroupLayoutInfo}
use Rattle.wg_types.specs.declared.handles.Info.{Info}
use Rattle.wg_types.specs.declared.handles.Info.TheVariants.{Group}
use Rattle.wg_rows.specs.Rows.{EachRow}
use Rattle.wg_rows.specs.Runs.{Cells}
use Rattle.wg_rows.specs.Uses.{Usages, AccessKind}
use Rattle.wg_model.specs.Rules.{AreMet}
use Rattle.wg_model.specs.Touches.{Touch}
use Rattle.wg_model.specs.Bound.{Place, group_in, known_group, moved_by, place_of, entry_places, places_in, moved_range_fits, place_fits, set_rules, offset_rules, has_entries, set_places, index_places, layouts_places, kind_touch, resource_cells, place_touches, bound_touches}
use Rattle.wg_model.specs.Settings.{unsets, slot_after, group_given, group_set, groups_set}
use Rattle.wg_model.proofs.StepLaws.{each_joined}
use Rattle.wg_small.specs.Small.{HaveSmallRange}
use Rattle.wg_small.proofs.Known.{AreSmall, IsSmallBound, AreSmallEntries, IsSmallInfo, IsSmallHandle, view_small}

-- touches of small ranges
abbrev pub IsSmallTouch : Touch → Type 0
IsSmallTouch touch = HaveSmallRange touch.0

abbrev pub AreSmallTouches : List Touch → Type 0
AreSmallTouches touches = EachRow IsSmallTouch touches

pub mapped_small : (how : Usages × AccessKind) (cells : List Cells) → AreSmall cells → AreSmallTouches (map (λ (run : Cells). (run, how)) cells)
mapped_small how [] h = tt
mapped_small how (run ∷ cells) h = (h.0, mapped_small how cells h.1)

pub both_touched : (xs ys : List Touch) → AreSmallTouches xs → AreSmallTouches ys → AreSmallTouches (xs ++ ys)
both_touched xs ys a b = each_joined IsSmallTouch xs ys a b

-- what a group binds that is set
abbrev pub IsSmallPlace : Place → Type 0
IsSmallPlace place = AreSmall (resource_cells place.moved place.resource)

abbrev pub AreSmallPlaces : List Place → Type 0
AreSmallPlaces places = EachRow IsSmallPlace places

one_place : (moved : ℕ) (resource : BoundResource) → IsSmallBound resource → moved_range_fits moved resource ≡ true → AreSmall (resource_cells moved resource)
one_place moved (BoundBuffer buffer known offset size) h e = (let fits : offset + moved + size ≤ known.size = leb-true (offset + moved + size) known.size e in omega (arith, fits, h), tt)
one_place moved (BoundView view known) h e = view_small known h
one_place moved (BoundSampler sampler known) h e = tt

all_parts : (xs ys : List Place) → list_all place_fits (xs ++ ys) ≡ true → (list_all place_fits xs ≡ true) × (list_all place_fits ys ≡ true)
all_parts [] ys e = (refl, e)
all_parts (x ∷ xs) ys e =
    let first = and_parts (place_fits x) (list_all place_fits (xs ++ ys)) e in
    let rest = all_parts xs ys first.1 in
    (and_from (place_fits x) (list_all place_fits xs) first.0 rest.0, rest.1)

places_small : (layout : List LayoutEntry) (offsets : List ℕ) (entries : List BoundEntry) → AreSmallEntries entries → list_all place_fits (flat_map (entry_places layout offsets) entries) ≡ true
    → AreSmallPlaces (flat_map (entry_places layout offsets) entries)
places_small layout offsets [] h e = tt
places_small layout offsets (entry ∷ entries) h e =
    let parts = all_parts (entry_places layout offsets entry) (flat_map (entry_places layout offsets) entries) e in
    each_joined IsSmallPlace (entry_places layout offsets entry) (flat_map (entry_places layout offsets) entries) (by_asked (entry_of layout entry.binding) parts.0) (places_small layout offsets entries h.1 parts.1)
  where
    by_asked : (o : Option LayoutEntry) → list_all place_fits (option_map_or (λ (asked : LayoutEntry). place_of layout offsets asked entry.resource ∷ []) o []) ≡ true
        → AreSmallPlaces (option_map_or (λ (asked : LayoutEntry). place_of layout offsets asked entry.resource ∷ []) o [])
    by_asked None e = tt
    by_asked (Some asked) e = (one_place (moved_by layout offsets asked) entry.resource h.0 (and_parts (moved_range_fits (moved_by layout offsets asked) entry.resource) true e).0, tt)

pub given_small : (index : ℕ) (bound : BoundGroup) → IsSmallHandle bound.group → AreMet (set_rules index (known_group bound.group) bound.offsets) → AreSmallPlaces (set_places (Some bound))
unfolding set_rules
given_small index bound small met = by_valid bound.group.valid refl met
  where
    by_info : (known : Info) → IsSmallInfo known → AreMet (offset_rules (group_in known) bound.offsets) → AreSmallPlaces (option_map_or (λ group. places_in group bound.offsets) (group_in known) [])
    by_info (Group known) h met = places_small known.layout_info.entries bound.offsets known.entries h met.1.1.0
    by_info _ h met = tt

    by_valid : (b : Bool) → bound.group.valid ≡ b → AreMet (set_rules index (if b then group_in bound.group.info else None) bound.offsets)
        → AreSmallPlaces (option_map_or (λ group. places_in group bound.offsets) (if b then group_in bound.group.info else None) [])
    by_valid true e met = by_info bound.group.info (small e) met.1
    by_valid false e met = tt

-- what is set, wherever it is
abbrev pub IsGivenSmall : Option (ℕ × Option BoundGroup) → Type 0
IsGivenSmall None = Unit {0}
IsGivenSmall (Some given) = AreSmallPlaces (set_places given.1)

abbrev pub AreSetSmall : List Command → Type 0
AreSetSmall earlier = (at : ℕ) → AreSmallPlaces (set_places (group_set earlier at))

pub more_set : (command : Command) (earlier : List Command) → AreSetSmall earlier → IsGivenSmall (group_given command) → AreSetSmall (command ∷ earlier)
more_set command earlier before given at = by_unset (unsets command) (group_given command) given
  where
    by_slot : (given : ℕ × Option BoundGroup) → AreSmallPlaces (set_places given.1) → (b : Bool) → AreSmallPlaces (set_places (if b then given.1 else group_set earlier at))
    by_slot given h true = h
    by_slot given h false = before at

    by_unset : (b : Bool) (o : Option (ℕ × Option BoundGroup)) → IsGivenSmall o → AreSmallPlaces (set_places (if b then None else slot_after o at (group_set earlier at)))
    by_unset true o h = tt
    by_unset false None h = before at
    by_unset false (Some given) h = by_slot given h (given.0 == at)

at_index : (earlier : List Command) (index : ℕ) → AreSetSmall earlier → AreSmallPlaces (set_places (slice_index_or (groups_set earlier) index None))
at_index earlier zero h = h 0
at_index earlier (suc zero) h = h 1
at_index earlier (suc (suc zero)) h = h 2
at_index earlier (suc (suc (suc zero))) h = h 3
at_index earlier (suc (suc (suc (suc n)))) h = tt

bound_places : (earlier : List Command) (layouts : List GroupLayoutInfo) (index : ℕ) → AreSetSmall earlier → AreSmallPlaces (layouts_places layouts (groups_set earlier) index)
bound_places earlier [] index h = tt
bound_places earlier (layout ∷ layouts) index h =
    each_joined IsSmallPlace (index_places layout (slice_index_or (groups_set earlier) index None)) (layouts_places layouts (groups_set earlier) (index + 1)) (by_entries (has_entries layout)) (bound_places earlier layouts (index + 1) h)
  where
    by_entries : (b : Bool) → AreSmallPlaces (if b then set_places (slice_index_or (groups_set earlier) index None) else [])
    by_entries true = at_index earlier index h
    by_entries false = tt

pub touched_places : (places : List Place) → AreSmallPlaces places → AreSmallTouches (flat_map place_touches places)
touched_places [] h = tt
touched_places (place ∷ places) h =
    both_touched (place_touches place) (flat_map place_touches places) (mapped_small (kind_touch place.asked.kind) (resource_cells place.moved place.resource) h.0) (touched_places places h.1)

pub bound_small : (earlier : List Command) (layouts : List GroupLayoutInfo) → AreSetSmall earlier → AreSmallTouches (bound_touches layouts (groups_set earlier))
unfolding bound_touches
bound_small earlier layouts h = touched_places (layouts_places layouts (groups_set earlier) 0) (bound_places earlier layouts 0 h)
