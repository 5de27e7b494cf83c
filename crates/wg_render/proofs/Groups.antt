-- What a group touches, by its own layout.
use Rattle.std.proofs.Common.{◌≡◌, ◌∙◌, ℕ, ◌==◌, List, [], ◌∷◌, Option, Some, length, refl, ap, sym, append-nil, if◌then◌else◌, arith}
use Rattle.std.specs.Prelude.{not}
use Rattle.std.specs.List.{flat_map}
use Rattle.std.specs.Option.{option_map_or}
use Rattle.std.proofs.lemmas.Bool.Decides.{nat_tests}
use Rattle.wg_types.specs.declared.bindings.BoundEntry.{BoundEntry}
use Rattle.wg_types.specs.declared.bindings.LayoutEntry.{LayoutEntry}
use Rattle.wg_types.specs.declared.commands.BoundGroup.{BoundGroup}
use Rattle.wg_types.specs.declared.groups.GroupInfo.{GroupInfo}
use Rattle.wg_model.specs.Bound.{Place, known_group, entry_places, places_in, set_places, index_places, place_touches, bound_touches}

-- A layout without entries has no place.
no_places : (offsets : List ℕ) (entries : List BoundEntry) → flat_map (entry_places [] offsets) entries ≡ []
no_places offsets [] = refl
no_places offsets (entry ∷ entries) = no_places offsets entries

own_places : (layout : List LayoutEntry) (offsets : List ℕ) (entries : List BoundEntry) (places : List Place) → places ≡ flat_map (entry_places layout offsets) entries → (if not (length layout == 0) then places else []) ≡ places
own_places [] offsets entries places e = sym (e ∙ no_places offsets entries)
own_places (entry ∷ layout) offsets entries places e = grind (arith, nat_tests)

-- Where a pipeline runs that has the group's own layout all is touched that the group binds.
pub own_layout : (known : GroupInfo) (bound : BoundGroup) → known_group bound.group ≡ Some known → bound_touches (known.layout_info ∷ []) (Some bound ∷ []) ≡ flat_map place_touches (set_places (Some bound))
unfolding bound_touches
own_layout known bound e =
    ap (flat_map place_touches)
    (append-nil (index_places known.layout_info (Some bound))
    ∙ own_places known.layout_info.entries bound.offsets known.entries (set_places (Some bound)) (ap (λ (group : Option GroupInfo). option_map_or (λ (info : GroupInfo). places_in info bound.offsets) group []) e))
