-- Places that overlap none after them.
use Rattle.std.proofs.Common.{◌≡◌, ◌∙◌, ℕ, Bool, true, false, ◌&&◌, ◌||◌, List, [], ◌∷◌, ◌++◌, ap, refl, append_assoc, arith}
use Rattle.std.specs.Prelude.{not}
use Rattle.std.specs.List.{list_any}
use Rattle.std.proofs.lemmas.List.Folds.{list_any-append}
use Rattle.wg_types.specs.declared.bindings.LayoutEntry.{LayoutEntry}
use Rattle.wg_types.specs.declared.bindings.BoundEntry.{BoundEntry}
use Rattle.wg_model.specs.Bound.{Place, entry_places, overlap, are_clear}
use Rattle.wg_layouts.specs.Places.{entries_places}
use Rattle.wg_layouts.proofs.Joined.{places_cons}

not_or : (a b : Bool) → not (a || b) ≡ not a && not b
not_or true b = refl
not_or false b = refl

-- a place before two lists
pub first_clear : (place : Place) (later behind : List Place) → are_clear (place ∷ (later ++ behind)) ≡ (not (list_any (overlap place) later) && not (list_any (overlap place) behind)) && are_clear (later ++ behind)
first_clear place later behind = ap (λ b. b && are_clear (later ++ behind)) (ap not (list_any-append (overlap place) later behind) ∙ not_or (list_any (overlap place) later) (list_any (overlap place) behind))

unseen : (place other : Place) → place.asked.visibility ≡ 0 → overlap place other ≡ false
unseen place other e = rw e refl

none_overlap : (place : Place) (others : List Place) → place.asked.visibility ≡ 0 → list_any (overlap place) others ≡ false
none_overlap place [] e = refl
none_overlap place (other ∷ others) e = grind (arith, unseen place other e, none_overlap place others e)

-- a place that no stage sees
pub unseen_clear : (place : Place) (others : List Place) → place.asked.visibility ≡ 0 → are_clear (place ∷ others) ≡ are_clear others
unseen_clear place others e = grind (arith, none_overlap place others e)

pub places_parted : (layout : List LayoutEntry) (offsets : List ℕ) (bound : BoundEntry) (entries : List BoundEntry) (behind : List Place) → are_clear (entries_places layout offsets (bound ∷ entries) ++ behind) ≡ are_clear (entry_places layout offsets bound ++ (entries_places layout offsets entries ++ behind))
places_parted layout offsets bound entries behind =
    ap (λ places. are_clear (places ++ behind)) (places_cons layout offsets bound entries)
    ∙ ap are_clear (append_assoc (entry_places layout offsets bound) (entries_places layout offsets entries) behind)
