-- Two views meet exactly where some part is in both.
use Rattle.std.proofs.Common.{◌≡◌, ℕ, ◌+◌, ◌==◌, max, min, nat_lt, Bool, true, ◌&&◌, List, refl, sym, ◌∙◌, eq-eqb}
use Rattle.std.proofs.lemmas.Bool.{and_parts, and_from}
use Rattle.wg_types.specs.declared.textures.ViewInfo.{ViewInfo}
use Rattle.wg_types.specs.Formats.{row}
use Rattle.wg_rows.specs.Rows.{in_range}
use Rattle.wg_rows.specs.Runs.{Aspect, Part, Buffer, Subresource, QuerySet}
use Rattle.wg_model.specs.Formats.{named_aspects}
use Rattle.wg_model.specs.Textures.{layer_count}
use Rattle.wg_model.specs.Subresources.{is_aspect_of, aspects_meet, ranges_meet, view_layers_end, view_mips_end, views_meet}
use Rattle.wg_subres.specs.Has.{view_has, ViewsMeet}
use Rattle.wg_subres.proofs.Covered.{range_clipped}
use Rattle.wg_subres.proofs.Meeting.{same_number, meets, turned, InBoth, in_both, in_lower, in_upper, ranges_share}

-- Ranges, each with an end that they have.
abbrev is_in : ℕ → ℕ → ℕ → ℕ → Bool
is_in lo hi most x = in_range lo hi x && nat_lt x most

clipped_lower : (lo hi most lo2 hi2 most2 : ℕ) → ranges_meet lo (min hi most) lo2 (min hi2 most2) ≡ true → is_in lo hi most (max lo lo2) ≡ true
clipped_lower lo hi most lo2 hi2 most2 e = sym (range_clipped lo hi most (max lo lo2)) ∙ in_lower lo (min hi most) lo2 (min hi2 most2) e

clipped_upper : (lo hi most lo2 hi2 most2 : ℕ) → ranges_meet lo (min hi most) lo2 (min hi2 most2) ≡ true → is_in lo2 hi2 most2 (max lo lo2) ≡ true
clipped_upper lo hi most lo2 hi2 most2 e = sym (range_clipped lo2 hi2 most2 (max lo lo2)) ∙ in_upper lo (min hi most) lo2 (min hi2 most2) e

clipped_share : (lo hi most lo2 hi2 most2 x : ℕ) → is_in lo hi most x ≡ true → is_in lo2 hi2 most2 x ≡ true → ranges_meet lo (min hi most) lo2 (min hi2 most2) ≡ true
clipped_share lo hi most lo2 hi2 most2 x e f = ranges_share lo (min hi most) lo2 (min hi2 most2) x (range_clipped lo hi most x ∙ e) (range_clipped lo2 hi2 most2 x ∙ f)

-- What a part of a view is.
abbrev aspects_of : ViewInfo → List Aspect
aspects_of view = named_aspects view.aspect (row view.texture_info.format).aspects

abbrev has_mip : ViewInfo → ℕ → Bool
has_mip view mip = is_in view.base_mip (view.base_mip + view.mips) view.texture_info.mips mip

abbrev has_layer : ViewInfo → ℕ → Bool
has_layer view layer = is_in view.base_layer (view.base_layer + view.layers) (layer_count view.texture_info) layer

record Has (view : ViewInfo) (object : ℕ) (aspect : Aspect) (mip layer : ℕ) : Type 0 where
  texture : view.texture.number == object ≡ true
  among : is_aspect_of aspect (aspects_of view) ≡ true
  level : has_mip view mip ≡ true
  in_layers : has_layer view layer ≡ true

has_parts : (view : ViewInfo) (object : ℕ) (aspect : Aspect) (mip layer : ℕ) → view_has view (Subresource object aspect mip layer) ≡ true → Has view object aspect mip layer
has_parts view object aspect mip layer e =
    let first : (view.texture.number == object ≡ true) × (is_aspect_of aspect (aspects_of view) && (has_mip view mip && has_layer view layer) ≡ true) = and_parts (view.texture.number == object) (is_aspect_of aspect (aspects_of view) && (has_mip view mip && has_layer view layer)) e in
    let second : (is_aspect_of aspect (aspects_of view) ≡ true) × (has_mip view mip && has_layer view layer ≡ true) = and_parts (is_aspect_of aspect (aspects_of view)) (has_mip view mip && has_layer view layer) first.1 in
    let third : (has_mip view mip ≡ true) × (has_layer view layer ≡ true) = and_parts (has_mip view mip) (has_layer view layer) second.1 in
    record { texture = first.0; among = second.0; level = third.0; in_layers = third.1 }

has_from : (view : ViewInfo) (object : ℕ) (aspect : Aspect) (mip layer : ℕ) → Has view object aspect mip layer → view_has view (Subresource object aspect mip layer) ≡ true
has_from view object aspect mip layer has =
    and_from (view.texture.number == object) (is_aspect_of aspect (aspects_of view) && (has_mip view mip && has_layer view layer)) has.texture
    (and_from (is_aspect_of aspect (aspects_of view)) (has_mip view mip && has_layer view layer) has.among
    (and_from (has_mip view mip) (has_layer view layer) has.level has.in_layers))

-- What two views that meet share.
abbrev mips_meet : ViewInfo → ViewInfo → Bool
mips_meet a b = ranges_meet a.base_mip (view_mips_end a) b.base_mip (view_mips_end b)

abbrev layers_meet : ViewInfo → ViewInfo → Bool
layers_meet a b = ranges_meet a.base_layer (view_layers_end a) b.base_layer (view_layers_end b)

record Meet (a b : ViewInfo) : Type 0 where
  textures : a.texture.number == b.texture.number ≡ true
  aspects : aspects_meet (aspects_of a) (aspects_of b) ≡ true
  levels : mips_meet a b ≡ true
  layers : layers_meet a b ≡ true

meet_parts : (a b : ViewInfo) → views_meet a b ≡ true → Meet a b
unfolding views_meet
meet_parts a b e =
    let first : (a.texture.number == b.texture.number ≡ true) × (aspects_meet (aspects_of a) (aspects_of b) && (mips_meet a b && layers_meet a b) ≡ true) = and_parts (a.texture.number == b.texture.number) (aspects_meet (aspects_of a) (aspects_of b) && (mips_meet a b && layers_meet a b)) e in
    let second : (aspects_meet (aspects_of a) (aspects_of b) ≡ true) × (mips_meet a b && layers_meet a b ≡ true) = and_parts (aspects_meet (aspects_of a) (aspects_of b)) (mips_meet a b && layers_meet a b) first.1 in
    let third : (mips_meet a b ≡ true) × (layers_meet a b ≡ true) = and_parts (mips_meet a b) (layers_meet a b) second.1 in
    record { textures = first.0; aspects = second.0; levels = third.0; layers = third.1 }

meet_from : (a b : ViewInfo) → Meet a b → views_meet a b ≡ true
unfolding views_meet
meet_from a b meet =
    and_from (a.texture.number == b.texture.number) (aspects_meet (aspects_of a) (aspects_of b) && (mips_meet a b && layers_meet a b)) meet.textures
    (and_from (aspects_meet (aspects_of a) (aspects_of b)) (mips_meet a b && layers_meet a b) meet.aspects
    (and_from (mips_meet a b) (layers_meet a b) meet.levels meet.layers))

only : (a b : ViewInfo) (part : Part) → view_has a part ≡ true → view_has b part ≡ true → views_meet a b ≡ true
only a b (Buffer object) e f = absurd (cc)
only a b (QuerySet object) e f = absurd (cc)
only a b (Subresource object aspect mip layer) e f =
    let one : Has a object aspect mip layer = has_parts a object aspect mip layer e in
    let two : Has b object aspect mip layer = has_parts b object aspect mip layer f in
    meet_from a b (record {
      textures = same_number a.texture.number b.texture.number object one.texture two.texture;
      aspects = meets aspect (aspects_of a) (aspects_of b) one.among two.among;
      levels = clipped_share a.base_mip (a.base_mip + a.mips) a.texture_info.mips b.base_mip (b.base_mip + b.mips) b.texture_info.mips mip one.level two.level;
      layers = clipped_share a.base_layer (a.base_layer + a.layers) (layer_count a.texture_info) b.base_layer (b.base_layer + b.layers) (layer_count b.texture_info) layer one.in_layers two.in_layers;
    })

shared : (a b : ViewInfo) → views_meet a b ≡ true → (part : Part) × ((view_has a part ≡ true) × (view_has b part ≡ true))
shared a b e =
    let met : Meet a b = meet_parts a b e in
    let found : InBoth (aspects_of a) (aspects_of b) = in_both (aspects_of a) (aspects_of b) met.aspects in (
      Subresource a.texture.number found.0 (max a.base_mip b.base_mip) (max a.base_layer b.base_layer),
      (
        has_from a a.texture.number found.0 (max a.base_mip b.base_mip) (max a.base_layer b.base_layer) (record {
          texture = eq-eqb a.texture.number a.texture.number refl;
          among = found.1.0;
          level = clipped_lower a.base_mip (a.base_mip + a.mips) a.texture_info.mips b.base_mip (b.base_mip + b.mips) b.texture_info.mips met.levels;
          in_layers = clipped_lower a.base_layer (a.base_layer + a.layers) (layer_count a.texture_info) b.base_layer (b.base_layer + b.layers) (layer_count b.texture_info) met.layers;
        }),
        has_from b a.texture.number found.0 (max a.base_mip b.base_mip) (max a.base_layer b.base_layer) (record {
          texture = turned a.texture.number b.texture.number met.textures;
          among = found.1.1;
          level = clipped_upper a.base_mip (a.base_mip + a.mips) a.texture_info.mips b.base_mip (b.base_mip + b.mips) b.texture_info.mips met.levels;
          in_layers = clipped_upper a.base_layer (a.base_layer + a.layers) (layer_count a.texture_info) b.base_layer (b.base_layer + b.layers) (layer_count b.texture_info) met.layers;
        }),
      ),
    )

pub views_meet_where : ViewsMeet
views_meet_where = record { shared = shared; only = only }
