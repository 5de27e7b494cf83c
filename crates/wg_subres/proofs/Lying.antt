-- The cells of a copy lie in the layers that it has, and those of a view in its runs.
use Rattle.std.proofs.Common.{◌≡◌, ℕ, ◌+◌, ◌<◌, min, nat_lt, Bool, true, false, List, [], ◌∷◌, ◌++◌, map, refl, sym, ap, ap₂, ◌∙◌, if◌then◌else◌, arith}
use Rattle.std.proofs.lemmas.Bool.{ltb-true}
use Rattle.std.proofs.lemmas.List.{map-append}
use Rattle.std.proofs.lemmas.List.Concat.{flat_map-cons}
use Rattle.wg_types.specs.declared.textures.TextureDim.{TextureDim}
use Rattle.wg_types.specs.declared.textures.TextureDim.TheVariants as texture_dim
use Rattle.wg_types.specs.declared.textures.TextureInfo.{TextureInfo}
use Rattle.wg_types.specs.declared.textures.TextureSpot.{TextureSpot}
use Rattle.wg_types.specs.declared.textures.ViewInfo.{ViewInfo}
use Rattle.wg_types.specs.Formats.{row}
use Rattle.wg_types.specs.Textures.{depth}
use Rattle.wg_rows.specs.Rows.{numbers}
use Rattle.wg_rows.specs.Runs.{Aspect, Color, Depth, Stencil, PartRun, LayerParts, run_part}
use Rattle.wg_model.specs.Formats.{named_aspects}
use Rattle.wg_model.specs.Textures.{layers_in, layer_count, extent}
use Rattle.wg_model.specs.Subresources.{level_runs, aspect_runs, view_runs, view_cells, run_cells, texture_cells, first_layer, end_layer, copied_cells, copy_runs}

-- The layers of a 3D texture are the one layer 0.
abbrev pub IsOneLayer : TextureDim → ℕ → ℕ → Type 0
IsOneLayer texture_dim.Three lo hi = (lo ≡ 0) × (hi ≡ 1)
IsOneLayer _ lo hi = Unit {0}

-- The cells of layers lie in these layers.
texture_lies : (dim : TextureDim) (object : ℕ) (aspect : Aspect) (mip lo hi from to : ℕ) → IsOneLayer dim lo hi → run_part (texture_cells dim object aspect mip lo hi from to) ≡ LayerParts object aspect mip lo hi
texture_lies texture_dim.Three object Color mip lo hi from to one = ap₂ (λ (x y : ℕ). LayerParts object Color mip x y) (sym one.0) (sym one.1)
texture_lies texture_dim.Three object Depth mip lo hi from to one = refl
texture_lies texture_dim.Three object Stencil mip lo hi from to one = refl
texture_lies texture_dim.One object aspect mip lo hi from to one = refl
texture_lies texture_dim.Two object aspect mip lo hi from to one = refl

layers_lie : (dim : TextureDim) (object mip lo hi from to : ℕ) (aspects : List Aspect) → IsOneLayer dim lo hi → map run_part (map (λ aspect. texture_cells dim object aspect mip lo hi from to) aspects) ≡ map (λ aspect. LayerParts object aspect mip lo hi) aspects
layers_lie dim object mip lo hi from to [] one = refl
layers_lie dim object mip lo hi from to (aspect ∷ aspects) one = ap₂ ◌∷◌ (texture_lies dim object aspect mip lo hi from to one) (layers_lie dim object mip lo hi from to aspects one)

if_lie : (b : Bool) (dim : TextureDim) (object mip lo hi from to : ℕ) (aspects : List Aspect) → IsOneLayer dim lo hi → map run_part (if b then map (λ aspect. texture_cells dim object aspect mip lo hi from to) aspects else []) ≡ (if b then map (λ aspect. LayerParts object aspect mip lo hi) aspects else [])
if_lie true dim object mip lo hi from to aspects one = layers_lie dim object mip lo hi from to aspects one
if_lie false dim object mip lo hi from to aspects one = refl

pub copy_one_layer : (dim : TextureDim) (origin size : List ℕ) → IsOneLayer dim (first_layer dim origin) (end_layer dim origin size)
copy_one_layer texture_dim.Three origin size = (refl, refl)
copy_one_layer texture_dim.One origin size = tt
copy_one_layer texture_dim.Two origin size = tt

-- the layers of a copy, of each aspect
abbrev pub copied_layers : ℕ → TextureInfo → TextureSpot → List ℕ → List PartRun
copied_layers object info spot size =
    if nat_lt (first_layer info.dim spot.origin) (end_layer info.dim spot.origin size) then map (λ aspect. LayerParts object aspect spot.mip (first_layer info.dim spot.origin) (end_layer info.dim spot.origin size)) (named_aspects spot.aspect (row info.format).aspects) else []

pub runs_of_copy : (object : ℕ) (info : TextureInfo) (spot : TextureSpot) (size : List ℕ) → copy_runs object info spot size ≡ copied_layers object info spot size
unfolding copied_cells copy_runs
runs_of_copy object info spot size = if_lie (nat_lt (first_layer info.dim spot.origin) (end_layer info.dim spot.origin size)) info.dim object spot.mip (first_layer info.dim spot.origin) (end_layer info.dim spot.origin size) (depth spot.origin) (depth spot.origin + depth size) (named_aspects spot.aspect (row info.format).aspects) (copy_one_layer info.dim spot.origin size)

-- The cells of a view lie in its runs.
levels_lie : (info : TextureInfo) (object lo hi : ℕ) (mips : List ℕ) (aspect : Aspect) → IsOneLayer info.dim lo hi → map run_part (map (run_cells info) (level_runs object lo hi mips aspect)) ≡ level_runs object lo hi mips aspect
levels_lie info object lo hi [] aspect one = refl
levels_lie info object lo hi (mip ∷ mips) aspect one = ap₂ ◌∷◌ (texture_lies info.dim object aspect mip lo hi 0 (depth (extent info mip)) one) (levels_lie info object lo hi mips aspect one)

aspects_lie : (info : TextureInfo) (object lo hi : ℕ) (mips : List ℕ) (aspects : List Aspect) → IsOneLayer info.dim lo hi → map run_part (map (run_cells info) (aspect_runs object lo hi mips aspects)) ≡ aspect_runs object lo hi mips aspects
aspects_lie info object lo hi mips [] one = refl
aspects_lie info object lo hi mips (aspect ∷ aspects) one =
    ap (λ runs. map run_part (map (run_cells info) runs)) (flat_map-cons (level_runs object lo hi mips) aspect aspects)
    ∙ (ap (map run_part) (map-append (run_cells info) (level_runs object lo hi mips aspect) (aspect_runs object lo hi mips aspects))
    ∙ (map-append run_part (map (run_cells info) (level_runs object lo hi mips aspect)) (map (run_cells info) (aspect_runs object lo hi mips aspects))
    ∙ (ap₂ ◌++◌ (levels_lie info object lo hi mips aspect one) (aspects_lie info object lo hi mips aspects one)
    ∙ sym (flat_map-cons (level_runs object lo hi mips) aspect aspects))))

pub view_one_layer : (dim : TextureDim) (size : List ℕ) (base layers : ℕ) → nat_lt base (min (base + layers) (layers_in dim size)) ≡ true → IsOneLayer dim base (min (base + layers) (layers_in dim size))
view_one_layer texture_dim.Three size base layers e = let below : base < min (base + layers) 1 = ltb-true base (min (base + layers) 1) e in (omega arith, omega arith)
view_one_layer texture_dim.One size base layers e = tt
view_one_layer texture_dim.Two size base layers e = tt

pub runs_of_view : (view : ViewInfo) → map run_part (view_cells view) ≡ view_runs view
unfolding view_runs
runs_of_view view = by_layers (nat_lt view.base_layer (min (view.base_layer + view.layers) (layer_count view.texture_info))) refl
  where
    by_layers : (b : Bool) → nat_lt view.base_layer (min (view.base_layer + view.layers) (layer_count view.texture_info)) ≡ b → map run_part (map (run_cells view.texture_info) (if b then aspect_runs view.texture.number view.base_layer (min (view.base_layer + view.layers) (layer_count view.texture_info)) (numbers view.base_mip (min (view.base_mip + view.mips) view.texture_info.mips)) (named_aspects view.aspect (row view.texture_info.format).aspects) else [])) ≡ (if b then aspect_runs view.texture.number view.base_layer (min (view.base_layer + view.layers) (layer_count view.texture_info)) (numbers view.base_mip (min (view.base_mip + view.mips) view.texture_info.mips)) (named_aspects view.aspect (row view.texture_info.format).aspects) else [])
    by_layers true e = aspects_lie view.texture_info view.texture.number view.base_layer (min (view.base_layer + view.layers) (layer_count view.texture_info)) (numbers view.base_mip (min (view.base_mip + view.mips) view.texture_info.mips)) (named_aspects view.aspect (row view.texture_info.format).aspects) (view_one_layer view.texture_info.dim view.texture_info.size view.base_layer view.layers e)
    by_layers false e = refl
