-- The cells of views and of copies are just those of the parts that these have.
use Rattle.std.proofs.Common.{◌≡◌, ℕ, ◌+◌, ◌==◌, min, nat_lt, Bool, true, false, ◌&&◌, ◌||◌, List, [], ◌∷◌, map, refl, sym, ap, ap₂, ◌∙◌, if◌then◌else◌}
use Rattle.std.specs.List.{list_any}
use Rattle.std.proofs.lemmas.Bool.{eqb-true}
use Rattle.std.proofs.lemmas.List.{map-append}
use Rattle.std.proofs.lemmas.List.Folds.{list_any-append}
use Rattle.std.proofs.lemmas.List.Concat.{flat_map-cons}
use Rattle.wg_types.specs.declared.textures.TextureDim.{TextureDim}
use Rattle.wg_types.specs.declared.textures.TextureDim.TheVariants as texture_dim
use Rattle.wg_types.specs.declared.textures.TextureInfo.{TextureInfo}
use Rattle.wg_types.specs.declared.textures.TextureSpot.{TextureSpot}
use Rattle.wg_types.specs.declared.textures.ViewInfo.{ViewInfo}
use Rattle.wg_types.specs.Formats.{row}
use Rattle.wg_types.specs.Textures.{depth}
use Rattle.wg_rows.specs.Rows.{in_range, numbers}
use Rattle.wg_rows.specs.Runs.{Aspect, Color, Depth, Stencil, aspect_number, LayerParts, Cell, Byte, Texels, Slice, Query, Layers, Slices, part_of, covers_part, covers}
use Rattle.wg_model.specs.Formats.{named_aspects}
use Rattle.wg_model.specs.Textures.{layer_count, extent}
use Rattle.wg_model.specs.Subresources.{level_runs, aspect_runs, view_runs, view_cells, run_cells, texture_cells, first_layer, end_layer, copied_cells}
use Rattle.wg_subres.specs.Has.{is_covered, is_accessed, is_cell_of, cell_mip, ViewCellsAre, CopiedCellsAre}
use Rattle.wg_subres.proofs.Lying.{IsOneLayer, copy_one_layer, view_one_layer, copied_layers, runs_of_copy}
use Rattle.wg_subres.proofs.Covered.{or_both, no_line, views_cover, copies_cover}

and_none : (b : Bool) → b && false ≡ false
and_none true = refl
and_none false = refl

and_all : (b : Bool) → b && true ≡ b
and_all true = refl
and_all false = refl

or_and : (a b k : Bool) → (a && k) || (b && k) ≡ (a || b) && k
or_and true b k = or_both k b
or_and false b k = refl

-- Layers have the cells of their parts that are layers,
abbrev is_layer : Cell → Bool
is_layer (Byte object at) = false
is_layer (Texels object aspect mip layer) = true
is_layer (Slice object mip at) = false
is_layer (Query object at) = false

layers_are : (object : ℕ) (aspect : Aspect) (mip lo hi : ℕ) (c : Cell) → covers (Layers object aspect mip lo hi) c ≡ covers_part (LayerParts object aspect mip lo hi) (part_of c) && is_layer c
unfolding covers covers_part
layers_are object aspect mip lo hi (Byte o at) = no_line (object == o) (in_range lo hi at) ∙ sym (and_none _)
layers_are object aspect mip lo hi (Texels o a m layer) = sym (and_all _)
layers_are object aspect mip lo hi (Slice o m at) = no_line (object == o) (in_range lo hi at) ∙ sym (and_none _)
layers_are object aspect mip lo hi (Query o at) = no_line (object == o) (in_range lo hi at) ∙ sym (and_none _)

-- and slices those of the one layer.
one_layer : (lo hi : ℕ) → IsOneLayer texture_dim.Three lo hi → in_range lo hi 0 ≡ true
one_layer lo hi one = ap₂ (λ (x y : ℕ). in_range x y 0) one.0 one.1

slices_are : (object mip lo hi from to : ℕ) → IsOneLayer texture_dim.Three lo hi → (c : Cell) → covers (Slices object mip from to) c ≡ covers_part (LayerParts object Color mip lo hi) (part_of c) && is_cell_of texture_dim.Three from to c
unfolding covers covers_part
slices_are object mip lo hi from to one (Byte o at) = no_line (object == o) (in_range from to at) ∙ sym (and_none _)
slices_are object mip lo hi from to one (Texels o Color m layer) = no_line (object == o) (in_range from to layer) ∙ sym (and_none _)
slices_are object mip lo hi from to one (Texels o Depth m layer) = no_line (object == o) (in_range from to layer) ∙ sym (ap (λ b. b && true) (no_line (object == o) (in_range lo hi layer)))
slices_are object mip lo hi from to one (Texels o Stencil m layer) = no_line (object == o) (in_range from to layer) ∙ sym (ap (λ b. b && true) (no_line (object == o) (in_range lo hi layer)))
slices_are object mip lo hi from to one (Slice o m at) = ap (λ b. b && in_range from to at) (sym (ap (λ b. ((object == o) && ((mip == m) && true)) && b) (one_layer lo hi one) ∙ and_all ((object == o) && ((mip == m) && true))))
slices_are object mip lo hi from to one (Query o at) = no_line (object == o) (in_range from to at) ∙ sym (and_none _)

-- So it is with the cells of any texture.
depth_are : (object mip lo hi from to : ℕ) (c : Cell) → covers (Layers object Depth mip lo hi) c ≡ covers_part (LayerParts object Depth mip lo hi) (part_of c) && is_cell_of texture_dim.Three from to c
unfolding covers covers_part
depth_are object mip lo hi from to (Texels o Color m layer) = no_line (object == o) (in_range lo hi layer) ∙ sym (and_none _)
depth_are object mip lo hi from to (Slice o m at) = no_line (object == o) (in_range lo hi at) ∙ sym (ap (λ b. b && in_range from to at) (no_line (object == o) (in_range lo hi 0)))
depth_are object mip lo hi from to (Texels o Depth m layer) = sym (and_all _)
depth_are object mip lo hi from to (Texels o Stencil m layer) = sym (and_all _)
depth_are object mip lo hi from to (Byte o at) = no_line (object == o) (in_range lo hi at) ∙ sym (and_none _)
depth_are object mip lo hi from to (Query o at) = no_line (object == o) (in_range lo hi at) ∙ sym (and_none _)

stencil_are : (object mip lo hi from to : ℕ) (c : Cell) → covers (Layers object Stencil mip lo hi) c ≡ covers_part (LayerParts object Stencil mip lo hi) (part_of c) && is_cell_of texture_dim.Three from to c
unfolding covers covers_part
stencil_are object mip lo hi from to (Texels o Color m layer) = no_line (object == o) (in_range lo hi layer) ∙ sym (and_none _)
stencil_are object mip lo hi from to (Slice o m at) = no_line (object == o) (in_range lo hi at) ∙ sym (ap (λ b. b && in_range from to at) (no_line (object == o) (in_range lo hi 0)))
stencil_are object mip lo hi from to (Texels o Depth m layer) = sym (and_all _)
stencil_are object mip lo hi from to (Texels o Stencil m layer) = sym (and_all _)
stencil_are object mip lo hi from to (Byte o at) = no_line (object == o) (in_range lo hi at) ∙ sym (and_none _)
stencil_are object mip lo hi from to (Query o at) = no_line (object == o) (in_range lo hi at) ∙ sym (and_none _)

one_dim : (from to : ℕ) (c : Cell) → is_layer c ≡ is_cell_of texture_dim.One from to c
one_dim from to (Byte o at) = refl
one_dim from to (Texels o a m layer) = refl
one_dim from to (Slice o m at) = refl
one_dim from to (Query o at) = refl

two_dim : (from to : ℕ) (c : Cell) → is_layer c ≡ is_cell_of texture_dim.Two from to c
two_dim from to (Byte o at) = refl
two_dim from to (Texels o a m layer) = refl
two_dim from to (Slice o m at) = refl
two_dim from to (Query o at) = refl

cells_are : (dim : TextureDim) (object : ℕ) (aspect : Aspect) (mip lo hi from to : ℕ) → IsOneLayer dim lo hi → (c : Cell) → covers (texture_cells dim object aspect mip lo hi from to) c ≡ covers_part (LayerParts object aspect mip lo hi) (part_of c) && is_cell_of dim from to c
cells_are texture_dim.Three object Color mip lo hi from to one c = slices_are object mip lo hi from to one c
cells_are texture_dim.Three object Depth mip lo hi from to one c = depth_are object mip lo hi from to c
cells_are texture_dim.Three object Stencil mip lo hi from to one c = stencil_are object mip lo hi from to c
cells_are texture_dim.One object aspect mip lo hi from to one c = layers_are object aspect mip lo hi c ∙ ap (λ b. covers_part (LayerParts object aspect mip lo hi) (part_of c) && b) (one_dim from to c)
cells_are texture_dim.Two object aspect mip lo hi from to one c = layers_are object aspect mip lo hi c ∙ ap (λ b. covers_part (LayerParts object aspect mip lo hi) (part_of c) && b) (two_dim from to c)

-- The cells of a copy.
copy_are : (dim : TextureDim) (object mip lo hi from to : ℕ) (aspects : List Aspect) → IsOneLayer dim lo hi → (c : Cell)
    → list_any (λ run. covers run c) (map (λ aspect. texture_cells dim object aspect mip lo hi from to) aspects) ≡ list_any (λ run. covers_part run (part_of c)) (map (λ aspect. LayerParts object aspect mip lo hi) aspects) && is_cell_of dim from to c
copy_are dim object mip lo hi from to [] one c = refl
copy_are dim object mip lo hi from to (aspect ∷ aspects) one c =
    ap₂ ◌||◌ (cells_are dim object aspect mip lo hi from to one c) (copy_are dim object mip lo hi from to aspects one c)
    ∙ or_and (covers_part (LayerParts object aspect mip lo hi) (part_of c)) (list_any (λ run. covers_part run (part_of c)) (map (λ aspect. LayerParts object aspect mip lo hi) aspects)) (is_cell_of dim from to c)

if_are : (b : Bool) (dim : TextureDim) (object mip lo hi from to : ℕ) (aspects : List Aspect) → IsOneLayer dim lo hi → (c : Cell)
    → list_any (λ run. covers run c) (if b then map (λ aspect. texture_cells dim object aspect mip lo hi from to) aspects else []) ≡ list_any (λ run. covers_part run (part_of c)) (if b then map (λ aspect. LayerParts object aspect mip lo hi) aspects else []) && is_cell_of dim from to c
if_are true dim object mip lo hi from to aspects one c = copy_are dim object mip lo hi from to aspects one c
if_are false dim object mip lo hi from to aspects one c = refl

layers_accessed : (texture : ℕ) (info : TextureInfo) (spot : TextureSpot) (size : List ℕ) (c : Cell)
    → is_accessed (copied_cells texture info spot size) c ≡ is_covered (copied_layers texture info spot size) (part_of c) && is_cell_of info.dim (depth spot.origin) (depth spot.origin + depth size) c
unfolding copied_cells
layers_accessed texture info spot size c =
    if_are (nat_lt (first_layer info.dim spot.origin) (end_layer info.dim spot.origin size)) info.dim texture spot.mip (first_layer info.dim spot.origin) (end_layer info.dim spot.origin size) (depth spot.origin) (depth spot.origin + depth size) (named_aspects spot.aspect (row info.format).aspects)
    (copy_one_layer info.dim spot.origin size) c

pub copied_cells_are : CopiedCellsAre
copied_cells_are texture info spot size c =
    layers_accessed texture info spot size c
    ∙ ap (λ b. b && is_cell_of info.dim (depth spot.origin) (depth spot.origin + depth size) c)
    (ap (λ runs. is_covered runs (part_of c)) (sym (runs_of_copy texture info spot size)) ∙ copies_cover texture info spot size (part_of c))

-- The cells of a view, of which each slice is one of its own mip level.
other_level : (x y z : Bool) → (x && (y && (false && true))) && z ≡ false
other_level false y z = refl
other_level true false z = refl
other_level true true z = refl

at_level : (info : TextureInfo) (object : ℕ) (aspect : Aspect) (mip lo hi : ℕ) (c : Cell)
    → covers_part (LayerParts object aspect mip lo hi) (part_of c) && is_cell_of info.dim 0 (depth (extent info mip)) c ≡ covers_part (LayerParts object aspect mip lo hi) (part_of c) && is_cell_of info.dim 0 (depth (extent info (cell_mip c))) c
unfolding covers_part
at_level info object aspect mip lo hi (Byte o at) = refl
at_level info object aspect mip lo hi (Texels o a m layer) = refl
at_level info object aspect mip lo hi (Query o at) = refl
at_level info object aspect mip lo hi (Slice o m at) = by_level (mip == m) refl
  where
    without : mip == m ≡ false → ((object == o) && ((aspect_number aspect == 0) && ((mip == m) && true))) && in_range lo hi 0 ≡ false
    without e = ap (λ b. ((object == o) && ((aspect_number aspect == 0) && (b && true))) && in_range lo hi 0) e ∙ other_level (object == o) (aspect_number aspect == 0) (in_range lo hi 0)

    by_level : (b : Bool) → mip == m ≡ b → covers_part (LayerParts object aspect mip lo hi) (part_of (Slice o m at)) && is_cell_of info.dim 0 (depth (extent info mip)) (Slice o m at) ≡ covers_part (LayerParts object aspect mip lo hi) (part_of (Slice o m at)) && is_cell_of info.dim 0 (depth (extent info m)) (Slice o m at)
    by_level true e = ap (λ n. covers_part (LayerParts object aspect mip lo hi) (part_of (Slice o m at)) && is_cell_of info.dim 0 (depth (extent info n)) (Slice o m at)) (eqb-true mip m e)
    by_level false e = ap (λ b. b && is_cell_of info.dim 0 (depth (extent info mip)) (Slice o m at)) (without e) ∙ sym (ap (λ b. b && is_cell_of info.dim 0 (depth (extent info m)) (Slice o m at)) (without e))

levels_are : (info : TextureInfo) (object lo hi : ℕ) (mips : List ℕ) (aspect : Aspect) → IsOneLayer info.dim lo hi → (c : Cell)
    → list_any (λ run. covers run c) (map (run_cells info) (level_runs object lo hi mips aspect)) ≡ list_any (λ run. covers_part run (part_of c)) (level_runs object lo hi mips aspect) && is_cell_of info.dim 0 (depth (extent info (cell_mip c))) c
levels_are info object lo hi [] aspect one c = refl
levels_are info object lo hi (mip ∷ mips) aspect one c =
    ap₂ ◌||◌ (cells_are info.dim object aspect mip lo hi 0 (depth (extent info mip)) one c ∙ at_level info object aspect mip lo hi c) (levels_are info object lo hi mips aspect one c)
    ∙ or_and (covers_part (LayerParts object aspect mip lo hi) (part_of c)) (list_any (λ run. covers_part run (part_of c)) (level_runs object lo hi mips aspect)) (is_cell_of info.dim 0 (depth (extent info (cell_mip c))) c)

aspects_are : (info : TextureInfo) (object lo hi : ℕ) (mips : List ℕ) (aspects : List Aspect) → IsOneLayer info.dim lo hi → (c : Cell)
    → list_any (λ run. covers run c) (map (run_cells info) (aspect_runs object lo hi mips aspects)) ≡ list_any (λ run. covers_part run (part_of c)) (aspect_runs object lo hi mips aspects) && is_cell_of info.dim 0 (depth (extent info (cell_mip c))) c
aspects_are info object lo hi mips [] one c = refl
aspects_are info object lo hi mips (aspect ∷ aspects) one c =
    ap (λ runs. list_any (λ run. covers run c) (map (run_cells info) runs)) (flat_map-cons (level_runs object lo hi mips) aspect aspects)
    ∙ (ap (list_any (λ run. covers run c)) (map-append (run_cells info) (level_runs object lo hi mips aspect) (aspect_runs object lo hi mips aspects))
    ∙ (list_any-append (λ run. covers run c) (map (run_cells info) (level_runs object lo hi mips aspect)) (map (run_cells info) (aspect_runs object lo hi mips aspects))
    ∙ (ap₂ ◌||◌ (levels_are info object lo hi mips aspect one c) (aspects_are info object lo hi mips aspects one c)
    ∙ (or_and (list_any (λ run. covers_part run (part_of c)) (level_runs object lo hi mips aspect)) (list_any (λ run. covers_part run (part_of c)) (aspect_runs object lo hi mips aspects)) (is_cell_of info.dim 0 (depth (extent info (cell_mip c))) c)
    ∙ ap (λ b. b && is_cell_of info.dim 0 (depth (extent info (cell_mip c))) c)
    (sym (list_any-append (λ run. covers_part run (part_of c)) (level_runs object lo hi mips aspect) (aspect_runs object lo hi mips aspects))
    ∙ ap (list_any (λ run. covers_part run (part_of c))) (sym (flat_map-cons (level_runs object lo hi mips) aspect aspects)))))))

view_accessed : (view : ViewInfo) (c : Cell)
    → is_accessed (view_cells view) c ≡ is_covered (view_runs view) (part_of c) && is_cell_of view.texture_info.dim 0 (depth (extent view.texture_info (cell_mip c))) c
unfolding view_runs
view_accessed view c = by_layers (nat_lt view.base_layer (min (view.base_layer + view.layers) (layer_count view.texture_info))) refl
  where
    by_layers : (b : Bool) → nat_lt view.base_layer (min (view.base_layer + view.layers) (layer_count view.texture_info)) ≡ b
        → list_any (λ run. covers run c) (map (run_cells view.texture_info) (if b then aspect_runs view.texture.number view.base_layer (min (view.base_layer + view.layers) (layer_count view.texture_info)) (numbers view.base_mip (min (view.base_mip + view.mips) view.texture_info.mips)) (named_aspects view.aspect (row view.texture_info.format).aspects) else []))
        ≡ list_any (λ run. covers_part run (part_of c)) (if b then aspect_runs view.texture.number view.base_layer (min (view.base_layer + view.layers) (layer_count view.texture_info)) (numbers view.base_mip (min (view.base_mip + view.mips) view.texture_info.mips)) (named_aspects view.aspect (row view.texture_info.format).aspects) else []) && is_cell_of view.texture_info.dim 0 (depth (extent view.texture_info (cell_mip c))) c
    by_layers true e = aspects_are view.texture_info view.texture.number view.base_layer (min (view.base_layer + view.layers) (layer_count view.texture_info)) (numbers view.base_mip (min (view.base_mip + view.mips) view.texture_info.mips)) (named_aspects view.aspect (row view.texture_info.format).aspects) (view_one_layer view.texture_info.dim view.texture_info.size view.base_layer view.layers e) c
    by_layers false e = refl

pub view_cells_are : ViewCellsAre
view_cells_are view c = view_accessed view c ∙ ap (λ b. b && is_cell_of view.texture_info.dim 0 (depth (extent view.texture_info (cell_mip c))) c) (views_cover view (part_of c))
