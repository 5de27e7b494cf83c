-- Which subresources a view and a copy have, told one by one, and that their runs have just these.
use Rattle.std.specs.Prelude.{◌≡◌, ℕ, ◌+◌, ◌==◌, nat_lt, Bool, true, false, not, ◌&&◌, List, map}
use Rattle.std.specs.List.{list_any}
use Rattle.wg_types.specs.declared.textures.TextureDim.{TextureDim}
use Rattle.wg_types.specs.declared.textures.TextureDim.TheVariants as texture_dim
use Rattle.wg_types.specs.declared.textures.TextureInfo.{TextureInfo}
use Rattle.wg_types.specs.declared.textures.TextureSpot.{TextureSpot}
use Rattle.wg_types.specs.declared.textures.ViewInfo.{ViewInfo}
use Rattle.wg_types.specs.Formats.{row}
use Rattle.wg_types.specs.Textures.{depth}
use Rattle.wg_rows.specs.Rows.{in_range, Apart}
use Rattle.wg_rows.specs.Runs.{Aspect, Color, Part, Buffer, Subresource, QuerySet, PartRun, covers_part, part_sort, Cells, Cell, Byte, Texels, Slice, Query, covers, cell_sort, part_of, run_part}
use Rattle.wg_rows.specs.Uses.{Usages, printed_uses, AccessKind, printed_accesses}
use Rattle.wg_model.specs.Formats.{named_aspects}
use Rattle.wg_model.specs.Textures.{layer_count, extent}
use Rattle.wg_model.specs.Subresources.{view_runs, view_cells, first_layer, end_layer, copied_cells, copy_runs, is_aspect_of, copies_meet, views_meet, has_no_texel}

-- Whether a view has a part: a subresource of its texture, of an aspect that it names, with mip level and layer in its
-- ranges and in the texture.
abbrev pub view_has : ViewInfo → Part → Bool
view_has view (Subresource object aspect mip layer) =
    view.texture.number == object
    && (is_aspect_of aspect (named_aspects view.aspect (row view.texture_info.format).aspects)
    && ((in_range view.base_mip (view.base_mip + view.mips) mip && nat_lt mip view.texture_info.mips)
    && (in_range view.base_layer (view.base_layer + view.layers) layer && nat_lt layer (layer_count view.texture_info))))
view_has view (Buffer object) = false
view_has view (QuerySet object) = false

-- Whether a copy has a part: a subresource of its texture, of an aspect that it names, at its mip level, with the layer in
-- its range.
abbrev pub copy_has : ℕ → TextureInfo → TextureSpot → List ℕ → Part → Bool
copy_has texture info spot size (Subresource object aspect mip layer) =
    texture == object
    && (is_aspect_of aspect (named_aspects spot.aspect (row info.format).aspects)
    && (spot.mip == mip
    && in_range (first_layer info.dim spot.origin) (end_layer info.dim spot.origin size) layer))
copy_has texture info spot size (Buffer object) = false
copy_has texture info spot size (QuerySet object) = false

-- whether one of these runs has a part
abbrev pub is_covered : List PartRun → Part → Bool
is_covered runs part = list_any (λ run. covers_part run part) runs

-- whether one of these runs has a cell
abbrev pub is_accessed : List Cells → Cell → Bool
is_accessed cells cell = list_any (λ run. covers run cell) cells

-- The runs of a view cover what it has,
abbrev pub ViewsCover : Type 0
ViewsCover = (view : ViewInfo) (part : Part) → is_covered (view_runs view) part ≡ view_has view part

-- The runs of a copy cover just the subresources that it has.
abbrev pub CopiesCover : Type 0
CopiesCover =
    (texture : ℕ) (info : TextureInfo) (spot : TextureSpot) (size : List ℕ) (part : Part)
    → is_covered (copy_runs texture info spot size) part ≡ copy_has texture info spot size part

-- The cells of a view lie in just its runs, one of one, and so each in a part that the view has.
pub record ViewCellsLie : Type 0 where
  pub runs : (view : ViewInfo) → map run_part (view_cells view) ≡ view_runs view
  pub lie : (view : ViewInfo) (cell : Cell) → is_accessed (view_cells view) cell ≡ true → view_has view (part_of cell) ≡ true

-- Each cell that a copy accesses lies in a part that it has.
abbrev pub CopiedCellsLie : Type 0
CopiedCellsLie =
    (texture : ℕ) (info : TextureInfo) (spot : TextureSpot) (size : List ℕ) (cell : Cell)
    → is_accessed (copied_cells texture info spot size) cell ≡ true
    → copy_has texture info spot size (part_of cell) ≡ true

-- whether the cells of an aspect of such a texture are slices of its one layer, as those of the color of a 3D texture are, and else
-- layers
abbrev pub is_in_slices : TextureDim → Aspect → Bool
is_in_slices texture_dim.Three Color = true
is_in_slices _ aspect = false

-- whether such a texture has cells like this one; of slices those from one on, up to but not including another
abbrev pub is_cell_of : TextureDim → ℕ → ℕ → Cell → Bool
is_cell_of dim from to (Byte object at) = false
is_cell_of dim from to (Texels object aspect mip layer) = not (is_in_slices dim aspect)
is_cell_of dim from to (Slice object mip at) = is_in_slices dim Color && in_range from to at
is_cell_of dim from to (Query object at) = false

-- the mip level of a cell of a texture
abbrev pub cell_mip : Cell → ℕ
cell_mip (Byte object at) = 0
cell_mip (Texels object aspect mip layer) = mip
cell_mip (Slice object mip at) = mip
cell_mip (Query object at) = 0

-- A view has just the cells of the parts that it has, of a 3D texture all slices of each mip level,
abbrev pub ViewCellsAre : Type 0
ViewCellsAre =
    (view : ViewInfo) (cell : Cell)
    → is_accessed (view_cells view) cell
    ≡ view_has view (part_of cell) && is_cell_of view.texture_info.dim 0 (depth (extent view.texture_info (cell_mip cell))) cell

-- and a copy accesses just those of the parts that it has, of a 3D texture as many slices as its depth, from its origin on.
abbrev pub CopiedCellsAre : Type 0
CopiedCellsAre =
    (texture : ℕ) (info : TextureInfo) (spot : TextureSpot) (size : List ℕ) (cell : Cell)
    → is_accessed (copied_cells texture info spot size) cell
    ≡ copy_has texture info spot size (part_of cell) && is_cell_of info.dim (depth spot.origin) (depth spot.origin + depth size) cell

-- Two copies within one texture meet exactly where some part is in both.
pub record CopiesMeet : Type 0 where
  pub shared : (texture : ℕ) (source : TextureInfo) (from : TextureSpot) (target : TextureInfo) (to : TextureSpot) (size : List ℕ)
      → copies_meet source from target to size ≡ true
      → (part : Part) × ((copy_has texture source from size part ≡ true) × (copy_has texture target to size part ≡ true))
  pub only : (texture : ℕ) (source : TextureInfo) (from : TextureSpot) (target : TextureInfo) (to : TextureSpot) (size : List ℕ) (part : Part)
      → copy_has texture source from size part ≡ true → copy_has texture target to size part ≡ true
      → copies_meet source from target to size ≡ true

-- Two views meet exactly where some part is in both.
pub record ViewsMeet : Type 0 where
  pub shared : (a b : ViewInfo) → views_meet a b ≡ true → (part : Part) × ((view_has a part ≡ true) × (view_has b part ≡ true))
  pub only : (a b : ViewInfo) (part : Part) → view_has a part ≡ true → view_has b part ≡ true → views_meet a b ≡ true

-- the runs, each used in this way
abbrev pub all_used : Usages → List PartRun → List (PartRun × Usages)
all_used usage runs = map (λ (run : PartRun). (run, usage)) runs

-- Used in one way the runs of a view are in printed form,
pub record ViewsPrinted : Type 0 where
  pub apart : (view : ViewInfo) (usage : Usages) → Apart part_sort (all_used usage (view_runs view))
  pub printed : (view : ViewInfo) (usage : Usages) → printed_uses (all_used usage (view_runs view)) ≡ all_used usage (view_runs view)

-- The runs of a copy, used in one way, are in printed form.
pub record CopiesPrinted : Type 0 where
  pub apart : (texture : ℕ) (info : TextureInfo) (spot : TextureSpot) (size : List ℕ) (usage : Usages)
      → Apart part_sort (all_used usage (copy_runs texture info spot size))
  pub printed : (texture : ℕ) (info : TextureInfo) (spot : TextureSpot) (size : List ℕ) (usage : Usages)
      → printed_uses (all_used usage (copy_runs texture info spot size)) ≡ all_used usage (copy_runs texture info spot size)

-- the cells, each accessed in this way
abbrev pub all_accessed : AccessKind → List Cells → List (Cells × AccessKind)
all_accessed kind cells = map (λ (run : Cells). (run, kind)) cells

-- Accessed in one way the cells of a copy are in printed form too, if it has a texel.
pub record CellsPrinted : Type 0 where
  pub apart : (texture : ℕ) (info : TextureInfo) (spot : TextureSpot) (size : List ℕ) (kind : AccessKind)
      → has_no_texel size ≡ false
      → Apart cell_sort (all_accessed kind (copied_cells texture info spot size))
  pub printed : (texture : ℕ) (info : TextureInfo) (spot : TextureSpot) (size : List ℕ) (kind : AccessKind)
      → has_no_texel size ≡ false
      → printed_accesses (all_accessed kind (copied_cells texture info spot size)) ≡ all_accessed kind (copied_cells texture info spot size)
