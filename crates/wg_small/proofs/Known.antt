-- What is known of valid objects is small, and so is what handles tell of them.
use Rattle.std.specs.Prelude.{min, nat_lt}
use Rattle.std.specs.Option.{option_map_or}
use Rattle.std.proofs.Common.{◌≡◌, ℕ, ◌+◌, ◌<◌, ◌≤◌, List, [], ◌∷◌, map, Bool, true, false, None, refl, arith, unwrap_or, if◌then◌else◌}
use Rattle.std.proofs.lemmas.Bool.{and_parts, ltb-true}
use Rattle.wg_types.specs.Handles.{HandleValue}
use Rattle.wg_types.specs.Formats.{row}
use Rattle.wg_types.specs.Textures.{depth}
use Rattle.wg_types.specs.declared.bindings.BoundEntry.{BoundEntry}
use Rattle.wg_types.specs.declared.bindings.BoundResource.{BoundResource}
use Rattle.wg_types.specs.declared.bindings.BoundResource.TheVariants.{Buffer as BoundBuffer, View as BoundView, Sampler as BoundSampler}
use Rattle.wg_types.specs.declared.bundles.BundleTouch.{BundleTouch}
use Rattle.wg_types.specs.declared.handles.Info.{Info}
use Rattle.wg_types.specs.declared.handles.Info.TheVariants.{Buffer, Texture, View, Group, Queries, Bundle}
use Rattle.wg_types.specs.declared.limits.Limits.{Limits}
use Rattle.wg_trace.specs.declared.parts.Aspect.{Aspect}
use Rattle.wg_types.specs.declared.textures.TextureDim.{TextureDim}
use Rattle.wg_types.specs.declared.textures.TextureDim.TheVariants as texture_dim
use Rattle.wg_types.specs.declared.textures.TextureInfo.{TextureInfo}
use Rattle.wg_types.specs.declared.textures.TextureSpot.{TextureSpot}
use Rattle.wg_types.specs.declared.textures.ViewInfo.{ViewInfo}
use Rattle.wg_limits.specs.Limits.{AreNoBetter}
use Rattle.wg_rows.specs.Rows.{EachRow, numbers}
use Rattle.wg_rows.specs.Runs.{PartRun, LayerParts, Cells}
use Rattle.wg_readtrace.specs.Forms.{most_32, most_53}
use Rattle.wg_model.specs.Commands.{no_texture, buffer_of, texture_of, queries_of, buffer_or_none, texture_or_none, queries_or_none}
use Rattle.wg_model.specs.Formats.{named_aspects}
use Rattle.wg_model.specs.Textures.{within_limits, mips_fit, extent_at, extent, layers_in, layer_count}
use Rattle.wg_model.specs.TexelCopies.{spot_fits}
use Rattle.wg_model.specs.Subresources.{level_runs, aspect_runs, view_runs, run_cells, view_cells, copied_cells}
use Rattle.wg_model.specs.Making.{no_view}
use Rattle.wg_model.specs.Attachments.{view_in, attachment_of, handle_cells}
use Rattle.wg_model.proofs.StepLaws.{each_joined}
use Rattle.wg_small.specs.Small.{HaveSmallRange}
use Rattle.wg_small.proofs.Ranges.{ranged}
use Rattle.wg_small.proofs.Copied.{CellsAreSmall, depth_small, mips_small, one_small, copied_small}

-- cells of small ranges
abbrev pub AreSmall : List Cells → Type 0
AreSmall cells = EachRow HaveSmallRange cells

-- a texture has few mip levels, layers and slices, and what is copied of it lies within it
pub record IsSmallTexture (info : TextureInfo) : Type 0 where
  pub mips : info.mips ≤ most_32
  pub layers : layer_count info ≤ most_32
  pub deep : (mip : ℕ) → depth (extent info mip) ≤ most_32
  pub copies : (object : ℕ) (spot : TextureSpot) (size : List ℕ) → spot_fits info spot size ≡ true → AreSmall (copied_cells object info spot size)

abbrev pub IsSmallBound : BoundResource → Type 0
IsSmallBound (BoundBuffer buffer known offset size) = known.size ≤ most_53
IsSmallBound (BoundView view known) = IsSmallTexture known.texture_info
IsSmallBound (BoundSampler sampler known) = Unit {0}

abbrev pub AreSmallEntries : List BoundEntry → Type 0
AreSmallEntries entries = EachRow (λ (entry : BoundEntry). IsSmallBound entry.resource) entries

abbrev pub AreSmallTouched : List BundleTouch → Type 0
AreSmallTouched touches = EachRow (λ (touch : BundleTouch). HaveSmallRange touch.cells) touches

abbrev pub IsSmallInfo : Info → Type 0
IsSmallInfo (Buffer known) = known.size ≤ most_53
IsSmallInfo (Texture known) = IsSmallTexture known
IsSmallInfo (View known) = IsSmallTexture known.texture_info
IsSmallInfo (Group known) = AreSmallEntries known.entries
IsSmallInfo (Queries known) = known.count ≤ most_32
IsSmallInfo (Bundle known) = AreSmallTouched known.touches
IsSmallInfo _ = Unit {0}

-- of an invalid object nothing is known
abbrev pub IsSmallHandle : HandleValue → Type 0
IsSmallHandle handle = handle.valid ≡ true → IsSmallInfo handle.info

-- textures
both_small : (cells : List Cells) → EachRow CellsAreSmall cells → AreSmall cells
both_small [] h = tt
both_small (run ∷ cells) h = (h.0.1, both_small cells h.1)

layers_small : (dim : TextureDim) (size : List ℕ) → depth (extent_at dim size 0) ≤ 16384 → layers_in dim size ≤ most_32
layers_small texture_dim.One size h = omega arith
layers_small texture_dim.Two size h = let most : depth size ≤ 16384 = h in omega (arith, most)
layers_small texture_dim.Three size h = omega arith

pub small_texture : (limits : Limits) (info : TextureInfo) → AreNoBetter limits → within_limits limits info.dim info.size ≡ true → mips_fit info.dim info.size info.mips ≡ true → IsSmallTexture info
unfolding extent
small_texture limits info best within mips = record {
  mips = let few : info.mips ≤ 16385 = mips_small limits info.dim info.size info.mips best within mips in omega (arith, few);
  layers = layers_small info.dim info.size (depth_small limits info.dim info.size 0 best within);
  deep = λ mip. let few : depth (extent_at info.dim info.size mip) ≤ 16384 = depth_small limits info.dim info.size mip best within in omega (arith, few);
  copies = λ object spot size fits. both_small (copied_cells object info spot size) (copied_small limits object info spot size best within mips fits);
}

none_below : (n : ℕ) → n < 0 → ⊥
none_below n e = omega (arith, e)

pub no_texture_small : IsSmallTexture no_texture
unfolding extent spot_fits
no_texture_small = record {
  mips = omega arith;
  layers = omega arith;
  deep = λ mip. omega arith;
  copies = λ object spot size fits. absurd (none_below spot.mip (ltb-true spot.mip 0 (and_parts _ _ (and_parts _ _ fits).0).0));
}

-- the cells of views
runs_small : (info : TextureInfo) (runs : List PartRun) → EachRow (λ (run : PartRun). HaveSmallRange (run_cells info run)) runs → AreSmall (map (run_cells info) runs)
runs_small info [] h = tt
runs_small info (run ∷ runs) h = (h.0, runs_small info runs h.1)

aspects_have : (P : PartRun → Type 0) (object lo hi from to : ℕ) (aspects : List Aspect) → ((of : Aspect) (mip : ℕ) → mip < to → P (LayerParts object of mip lo hi)) → EachRow P (aspect_runs object lo hi (numbers from to) aspects)
aspects_have P object lo hi from to [] h = tt
aspects_have P object lo hi from to (of ∷ aspects) h =
    each_joined P (level_runs object lo hi (numbers from to) of) (aspect_runs object lo hi (numbers from to) aspects) (ranged P (λ mip. LayerParts object of mip lo hi) from to (λ mip lt. h of mip lt))
    (aspects_have P object lo hi from to aspects h)

pub view_small : (view : ViewInfo) → IsSmallTexture view.texture_info → AreSmall (view_cells view)
unfolding view_runs
view_small view small = by_layers (nat_lt view.base_layer (min (view.base_layer + view.layers) (layer_count view.texture_info)))
  where
    one : (of : Aspect) (mip : ℕ) → mip < min (view.base_mip + view.mips) view.texture_info.mips
        → HaveSmallRange (run_cells view.texture_info (LayerParts view.texture.number of mip view.base_layer (min (view.base_layer + view.layers) (layer_count view.texture_info))))
    one of mip lt =
        let few : view.texture_info.mips ≤ most_32 = small.mips in
        let layers : layer_count view.texture_info ≤ most_32 = small.layers in
        (one_small view.texture_info.dim view.texture.number of mip view.base_layer (min (view.base_layer + view.layers) (layer_count view.texture_info)) 0 (depth (extent view.texture_info mip))
        (omega (arith, few, lt)) (omega (arith, layers)) (small.deep mip)).1

    by_layers : (b : Bool)
        → AreSmall (map (run_cells view.texture_info) (if b then aspect_runs view.texture.number view.base_layer (min (view.base_layer + view.layers) (layer_count view.texture_info)) (numbers view.base_mip (min (view.base_mip + view.mips) view.texture_info.mips)) (named_aspects view.aspect (row view.texture_info.format).aspects) else []))
    by_layers true =
        runs_small view.texture_info (aspect_runs view.texture.number view.base_layer (min (view.base_layer + view.layers) (layer_count view.texture_info)) (numbers view.base_mip (min (view.base_mip + view.mips) view.texture_info.mips)) (named_aspects view.aspect (row view.texture_info.format).aspects))
        (aspects_have (λ (run : PartRun). HaveSmallRange (run_cells view.texture_info run)) view.texture.number view.base_layer (min (view.base_layer + view.layers) (layer_count view.texture_info)) view.base_mip (min (view.base_mip + view.mips) view.texture_info.mips)
        (named_aspects view.aspect (row view.texture_info.format).aspects) one)
    by_layers false = tt

-- what handles tell
pub buffer_small : (handle : HandleValue) → handle.valid ≡ true → IsSmallHandle handle → (buffer_of handle).size ≤ most_53
buffer_small handle valid small = by_info handle.info (small valid)
  where
    by_info : (known : Info) → IsSmallInfo known → (buffer_or_none known).size ≤ most_53
    by_info (Buffer known) h = h
    by_info _ h = omega arith

pub texture_small : (handle : HandleValue) → handle.valid ≡ true → IsSmallHandle handle → IsSmallTexture (texture_of handle)
texture_small handle valid small = by_info handle.info (small valid)
  where
    by_info : (known : Info) → IsSmallInfo known → IsSmallTexture (texture_or_none known)
    by_info (Texture known) h = h
    by_info _ h = no_texture_small

pub queries_small : (handle : HandleValue) → handle.valid ≡ true → IsSmallHandle handle → (queries_of handle).count ≤ most_32
queries_small handle valid small = by_info handle.info (small valid)
  where
    by_info : (known : Info) → IsSmallInfo known → (queries_or_none known).count ≤ most_32
    by_info (Queries known) h = h
    by_info _ h = omega arith

pub attached_small : (handle : HandleValue) → IsSmallHandle handle → AreSmall (handle_cells handle)
attached_small handle small = by_valid handle.valid refl
  where
    by_info : (known : Info) → IsSmallInfo known → AreSmall (option_map_or view_cells (view_in known) [])
    by_info (View known) h = view_small known h
    by_info _ h = tt

    by_valid : (b : Bool) → handle.valid ≡ b → AreSmall (option_map_or view_cells (if b then view_in handle.info else None) [])
    by_valid true e = by_info handle.info (small e)
    by_valid false e = tt

pub attachment_small : (handle : HandleValue) → IsSmallHandle handle → IsSmallTexture (attachment_of handle).texture_info
attachment_small handle small = by_valid handle.valid refl
  where
    by_info : (known : Info) → IsSmallInfo known → IsSmallTexture (unwrap_or (view_in known) no_view).texture_info
    by_info (View known) h = h
    by_info _ h = no_texture_small

    by_valid : (b : Bool) → handle.valid ≡ b → IsSmallTexture (unwrap_or (if b then view_in handle.info else None) no_view).texture_info
    by_valid true e = by_info handle.info (small e)
    by_valid false e = no_texture_small
