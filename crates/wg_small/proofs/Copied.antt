-- The ranges of a copy that lies in a texture within the limits are small.
use Rattle.std.specs.Prelude.{max, nat_lt, nat_le}
use Rattle.std.proofs.Common.{◌≡◌, ℕ, zero, suc, ◌+◌, ◌-◌, ◌*◌, ◌/◌, ◌^◌, ◌<◌, ◌≤◌, ◌==◌, ◌&&◌, ◌||◌, List, [], ◌∷◌, map, Bool, true, false, subst, arith, if◌then◌else◌, div-le_self, lit<}
use Rattle.std.proofs.lemmas.Bool.{and_parts, eqb-true, ltb-true, leb-true}
use Rattle.std.proofs.lemmas.Grind.{pow_more}
use Rattle.wg_types.specs.declared.limits.Limits.{Limits}
use Rattle.wg_trace.specs.declared.parts.Aspect.{Aspect}
use Rattle.wg_trace.specs.declared.parts.Aspect.TheVariants.{Color, Depth, Stencil}
use Rattle.wg_types.specs.declared.textures.TextureDim.{TextureDim}
use Rattle.wg_types.specs.declared.textures.TextureDim.TheVariants as texture_dim
use Rattle.wg_types.specs.declared.textures.TextureInfo.{TextureInfo}
use Rattle.wg_types.specs.declared.textures.TextureSpot.{TextureSpot}
use Rattle.wg_types.specs.Formats.{row}
use Rattle.wg_types.specs.Textures.{width, height, depth}
use Rattle.wg_limits.specs.declared.names.LimitName.TheVariants.{MaxTextureDimension2d, MaxTextureDimension3d, MaxTextureArrayLayers}
use Rattle.wg_rows.specs.Rows.{EachRow}
use Rattle.wg_rows.specs.Runs.{Cells, run_part}
use Rattle.wg_model.specs.Formats.{named_aspects, is_color}
use Rattle.wg_model.specs.Textures.{within_limits, mips_fit, extent_at, extent}
use Rattle.wg_model.specs.Subresources.{first_layer, end_layer, texture_cells, copied_cells}
use Rattle.wg_model.specs.TexelCopies.{lies_in, spans, spot_fits}
use Rattle.wg_readtrace.specs.Forms.{most_32}
use Rattle.wg_small.specs.Small.{IsSmallRange, HaveSmallRange}
use Rattle.wg_limits.specs.Limits.{AreNoBetter}

-- A number is below its power of two.
below_power : (n : ℕ) → n < 2 ^ n
below_power zero = lit< tt
below_power (suc n) =
    let more : 2 ^ (n + 1) ≡ 2 ^ n * 2 = pow_more 2 n in
    let before : n < 2 ^ n = below_power n in
    subst (λ (k : ℕ). suc n < 2 ^ k) (let same : n + 1 ≡ suc n = omega arith in same) (omega (arith, more, before))

pub depth_small : (limits : Limits) (dim : TextureDim) (size : List ℕ) (mip : ℕ) → AreNoBetter limits → within_limits limits dim size ≡ true → depth (extent_at dim size mip) ≤ 16384
depth_small limits texture_dim.One size mip best e = let one : depth size ≡ 1 = eqb-true (depth size) 1 (and_parts (nat_le (width size) limits.max_texture_dimension_1d && height size == 1) (depth size == 1) e).1 in omega (arith, one)
depth_small limits texture_dim.Two size mip best e =
    let few : depth size ≤ limits.max_texture_array_layers = leb-true (depth size) limits.max_texture_array_layers (and_parts (nat_le (width size) limits.max_texture_dimension_2d && nat_le (height size) limits.max_texture_dimension_2d) (nat_le (depth size) limits.max_texture_array_layers) e).1 in
    let most : limits.max_texture_array_layers ≤ 2048 = leb-true limits.max_texture_array_layers 2048 (best MaxTextureArrayLayers) in
    omega (arith, few, most)
depth_small limits texture_dim.Three size mip best e =
    let few : depth size ≤ limits.max_texture_dimension_3d = leb-true (depth size) limits.max_texture_dimension_3d (and_parts (nat_le (width size) limits.max_texture_dimension_3d && nat_le (height size) limits.max_texture_dimension_3d) (nat_le (depth size) limits.max_texture_dimension_3d) e).1 in
    let most : limits.max_texture_dimension_3d ≤ 4096 = leb-true limits.max_texture_dimension_3d 4096 (best MaxTextureDimension3d) in
    let less : depth size / 2 ^ mip ≤ depth size = div-le_self (depth size) (2 ^ mip) in
    omega (arith, few, most, less)

pub mips_small : (limits : Limits) (dim : TextureDim) (size : List ℕ) (mips : ℕ) → AreNoBetter limits → within_limits limits dim size ≡ true → mips_fit dim size mips ≡ true → mips ≤ 16385
mips_small limits texture_dim.One size mips best e f = let one : mips ≡ 1 = eqb-true mips 1 f in omega (arith, one)
mips_small limits texture_dim.Two size mips best e f =
    let wide : width size ≤ limits.max_texture_dimension_2d = leb-true (width size) limits.max_texture_dimension_2d (and_parts (nat_le (width size) limits.max_texture_dimension_2d) (nat_le (height size) limits.max_texture_dimension_2d) (and_parts (nat_le (width size) limits.max_texture_dimension_2d && nat_le (height size) limits.max_texture_dimension_2d) (nat_le (depth size) limits.max_texture_array_layers) e).0).0 in
    let high : height size ≤ limits.max_texture_dimension_2d = leb-true (height size) limits.max_texture_dimension_2d (and_parts (nat_le (width size) limits.max_texture_dimension_2d) (nat_le (height size) limits.max_texture_dimension_2d) (and_parts (nat_le (width size) limits.max_texture_dimension_2d && nat_le (height size) limits.max_texture_dimension_2d) (nat_le (depth size) limits.max_texture_array_layers) e).0).1 in
    let most : limits.max_texture_dimension_2d ≤ 16384 = leb-true limits.max_texture_dimension_2d 16384 (best MaxTextureDimension2d) in
    let power : 2 ^ (mips - 1) ≤ max (width size) (height size) = leb-true (2 ^ (mips - 1)) (max (width size) (height size)) (and_parts (nat_le 1 mips) (nat_le (2 ^ (mips - 1)) (max (width size) (height size))) f).1 in
    let below : mips - 1 < 2 ^ (mips - 1) = below_power (mips - 1) in
    omega (arith, wide, high, most, power, below)
mips_small limits texture_dim.Three size mips best e f =
    let wide : width size ≤ limits.max_texture_dimension_3d = leb-true (width size) limits.max_texture_dimension_3d (and_parts (nat_le (width size) limits.max_texture_dimension_3d) (nat_le (height size) limits.max_texture_dimension_3d) (and_parts (nat_le (width size) limits.max_texture_dimension_3d && nat_le (height size) limits.max_texture_dimension_3d) (nat_le (depth size) limits.max_texture_dimension_3d) e).0).0 in
    let high : height size ≤ limits.max_texture_dimension_3d = leb-true (height size) limits.max_texture_dimension_3d (and_parts (nat_le (width size) limits.max_texture_dimension_3d) (nat_le (height size) limits.max_texture_dimension_3d) (and_parts (nat_le (width size) limits.max_texture_dimension_3d && nat_le (height size) limits.max_texture_dimension_3d) (nat_le (depth size) limits.max_texture_dimension_3d) e).0).1 in
    let deep : depth size ≤ limits.max_texture_dimension_3d = leb-true (depth size) limits.max_texture_dimension_3d (and_parts (nat_le (width size) limits.max_texture_dimension_3d && nat_le (height size) limits.max_texture_dimension_3d) (nat_le (depth size) limits.max_texture_dimension_3d) e).1 in
    let most : limits.max_texture_dimension_3d ≤ 4096 = leb-true limits.max_texture_dimension_3d 4096 (best MaxTextureDimension3d) in
    let power : 2 ^ (mips - 1) ≤ max (max (width size) (height size)) (depth size) = leb-true (2 ^ (mips - 1)) (max (max (width size) (height size)) (depth size)) (and_parts (nat_le 1 mips) (nat_le (2 ^ (mips - 1)) (max (max (width size) (height size)) (depth size))) f).1 in
    let below : mips - 1 < 2 ^ (mips - 1) = below_power (mips - 1) in
    omega (arith, wide, high, deep, most, power, below)

-- cells of small ranges, and their parts
abbrev pub CellsAreSmall : Cells → Type 0
CellsAreSmall run = IsSmallRange (run_part run) × HaveSmallRange run

pub one_small : (dim : TextureDim) (object : ℕ) (aspect : Aspect) (mip lo hi from to : ℕ) → mip ≤ most_32 → hi ≤ most_32 → to ≤ most_32 → CellsAreSmall (texture_cells dim object aspect mip lo hi from to)
one_small texture_dim.Three object Color mip lo hi from to a b c = ((a, omega arith), (a, c))
one_small texture_dim.Three object Depth mip lo hi from to a b c = ((a, b), (a, b))
one_small texture_dim.Three object Stencil mip lo hi from to a b c = ((a, b), (a, b))
one_small texture_dim.One object aspect mip lo hi from to a b c = ((a, b), (a, b))
one_small texture_dim.Two object aspect mip lo hi from to a b c = ((a, b), (a, b))

layers_small : (dim : TextureDim) (object mip lo hi from to : ℕ) (aspects : List Aspect) → mip ≤ most_32 → hi ≤ most_32 → to ≤ most_32 → EachRow CellsAreSmall (map (λ aspect. texture_cells dim object aspect mip lo hi from to) aspects)
layers_small dim object mip lo hi from to [] a b c = tt
layers_small dim object mip lo hi from to (aspect ∷ aspects) a b c = (one_small dim object aspect mip lo hi from to a b c, layers_small dim object mip lo hi from to aspects a b c)

end_small : (dim : TextureDim) (origin size : List ℕ) → depth origin + depth size ≤ 16384 → end_layer dim origin size ≤ most_32
end_small texture_dim.Two origin size h = omega (arith, h)
end_small texture_dim.One origin size h = omega arith
end_small texture_dim.Three origin size h = omega arith

pub copied_small : (limits : Limits) (object : ℕ) (info : TextureInfo) (spot : TextureSpot) (size : List ℕ) → AreNoBetter limits → within_limits limits info.dim info.size ≡ true → mips_fit info.dim info.size info.mips ≡ true
    → spot_fits info spot size ≡ true → EachRow CellsAreSmall (copied_cells object info spot size)
unfolding copied_cells spot_fits extent
copied_small limits object info spot size best within mips fits =
    let whole : List ℕ = extent_at info.dim info.size spot.mip in
    let place = and_parts (nat_lt spot.mip info.mips) (lies_in whole spot.origin size) (and_parts (nat_lt spot.mip info.mips && lies_in whole spot.origin size) ((is_color info.format && info.samples == 1) || spans whole size) fits).0 in
    let early : spot.mip < info.mips = ltb-true spot.mip info.mips place.0 in
    let count : info.mips ≤ 16385 = mips_small limits info.dim info.size info.mips best within mips in
    let level : spot.mip ≤ most_32 = omega (arith, early, count) in
    let inside : depth spot.origin + depth size ≤ depth (extent_at info.dim info.size spot.mip) = leb-true (depth spot.origin + depth size) (depth (extent_at info.dim info.size spot.mip)) (and_parts (nat_le (width spot.origin + width size) (width whole) && nat_le (height spot.origin + height size) (height whole)) (nat_le (depth spot.origin + depth size) (depth whole)) place.1).1 in
    let deep : depth (extent_at info.dim info.size spot.mip) ≤ 16384 = depth_small limits info.dim info.size spot.mip best within in
    let end : depth spot.origin + depth size ≤ 16384 = omega (arith, inside, deep) in
    by_layers (nat_lt (first_layer info.dim spot.origin) (end_layer info.dim spot.origin size)) level end
  where
    by_layers : (b : Bool) → spot.mip ≤ most_32 → depth spot.origin + depth size ≤ 16384
        → EachRow CellsAreSmall (if b then map (λ aspect. texture_cells info.dim object aspect spot.mip (first_layer info.dim spot.origin) (end_layer info.dim spot.origin size) (depth spot.origin) (depth spot.origin + depth size)) (named_aspects spot.aspect (row info.format).aspects) else [])
    by_layers true level end =
        layers_small info.dim object spot.mip (first_layer info.dim spot.origin) (end_layer info.dim spot.origin size) (depth spot.origin) (depth spot.origin + depth size) (named_aspects spot.aspect (row info.format).aspects)
        level (end_small info.dim spot.origin size end) (omega (arith, end))
    by_layers false level end = tt
