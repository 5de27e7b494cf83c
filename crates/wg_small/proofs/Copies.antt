-- What commands on encoders touch is small.
use Rattle.std.specs.Option.{option_to_list, option_map_or}
use Rattle.std.proofs.Common.{◌≡◌, ℕ, ◌+◌, ◌*◌, ◌≤◌, ◌==◌, List, Bool, true, false, Option, Some, None, arith, nat_le, unwrap_or, true≢false, sym}
use Rattle.std.proofs.lemmas.Bool.{and_parts, leb-true}
use Rattle.wg_types.specs.declared.limits.Maker.{Maker}
use Rattle.wg_types.specs.Handles.{HandleValue}
use Rattle.wg_types.specs.Commands.{Command}
use Rattle.wg_types.specs.declared.commands.CommandOf.TheVariants.{CopyBufferToBuffer, CopyBufferToTexture, CopyTextureToBuffer, CopyTextureToTexture, ClearBuffer, ResolveQuerySet}
use Rattle.wg_types.specs.declared.textures.DataLayout.{DataLayout}
use Rattle.wg_types.specs.declared.textures.TextureSpot.{TextureSpot}
use Rattle.wg_rows.specs.Rows.{EachRow}
use Rattle.wg_rows.specs.Uses.{Read}
use Rattle.wg_readtrace.specs.Forms.{most_32, most_53}
use Rattle.wg_model.specs.Rules.{AreMet}
use Rattle.wg_model.specs.Commands.{buffer_of, texture_of, queries_of, size_or_rest, query_bytes, command_rules}
use Rattle.wg_model.specs.Formats.{texel_from, texel_to}
use Rattle.wg_model.specs.Subresources.{copied_cells, has_no_texel}
use Rattle.wg_model.specs.TexelCopies.{required, bytes_fit, bytes_in, whole_spot, spot_fits}
use Rattle.wg_model.specs.Touches.{Doing, unless, copy_src_usage, copy_dst_usage, target_kind, copied_to, copied_from, layout_bytes, encoder_does}
use Rattle.wg_model.specs.Walk.{encoder_gives}
use Rattle.wg_small.proofs.Known.{IsSmallHandle, buffer_small, texture_small, queries_small}
use Rattle.wg_small.proofs.Bound.{AreSmallTouches, mapped_small, both_touched}
use Rattle.wg_small.proofs.Meeting.{none_met, IsSmallCommand}

-- a step of small ranges
abbrev pub IsSmallDoing : Doing → Type 0
IsSmallDoing doing = AreSmallTouches doing.1

abbrev pub IsDoneSmall : Option Doing → Type 0
IsDoneSmall done = EachRow IsSmallDoing (option_to_list done)

unless_small : (b : Bool) (doing : Doing) → IsSmallDoing doing → IsDoneSmall (unless b doing)
unless_small true doing h = tt
unless_small false doing h = (h, tt)

-- a range that lies in a buffer
pub range_small : (buffer : HandleValue) (offset size : ℕ) → buffer.valid ≡ true → IsSmallHandle buffer → nat_le (offset + size) (buffer_of buffer).size ≡ true → offset + size ≤ most_53
range_small buffer offset size valid small e =
    let fits : offset + size ≤ (buffer_of buffer).size = leb-true (offset + size) (buffer_of buffer).size e in
    let few : (buffer_of buffer).size ≤ most_53 = buffer_small buffer valid small in
    omega (arith, fits, few)

layout_small : (buffer : HandleValue) (layout : DataLayout) (bytes : Option ℕ) (size : List ℕ) → buffer.valid ≡ true → IsSmallHandle buffer → bytes_fit layout (bytes_in bytes) size (buffer_of buffer).size ≡ true
    → layout.offset + layout_bytes layout bytes size ≤ most_53
layout_small buffer layout bytes size valid small e = by_required (required layout (bytes_in bytes) size) e
  where
    by_required : (o : Option ℕ) → option_map_or (λ count. nat_le (layout.offset + count) (buffer_of buffer).size) o false ≡ true → layout.offset + unwrap_or o 0 ≤ most_53
    by_required None e = absurd (true≢false (sym e))
    by_required (Some count) e = range_small buffer layout.offset count valid small e

copied : (texture : HandleValue) (spot : TextureSpot) (size : List ℕ) → texture.valid ≡ true → IsSmallHandle texture → spot_fits (texture_of texture) spot size ≡ true → AreSmallTouches (copied_to texture.reference.number (texture_of texture) spot size)
copied texture spot size valid small e =
    mapped_small (copy_dst_usage, target_kind (texture_of texture) spot size) (copied_cells texture.reference.number (texture_of texture) spot size) ((texture_small texture valid small).copies texture.reference.number spot size e)

read_from : (texture : HandleValue) (spot : TextureSpot) (size : List ℕ) → texture.valid ≡ true → IsSmallHandle texture → spot_fits (texture_of texture) spot size ≡ true → AreSmallTouches (copied_from texture.reference.number (texture_of texture) spot size)
read_from texture spot size valid small e =
    mapped_small (copy_src_usage, Read) (copied_cells texture.reference.number (texture_of texture) spot size) ((texture_small texture valid small).copies texture.reference.number spot size e)

pub encoder_small : (maker : Maker) (depth_ : ℕ) (command : Command) → IsSmallCommand command → encoder_gives maker None depth_ command ≡ None → IsDoneSmall (encoder_does command)
unfolding encoder_does
encoder_small maker depth_ (CopyBufferToBuffer source source_offset target target_offset size) small e =
    let met : AreMet (command_rules maker.device depth_ (CopyBufferToBuffer source source_offset target target_offset size)) = none_met (command_rules maker.device depth_ (CopyBufferToBuffer source source_offset target target_offset size)) e in
    let fit = and_parts (nat_le (source_offset + size) (buffer_of source).size) (nat_le (target_offset + size) (buffer_of target).size) met.1.1.1.1.1.1.1.0 in
    unless_small (size == 0) _ (range_small source source_offset size met.1.0 small.0 fit.0, (range_small target target_offset size met.1.1.1.0 small.1.0 fit.1, tt))
encoder_small maker depth_ (CopyBufferToTexture buffer layout texture spot size) small e =
    let met : AreMet (command_rules maker.device depth_ (CopyBufferToTexture buffer layout texture spot size)) = none_met (command_rules maker.device depth_ (CopyBufferToTexture buffer layout texture spot size)) e in
    let texels = met.1.1.1.1.1.1 in
    unless_small (has_no_texel size) _ (layout_small buffer layout (texel_to spot.aspect (texture_of texture).format) size met.1.0 small.0 texels.1.1.1.1.1.0, copied texture spot size met.1.1.1.0 small.1.0 texels.1.0)
encoder_small maker depth_ (CopyTextureToBuffer buffer layout texture spot size) small e =
    let met : AreMet (command_rules maker.device depth_ (CopyTextureToBuffer buffer layout texture spot size)) = none_met (command_rules maker.device depth_ (CopyTextureToBuffer buffer layout texture spot size)) e in
    let texels = met.1.1.1.1.1.1 in
    unless_small (has_no_texel size) _ (layout_small buffer layout (texel_from spot.aspect (texture_of texture).format) size met.1.0 small.0 texels.1.1.1.1.1.0, read_from texture spot size met.1.1.1.0 small.1.0 texels.1.0)
encoder_small maker depth_ (CopyTextureToTexture source source_mip source_origin target target_mip target_origin size) small e =
    let met : AreMet (command_rules maker.device depth_ (CopyTextureToTexture source source_mip source_origin target target_mip target_origin size)) = none_met (command_rules maker.device depth_ (CopyTextureToTexture source source_mip source_origin target target_mip target_origin size)) e in
    let own = met.1.1.1.1 in
    unless_small (has_no_texel size) _
    (both_touched (copied_from source.reference.number (texture_of source) (whole_spot source_mip source_origin) size) (copied_to target.reference.number (texture_of target) (whole_spot target_mip target_origin) size)
    (read_from source (whole_spot source_mip source_origin) size met.1.0 small.0 own.1.1.1.1.0)
    (copied target (whole_spot target_mip target_origin) size met.1.1.1.0 small.1.0 own.1.1.1.1.1.0))
encoder_small maker depth_ (ClearBuffer buffer offset size) small e =
    let met : AreMet (command_rules maker.device depth_ (ClearBuffer buffer offset size)) = none_met (command_rules maker.device depth_ (ClearBuffer buffer offset size)) e in
    unless_small (size_or_rest buffer offset size == 0) _ (range_small buffer offset (size_or_rest buffer offset size) met.1.0 small.0 met.1.1.1.1.0, tt)
encoder_small maker depth_ (ResolveQuerySet queries first count buffer offset) small e =
    let met : AreMet (command_rules maker.device depth_ (ResolveQuerySet queries first count buffer offset)) = none_met (command_rules maker.device depth_ (ResolveQuerySet queries first count buffer offset)) e in
    let inside : first + count ≤ (queries_of queries).count = leb-true (first + count) (queries_of queries).count (and_parts _ (nat_le (first + count) (queries_of queries).count) met.1.1.1.1.1.0).1 in
    let few : (queries_of queries).count ≤ most_32 = queries_small queries met.1.0 small.0 in
    unless_small (count == 0) _ (omega (arith, inside, few), (range_small buffer offset (query_bytes * count) met.1.1.1.0 small.1.0 met.1.1.1.1.1.1.1.0, tt))
encoder_small maker depth_ _ small e = tt
