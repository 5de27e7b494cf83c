-- What copies and clears touch agrees at each cell.
use Rattle.std.specs.Prelude.{nat_lt, None, is_none, option_to_list}
use Rattle.std.proofs.Common.{◌≡◌, ℕ, ◌+◌, ◌*◌, ◌==◌, List, [], ◌∷◌, map, Bool, true, false, ◌&&◌, not, ap, sym, ◌∙◌, subst, if◌then◌else◌, true≢false, eqb-true, eq-eqb}
use Rattle.std.proofs.lemmas.Bool.{and_parts, and_from, or_left, or_right}
use Rattle.wg_types.specs.declared.limits.Maker.{Maker}
use Rattle.wg_types.specs.Commands.{Command}
use Rattle.wg_types.specs.declared.commands.CommandOf.TheVariants.{CopyBufferToBuffer, CopyBufferToTexture, CopyTextureToBuffer, CopyTextureToTexture, ClearBuffer, ResolveQuerySet}
use Rattle.wg_trace.specs.declared.parts.Aspect.{Aspect}
use Rattle.wg_trace.specs.declared.parts.Aspect.TheVariants.{Color, Depth, Stencil}
use Rattle.wg_trace.specs.declared.parts.AccessKind.{AccessKind}
use Rattle.wg_trace.specs.declared.usages.Usages.{Usages}
use Rattle.wg_types.specs.declared.textures.TextureDim.{TextureDim}
use Rattle.wg_types.specs.declared.textures.TextureDim.TheVariants as texture_dim
use Rattle.wg_types.specs.declared.textures.TextureInfo.{TextureInfo}
use Rattle.wg_types.specs.declared.textures.TextureSpot.{TextureSpot}
use Rattle.wg_types.specs.declared.handles.ObjRef.{ObjRef}
use Rattle.wg_types.specs.Formats.{row}
use Rattle.wg_types.specs.Textures.{depth}
use Rattle.wg_rows.specs.Rows.{EachRow}
use Rattle.wg_rows.specs.Runs.{Part, Subresource, Buffer, QuerySet, Cell, Cells, Bytes, Layers, Slices, Queries, cell_line, covers, part_of}
use Rattle.wg_rows.specs.Uses.{Read, Write}
use Rattle.wg_model.specs.Rules.{AreMet}
use Rattle.wg_model.proofs.Unmet.{all_met}
use Rattle.wg_model.specs.Formats.{named_aspects, texel_to, texel_from}
use Rattle.wg_model.specs.Equality.{same_reference}
use Rattle.wg_model.specs.Subresources.{first_layer, end_layer, texture_cells, copied_cells, copies_meet, has_no_texel}
use Rattle.wg_model.specs.TexelCopies.{whole_spot, bytes_in}
use Rattle.wg_model.specs.Commands.{texture_of, size_or_rest, query_bytes, command_rules}
use Rattle.wg_model.specs.Touches.{Doing, copy_src_usage, copy_dst_usage, read_cells, written_cells, bytes_at, target_kind, range_kind, copied_to, copied_from, layout_bytes, queries_read, unless, encoder_does}
use Rattle.wg_model.specs.Walk.{encoder_gives}
use Rattle.wg_subres.specs.Has.{copy_has, is_accessed}
use Rattle.wg_subres.proofs.Covered.{copied_cells_lie}
use Rattle.wg_subres.proofs.Meeting.{copies_meet_where}
use Rattle.wg_shaped.proofs.Fitting.{AllAgree, AgreeWith, agree_joined, map_agree, apart_agree}

-- cells of textures
abbrev IsTextures : Cells → Type 0
IsTextures (Bytes object lo hi) = ⊥
IsTextures (Queries object lo hi) = ⊥
IsTextures (Layers object aspect mip lo hi) = Unit {0}
IsTextures (Slices object mip lo hi) = Unit {0}

one_texture : (dim : TextureDim) (object : ℕ) (aspect : Aspect) (mip lo hi from to : ℕ) → IsTextures (texture_cells dim object aspect mip lo hi from to)
one_texture texture_dim.Three object Color mip lo hi from to = tt
one_texture texture_dim.Three object Depth mip lo hi from to = tt
one_texture texture_dim.Three object Stencil mip lo hi from to = tt
one_texture texture_dim.One object aspect mip lo hi from to = tt
one_texture texture_dim.Two object aspect mip lo hi from to = tt

each_texture : (dim : TextureDim) (object mip lo hi from to : ℕ) (aspects : List Aspect) → EachRow IsTextures (map (λ aspect. texture_cells dim object aspect mip lo hi from to) aspects)
each_texture dim object mip lo hi from to [] = tt
each_texture dim object mip lo hi from to (aspect ∷ aspects) = (one_texture dim object aspect mip lo hi from to, each_texture dim object mip lo hi from to aspects)

copied_textures : (object : ℕ) (info : TextureInfo) (spot : TextureSpot) (size : List ℕ) → EachRow IsTextures (copied_cells object info spot size)
unfolding copied_cells
copied_textures object info spot size = by_layers (nat_lt (first_layer info.dim spot.origin) (end_layer info.dim spot.origin size))
  where
    by_layers : (b : Bool) → EachRow IsTextures (if b then map (λ aspect. texture_cells info.dim object aspect spot.mip (first_layer info.dim spot.origin) (end_layer info.dim spot.origin size) (depth spot.origin) (depth spot.origin + depth size)) (named_aspects spot.aspect (row info.format).aspects) else [])
    by_layers true = each_texture info.dim object spot.mip (first_layer info.dim spot.origin) (end_layer info.dim spot.origin size) (depth spot.origin) (depth spot.origin + depth size) (named_aspects spot.aspect (row info.format).aspects)
    by_layers false = tt

bytes_apart : (object lo hi : ℕ) (run : Cells) → IsTextures run → cell_line (Bytes object lo hi) ≡ cell_line run → ⊥
bytes_apart object lo hi (Bytes other lo2 hi2) h e = h
bytes_apart object lo hi (Queries other lo2 hi2) h e = h
bytes_apart object lo hi (Layers other aspect mip lo2 hi2) h e = cc
bytes_apart object lo hi (Slices other mip lo2 hi2) h e = cc

bytes_agree : (object lo hi : ℕ) (how other : Usages × AccessKind) (cells : List Cells) → EachRow IsTextures cells → AgreeWith (map (λ (run : Cells). (run, other)) cells) (Bytes object lo hi, how)
bytes_agree object lo hi how other [] h = tt
bytes_agree object lo hi how other (run ∷ cells) h = (apart_agree (Bytes object lo hi, how) (run, other) (bytes_apart object lo hi run h.0), bytes_agree object lo hi how other cells h.1)

-- two lists of cells with none in common
abbrev ShareNone : List Cells → List Cells → Type 0
ShareNone xs ys = (c : Cell) → is_accessed xs c ≡ true → is_accessed ys c ≡ true → ⊥

one_cross : (x : Cells) (ys : List Cells) (how other : Usages × AccessKind) → ((c : Cell) → covers x c ≡ true → is_accessed ys c ≡ true → ⊥) → AgreeWith (map (λ (run : Cells). (run, other)) ys) (x, how)
one_cross x [] how other h = tt
one_cross x (y ∷ ys) how other h =
    ((λ c e f. absurd (h c e (or_left (covers y c) (is_accessed ys c) f))), one_cross x ys how other (λ c e f. h c e (or_right (covers y c) (is_accessed ys c) f)))

all_cross : (xs ys : List Cells) (how other : Usages × AccessKind) → ShareNone xs ys → EachRow (AgreeWith (map (λ (run : Cells). (run, other)) ys)) (map (λ (run : Cells). (run, how)) xs)
all_cross [] ys how other h = tt
all_cross (x ∷ xs) ys how other h =
    (one_cross x ys how other (λ c e f. h c (or_left (covers x c) (is_accessed xs c) e) f), all_cross xs ys how other (λ c e f. h c (or_right (covers x c) (is_accessed xs c) e) f))

-- two copies of textures that may not meet where the textures are one
copy_number : (texture other : ℕ) (info info2 : TextureInfo) (spot spot2 : TextureSpot) (size : List ℕ) (part : Part) → copy_has texture info spot size part ≡ true → copy_has other info2 spot2 size part ≡ true → texture ≡ other
copy_number texture other info info2 spot spot2 size (Subresource object aspect mip layer) e h = eqb-true texture object (and_parts _ _ e).0 ∙ sym (eqb-true other object (and_parts _ _ h).0)
copy_number texture other info info2 spot spot2 size (Buffer object) e h = absurd (true≢false (sym e))
copy_number texture other info info2 spot spot2 size (QuerySet object) e h = absurd (true≢false (sym e))

copies_apart : (texture other : ℕ) (info info2 : TextureInfo) (spot spot2 : TextureSpot) (size : List ℕ) → (texture ≡ other → copies_meet info spot info2 spot2 size ≡ true → ⊥)
    → ShareNone (copied_cells texture info spot size) (copied_cells other info2 spot2 size)
copies_apart texture other info info2 spot spot2 size ne c e f =
    let first : copy_has texture info spot size (part_of c) ≡ true = copied_cells_lie texture info spot size c e in
    let second : copy_has other info2 spot2 size (part_of c) ≡ true = copied_cells_lie other info2 spot2 size c f in
    let same : texture ≡ other = copy_number texture other info info2 spot spot2 size (part_of c) first second in
    ne same (copies_meet_where.only texture info spot info2 spot2 size (part_of c) first (subst (λ (n : ℕ). copy_has n info2 spot2 size (part_of c) ≡ true) (sym same) second))

-- references of one device are told by their numbers
not_same : (a b : ObjRef) (device : ℕ) → a.device == device ≡ true → b.device == device ≡ true → a.number ≡ b.number → same_reference a b ≡ true
not_same a b device e h n =
    and_from (a.device == b.device) (a.number == b.number) (eq-eqb a.device b.device (eqb-true a.device device e ∙ sym (eqb-true b.device device h))) (eq-eqb a.number b.number n)

not_both : (a b : Bool) → not (a && b) ≡ true → a ≡ true → b ≡ true → ⊥
not_both true true e f g = true≢false (sym e)
not_both true false e f g = true≢false (sym g)
not_both false b e f g = true≢false (sym f)

not_true : (a : Bool) → not a ≡ true → a ≡ true → ⊥
not_true true e f = true≢false (sym e)
not_true false e f = true≢false (sym f)

abbrev pub AgreeDoing : Doing → Type 0
AgreeDoing doing = AllAgree doing.1

unless_agree : (b : Bool) (doing : Doing) → AgreeDoing doing → EachRow AgreeDoing (option_to_list (unless b doing))
unless_agree true doing h = tt
unless_agree false doing h = (h, tt)

heads_apart : (a b lo hi lo2 hi2 : ℕ) → (a ≡ b → ⊥) → cell_line (Bytes a lo hi) ≡ cell_line (Bytes b lo2 hi2) → ⊥
heads_apart a b lo hi lo2 hi2 ne e = ne (cc)

queries_apart : (a b lo hi lo2 hi2 : ℕ) → cell_line (Queries a lo hi) ≡ cell_line (Bytes b lo2 hi2) → ⊥
queries_apart a b lo hi lo2 hi2 e = cc

pub encoder_agree : (maker : Maker) (depth_ : ℕ) (command : Command) → encoder_gives maker None depth_ command ≡ None → EachRow AgreeDoing (option_to_list (encoder_does command))
unfolding encoder_does
encoder_agree maker depth_ (CopyBufferToBuffer source source_offset target target_offset size) e =
    let met : AreMet (command_rules maker.device depth_ (CopyBufferToBuffer source source_offset target target_offset size)) = all_met (command_rules maker.device depth_ (CopyBufferToBuffer source source_offset target target_offset size)) (ap is_none e) in
    unless_agree (size == 0) _ (
      (
        apart_agree (read_cells (bytes_at source.reference.number source_offset size)) (written_cells Write (bytes_at target.reference.number target_offset size))
            (heads_apart source.reference.number target.reference.number source_offset (source_offset + size) target_offset (target_offset + size)
            (λ n. not_true (same_reference source.reference target.reference) met.1.1.1.1.1.1.1.1.0 (not_same source.reference target.reference maker.device (and_parts _ _ met.0).0 (and_parts _ _ met.1.1.0).0 n))),
        tt,
      ),
      (tt, tt),
    )
encoder_agree maker depth_ (CopyBufferToTexture buffer layout texture spot size) e =
    unless_agree (has_no_texel size) _ (
      bytes_agree buffer.reference.number layout.offset (layout.offset + layout_bytes layout (texel_to spot.aspect (texture_of texture).format) size) (copy_src_usage, Read) (copy_dst_usage, target_kind (texture_of texture) spot size) (copied_cells texture.reference.number (texture_of texture) spot size) (copied_textures texture.reference.number (texture_of texture) spot size),
      map_agree (copy_dst_usage, target_kind (texture_of texture) spot size) (copied_cells texture.reference.number (texture_of texture) spot size),
    )
encoder_agree maker depth_ (CopyTextureToBuffer buffer layout texture spot size) e =
    unless_agree (has_no_texel size) _ (
      bytes_agree buffer.reference.number layout.offset (layout.offset + layout_bytes layout (texel_from spot.aspect (texture_of texture).format) size) (copy_dst_usage, range_kind (layout_bytes layout (texel_from spot.aspect (texture_of texture).format) size) (bytes_in (texel_from spot.aspect (texture_of texture).format)) size) (copy_src_usage, Read) (copied_cells texture.reference.number (texture_of texture) spot size) (copied_textures texture.reference.number (texture_of texture) spot size),
      map_agree (copy_src_usage, Read) (copied_cells texture.reference.number (texture_of texture) spot size),
    )
encoder_agree maker depth_ (CopyTextureToTexture source source_mip source_origin target target_mip target_origin size) e =
    let met : AreMet (command_rules maker.device depth_ (CopyTextureToTexture source source_mip source_origin target target_mip target_origin size)) = all_met (command_rules maker.device depth_ (CopyTextureToTexture source source_mip source_origin target target_mip target_origin size)) (ap is_none e) in
    let from : TextureSpot = whole_spot source_mip source_origin in
    let to : TextureSpot = whole_spot target_mip target_origin in
    unless_agree (has_no_texel size) _
    (agree_joined (copied_from source.reference.number (texture_of source) from size) (copied_to target.reference.number (texture_of target) to size)
    (map_agree (copy_src_usage, Read) (copied_cells source.reference.number (texture_of source) from size))
    (map_agree (copy_dst_usage, target_kind (texture_of target) to size) (copied_cells target.reference.number (texture_of target) to size))
    (all_cross (copied_cells source.reference.number (texture_of source) from size) (copied_cells target.reference.number (texture_of target) to size) (copy_src_usage, Read) (copy_dst_usage, target_kind (texture_of target) to size)
    (copies_apart source.reference.number target.reference.number (texture_of source) (texture_of target) from to size
    (λ n meet. not_both (same_reference source.reference target.reference) (copies_meet (texture_of source) from (texture_of target) to size) met.1.1.1.1.1.1.1.1.1.1.0 (not_same source.reference target.reference maker.device (and_parts _ _ met.0).0 (and_parts _ _ met.1.1.0).0 n) meet))))
encoder_agree maker depth_ (ClearBuffer buffer offset size) e = unless_agree (size_or_rest buffer offset size == 0) _ (tt, tt)
encoder_agree maker depth_ (ResolveQuerySet queries first count buffer offset) e =
    unless_agree (count == 0) _ (
      (
        apart_agree (queries_read queries.reference.number first count) (written_cells Write (bytes_at buffer.reference.number offset (query_bytes * count)))
            (queries_apart queries.reference.number buffer.reference.number first (first + count) offset (offset + query_bytes * count)),
        tt,
      ),
      (tt, tt),
    )
encoder_agree maker depth_ _ e = tt
