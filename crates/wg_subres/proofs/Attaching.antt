-- Two attachments meet exactly where some cell is in both.
use Rattle.std.proofs.Common.{◌≡◌, ℕ, ◌+◌, ◌<◌, ◌≤◌, ◌==◌, max, nat_lt, nat_le, true, false, ◌&&◌, ◌||◌, List, [], ◌∷◌, map, Option, Some, None, refl, sym, ap, ap₂, subst, ◌∙◌, ◌⊎◌, inl, inr, arith, eqb-true, eq-eqb}
use Rattle.std.specs.List.{list_any}
use Rattle.std.proofs.lemmas.Bool.{and_parts, and_from, or_cases, or_left, or_right, le-leb, leb-true, lt-ltb, ltb-true}
use Rattle.wg_types.specs.declared.formats.FormatAspects.{FormatAspects}
use Rattle.wg_types.specs.declared.formats.FormatAspects.TheVariants as aspects
use Rattle.wg_types.specs.declared.textures.AspectWord.{AspectWord}
use Rattle.wg_types.specs.declared.textures.AspectWord.TheVariants.{All, DepthOnly, StencilOnly}
use Rattle.wg_types.specs.declared.textures.TextureDim.{TextureDim}
use Rattle.wg_types.specs.declared.textures.TextureDim.TheVariants as texture_dim
use Rattle.wg_types.specs.declared.textures.TextureInfo.{TextureInfo}
use Rattle.wg_types.specs.declared.textures.ViewDim.{ViewDim}
use Rattle.wg_types.specs.declared.textures.ViewDim.TheVariants as view_dim
use Rattle.wg_types.specs.declared.textures.ViewInfo.{ViewInfo}
use Rattle.wg_types.specs.Formats.{row}
use Rattle.wg_types.specs.Textures.{depth}
use Rattle.wg_rows.specs.Rows.{in_range, list_eq}
use Rattle.wg_rows.specs.Runs.{Aspect, Color, Depth, Stencil, aspect_number, Part, Buffer, Subresource, QuerySet, PartRun, BufferPart, LayerParts, QueryPart, Cell, Byte, Texels, Slice, Query, Cells, Bytes, Layers, Slices, Queries, part_of, covers, covers_part, run_part}
use Rattle.wg_rows.proofs.Runs.{tags_differ}
use Rattle.wg_model.specs.Formats.{named_aspects, is_color_alone}
use Rattle.wg_model.specs.Textures.{dim_fits, extent_at, extent}
use Rattle.wg_model.specs.Subresources.{view_runs, view_cells, run_cells, texture_cells, is_aspect_of, views_meet}
use Rattle.wg_model.specs.Attachments.{Attached, sliced, is_deep, attached_meet}
use Rattle.wg_subres.specs.Has.{is_covered, view_has}
use Rattle.wg_subres.specs.Attached.{attached_cells, attached_has, IsAttachable, KnowOne, AttachedMeet}
use Rattle.wg_subres.proofs.Lying.{runs_of_view}
use Rattle.wg_subres.proofs.Covered.{views_cover, lie_in}
use Rattle.wg_subres.proofs.ViewsMeeting.{views_meet_where}

-- A cell of an attachment lies in a part of its view.
sliced_part : (slice : Option ℕ) (run : Cells) → run_part (sliced slice run) ≡ run_part run
sliced_part None run = refl
sliced_part (Some slice) (Bytes object lo hi) = refl
sliced_part (Some slice) (Layers object aspect mip lo hi) = refl
sliced_part (Some slice) (Slices object mip lo hi) = refl
sliced_part (Some slice) (Queries object lo hi) = refl

sliced_parts : (slice : Option ℕ) (cells : List Cells) → map run_part (map (sliced slice) cells) ≡ map run_part cells
sliced_parts slice [] = refl
sliced_parts slice (run ∷ cells) = ap₂ ◌∷◌ (sliced_part slice run) (sliced_parts slice cells)

pub lies_in_view : (a : Attached) (c : Cell) → attached_has a c ≡ true → view_has a.0 (part_of c) ≡ true
lies_in_view a c e =
    sym (views_cover a.0 (part_of c))
    ∙ (ap (λ runs. is_covered runs (part_of c)) (sym (sliced_parts a.1 (view_cells a.0) ∙ runs_of_view a.0))
    ∙ lie_in (attached_cells a) c e)

-- What one slice of cells covers of slices is that slice.
slice_at : (slice : ℕ) (run : Cells) (o m d : ℕ) → covers (sliced (Some slice) run) (Slice o m d) ≡ true → slice ≡ d
unfolding covers
slice_at slice (Slices object mip lo hi) o m d e =
    let inside : in_range slice (slice + 1) d ≡ true = (and_parts (list_eq (object ∷ (3 ∷ (mip ∷ []))) (o ∷ (3 ∷ (m ∷ [])))) (in_range slice (slice + 1) d) e).1 in
    let tests : (nat_le slice d ≡ true) × (nat_lt d (slice + 1) ≡ true) = and_parts (nat_le slice d) (nat_lt d (slice + 1)) inside in
    let at_least : slice ≤ d = leb-true slice d tests.0 in
    let below : d < slice + 1 = ltb-true d (slice + 1) tests.1 in
    omega arith
slice_at slice (Bytes object lo hi) o m d e = absurd (tags_differ _ _ e)
slice_at slice (Layers object aspect mip lo hi) o m d e = absurd (tags_differ _ _ e)
slice_at slice (Queries object lo hi) o m d e = absurd (tags_differ _ _ e)

slice_among : (slice : ℕ) (cells : List Cells) (o m d : ℕ) → list_any (λ run. covers run (Slice o m d)) (map (sliced (Some slice)) cells) ≡ true → slice ≡ d
slice_among slice [] o m d e = absurd (cc)
slice_among slice (run ∷ cells) o m d e = by_cases (or_cases (covers (sliced (Some slice) run) (Slice o m d)) (list_any (λ run. covers run (Slice o m d)) (map (sliced (Some slice)) cells)) e) (slice_among slice cells o m d)
  where
    by_cases : (covers (sliced (Some slice) run) (Slice o m d) ≡ true) ⊎ (list_any (λ run. covers run (Slice o m d)) (map (sliced (Some slice)) cells) ≡ true) → (list_any (λ run. covers run (Slice o m d)) (map (sliced (Some slice)) cells) ≡ true → slice ≡ d) → slice ≡ d
    by_cases (inl g) rest = slice_at slice run o m d g
    by_cases (inr g) rest = rest g

-- A 3D texture has no layer of color as a cell.
no_layer : (slice object : ℕ) (aspect : Aspect) (mip lo hi from to o m l : ℕ) → covers (sliced (Some slice) (texture_cells texture_dim.Three object aspect mip lo hi from to)) (Texels o Color m l) ≡ true → ⊥
unfolding covers
no_layer slice object Color mip lo hi from to o m l e = tags_differ _ _ e
no_layer slice object Depth mip lo hi from to o m l e = tags_differ _ _ e
no_layer slice object Stencil mip lo hi from to o m l e = tags_differ _ _ e

no_layer_in : (info : TextureInfo) → info.dim ≡ texture_dim.Three → (slice : ℕ) (run : PartRun) (o m l : ℕ) → covers (sliced (Some slice) (run_cells info run)) (Texels o Color m l) ≡ true → ⊥
unfolding covers
no_layer_in info three slice (BufferPart object) o m l e = tags_differ _ _ e
no_layer_in info three slice (QueryPart object) o m l e = tags_differ _ _ e
no_layer_in info three slice (LayerParts object aspect mip lo hi) o m l e =
    no_layer slice object aspect mip lo hi 0 (depth (extent info mip)) o m l
    (subst (λ (dim : TextureDim). covers (sliced (Some slice) (texture_cells dim object aspect mip lo hi 0 (depth (extent info mip)))) (Texels o Color m l) ≡ true) three e)

no_layers : (info : TextureInfo) → info.dim ≡ texture_dim.Three → (slice : ℕ) (runs : List PartRun) (o m l : ℕ) → list_any (λ run. covers run (Texels o Color m l)) (map (sliced (Some slice)) (map (run_cells info) runs)) ≡ true → ⊥
no_layers info three slice [] o m l e = absurd (cc)
no_layers info three slice (run ∷ runs) o m l e = by_cases (or_cases (covers (sliced (Some slice) (run_cells info run)) (Texels o Color m l)) (list_any (λ run. covers run (Texels o Color m l)) (map (sliced (Some slice)) (map (run_cells info) runs))) e) (no_layers info three slice runs o m l)
  where
    by_cases : (covers (sliced (Some slice) (run_cells info run)) (Texels o Color m l) ≡ true) ⊎ (list_any (λ run. covers run (Texels o Color m l)) (map (sliced (Some slice)) (map (run_cells info) runs)) ≡ true) → (list_any (λ run. covers run (Texels o Color m l)) (map (sliced (Some slice)) (map (run_cells info) runs)) ≡ true → ⊥) → ⊥
    by_cases (inl g) rest = no_layer_in info three slice run o m l g
    by_cases (inr g) rest = rest g

-- What the rules give of a view of which a slice is given.
three_d : (view : ViewDim) (dim : TextureDim) → dim_fits view dim ≡ true → is_deep view ≡ true → dim ≡ texture_dim.Three
three_d view_dim.Three texture_dim.Three e f = refl
three_d view dim e f = absurd (cc)

only_color : (word : AspectWord) (has : FormatAspects) (aspect : Aspect) → is_color_alone has ≡ true → is_aspect_of aspect (named_aspects word has) ≡ true → aspect ≡ Color
only_color All aspects.Color Color e f = refl
only_color All aspects.Color Depth e f = absurd (cc)
only_color All aspects.Color Stencil e f = absurd (cc)
only_color DepthOnly aspects.Color aspect e f = absurd (cc)
only_color StencilOnly aspects.Color aspect e f = absurd (cc)
only_color word aspects.Depth aspect e f = absurd (cc)
only_color word aspects.DepthStencil aspect e f = absurd (cc)
only_color word aspects.Stencil aspect e f = absurd (cc)

record IsDeep (view : ViewInfo) (slice : ℕ) : Type 0 where
  three : view.texture_info.dim ≡ texture_dim.Three
  color : is_color_alone (row view.texture_info.format).aspects ≡ true
  mips : view.mips ≡ 1
  below : slice < depth (extent view.texture_info view.base_mip)

deep_from : (view : ViewInfo) (slice : ℕ) → IsAttachable (view, Some slice) → IsDeep view slice
deep_from view slice rules =
    let fits : (is_deep view.dim ≡ true) × (nat_lt slice (depth (extent view.texture_info view.base_mip)) ≡ true) = and_parts _ _ rules.1.1 in
    let color = and_parts _ _ rules.1.0 in
    record {
      three = three_d view.dim view.texture_info.dim rules.0 fits.0;
      color = (and_parts _ _ color.1).1;
      mips = eqb-true view.mips 1 (and_parts _ _ (and_parts _ _ color.0).1).0;
      below = ltb-true slice (depth (extent view.texture_info view.base_mip)) fits.1;
    }

-- All cells of which one slice is attached are in that slice.
abbrev cell_number : Cell → ℕ
cell_number (Byte object at) = at
cell_number (Texels object aspect mip layer) = layer
cell_number (Slice object mip at) = at
cell_number (Query object at) = at

slice_is : (view : ViewInfo) (slice : ℕ) → IsDeep view slice → (c : Cell) → attached_has (view, Some slice) c ≡ true → slice ≡ cell_number c
slice_is view slice deep (Byte object at) e = absurd (let k : false ≡ true = lies_in_view (view, Some slice) (Byte object at) e in cc)
slice_is view slice deep (Query object at) e = absurd (let k : false ≡ true = lies_in_view (view, Some slice) (Query object at) e in cc)
slice_is view slice deep (Slice object mip at) e = slice_among slice (view_cells view) object mip at e
slice_is view slice deep (Texels object aspect mip layer) e =
    let has : view_has view (Subresource object aspect mip layer) ≡ true = lies_in_view (view, Some slice) (Texels object aspect mip layer) e in
    let among : is_aspect_of aspect (named_aspects view.aspect (row view.texture_info.format).aspects) ≡ true = (and_parts _ _ (and_parts _ _ has).1).0 in
    let color : aspect ≡ Color = only_color view.aspect (row view.texture_info.format).aspects aspect deep.color among in
    absurd (no_layers view.texture_info deep.three slice (view_runs view) object mip layer (subst (λ (aspect : Aspect). attached_has (view, Some slice) (Texels object aspect mip layer) ≡ true) color e))

only : (a b : Attached) → IsAttachable a → IsAttachable b → (c : Cell) → attached_has a c ≡ true → attached_has b c ≡ true → attached_meet a b ≡ true
only (view, Some slice) (other, Some slice2) rules rules2 c e f =
    and_from (views_meet view other) (slice == slice2) (views_meet_where.only view other (part_of c) (lies_in_view (view, Some slice) c e) (lies_in_view (other, Some slice2) c f))
    (eq-eqb slice slice2 (slice_is view slice (deep_from view slice rules) c e ∙ sym (slice_is other slice2 (deep_from other slice2 rules2) c f)))
only (view, None) (other, slice2) rules rules2 c e f =
    and_from (views_meet view other) true (views_meet_where.only view other (part_of c) (lies_in_view (view, None) c e) (lies_in_view (other, slice2) c f)) refl
only (view, Some slice) (other, None) rules rules2 c e f =
    and_from (views_meet view other) true (views_meet_where.only view other (part_of c) (lies_in_view (view, Some slice) c e) (lies_in_view (other, None) c f)) refl

-- A cell of a part of a view: the part itself, or a slice.
abbrev cell_at : TextureDim → ℕ → Aspect → ℕ → ℕ → ℕ → Cell
cell_at texture_dim.Three o Color m l d = Slice o m d
cell_at _ o aspect m l d = Texels o aspect m l

-- whether the slice is one of so many, or the one that is given
abbrev InSlice : TextureDim → Option ℕ → ℕ → ℕ → Type 0
InSlice texture_dim.Three None d most = d < most
InSlice texture_dim.Three (Some slice) d most = slice ≡ d
InSlice _ slice d most = Unit {0}

ranged : (lo hi d : ℕ) → lo ≤ d → d < hi → in_range lo hi d ≡ true
ranged lo hi d l h = and_from (nat_le lo d) (nat_lt d hi) (le-leb lo d l) (lt-ltb d hi h)

texture_covers : (dim : TextureDim) (slice : Option ℕ) (object : ℕ) (aspect : Aspect) (mip lo hi most o : ℕ) (a : Aspect) (m l d : ℕ) → InSlice dim slice d most → covers_part (LayerParts object aspect mip lo hi) (Subresource o a m l) ≡ true → covers (sliced slice (texture_cells dim object aspect mip lo hi 0 most)) (cell_at dim o a m l d) ≡ true
unfolding covers covers_part
texture_covers texture_dim.One None object aspect mip lo hi most o a m l d h e = e
texture_covers texture_dim.One (Some slice) object aspect mip lo hi most o a m l d h e = e
texture_covers texture_dim.Two None object aspect mip lo hi most o a m l d h e = e
texture_covers texture_dim.Two (Some slice) object aspect mip lo hi most o a m l d h e = e
texture_covers texture_dim.Three None object Color mip lo hi most o Color m l d h e = and_from _ (in_range 0 most d) (and_parts _ _ e).0 (ranged 0 most d (omega arith) h)
texture_covers texture_dim.Three (Some slice) object Color mip lo hi most o Color m l d h e = and_from _ (in_range slice (slice + 1) d) (and_parts _ _ e).0 (ranged slice (slice + 1) d (omega (arith, h)) (omega (arith, h)))
texture_covers texture_dim.Three None object Depth mip lo hi most o Depth m l d h e = e
texture_covers texture_dim.Three (Some slice) object Depth mip lo hi most o Depth m l d h e = e
texture_covers texture_dim.Three None object Stencil mip lo hi most o Stencil m l d h e = e
texture_covers texture_dim.Three (Some slice) object Stencil mip lo hi most o Stencil m l d h e = e
texture_covers texture_dim.Three slice object Color mip lo hi most o Depth m l d h e = absurd (tags_differ _ _ e)
texture_covers texture_dim.Three slice object Color mip lo hi most o Stencil m l d h e = absurd (tags_differ _ _ e)
texture_covers texture_dim.Three slice object Depth mip lo hi most o Color m l d h e = absurd (tags_differ _ _ e)
texture_covers texture_dim.Three slice object Depth mip lo hi most o Stencil m l d h e = absurd (tags_differ _ _ e)
texture_covers texture_dim.Three slice object Stencil mip lo hi most o Color m l d h e = absurd (tags_differ _ _ e)
texture_covers texture_dim.Three slice object Stencil mip lo hi most o Depth m l d h e = absurd (tags_differ _ _ e)

same_mip : (object : ℕ) (aspect : Aspect) (mip lo hi o : ℕ) (a : Aspect) (m l : ℕ) → covers_part (LayerParts object aspect mip lo hi) (Subresource o a m l) ≡ true → mip ≡ m
unfolding covers_part
same_mip object aspect mip lo hi o a m l e =
    eqb-true mip m (and_parts (mip == m) true (and_parts (aspect_number aspect == aspect_number a) ((mip == m) && true) (and_parts (object == o) ((aspect_number aspect == aspect_number a) && ((mip == m) && true)) (and_parts _ _ e).0).1).1).0

no_whole : (o : ℕ) (a : Aspect) (m l object : ℕ) → ((covers_part (BufferPart object) (Subresource o a m l) ≡ true) ⊎ (covers_part (QueryPart object) (Subresource o a m l) ≡ true)) → ⊥
unfolding covers_part
no_whole o a m l object (inl e) = tags_differ _ _ e
no_whole o a m l object (inr e) = tags_differ _ _ e

one_covers : (info : TextureInfo) (slice : Option ℕ) (run : PartRun) (o : ℕ) (a : Aspect) (m l d : ℕ) → InSlice info.dim slice d (depth (extent info m)) → covers_part run (Subresource o a m l) ≡ true → covers (sliced slice (run_cells info run)) (cell_at info.dim o a m l d) ≡ true
one_covers info slice (BufferPart object) o a m l d h e = absurd (no_whole o a m l object (inl e))
one_covers info slice (QueryPart object) o a m l d h e = absurd (no_whole o a m l object (inr e))
one_covers info slice (LayerParts object aspect mip lo hi) o a m l d h e =
    texture_covers info.dim slice object aspect mip lo hi (depth (extent info mip)) o a m l d
    (subst (λ (at : ℕ). InSlice info.dim slice d (depth (extent info at))) (sym (same_mip object aspect mip lo hi o a m l e)) h) e

any_covers : (info : TextureInfo) (slice : Option ℕ) (runs : List PartRun) (o : ℕ) (a : Aspect) (m l d : ℕ) → InSlice info.dim slice d (depth (extent info m)) → list_any (λ run. covers_part run (Subresource o a m l)) runs ≡ true → list_any (λ run. covers run (cell_at info.dim o a m l d)) (map (sliced slice) (map (run_cells info) runs)) ≡ true
any_covers info slice [] o a m l d h e = absurd (cc)
any_covers info slice (run ∷ runs) o a m l d h e = by_cases (or_cases (covers_part run (Subresource o a m l)) (list_any (λ run. covers_part run (Subresource o a m l)) runs) e) (any_covers info slice runs o a m l d h)
  where
    by_cases : (covers_part run (Subresource o a m l) ≡ true) ⊎ (list_any (λ run. covers_part run (Subresource o a m l)) runs ≡ true) → (list_any (λ run. covers_part run (Subresource o a m l)) runs ≡ true → list_any (λ run. covers run (cell_at info.dim o a m l d)) (map (sliced slice) (map (run_cells info) runs)) ≡ true) → covers (sliced slice (run_cells info run)) (cell_at info.dim o a m l d) || list_any (λ run. covers run (cell_at info.dim o a m l d)) (map (sliced slice) (map (run_cells info) runs)) ≡ true
    by_cases (inl g) rest = or_left _ _ (one_covers info slice run o a m l d h g)
    by_cases (inr g) rest = or_right _ _ (rest g)

has_cell_at : (a : Attached) (o : ℕ) (aspect : Aspect) (m l d : ℕ) → InSlice a.0.texture_info.dim a.1 d (depth (extent a.0.texture_info m)) → view_has a.0 (Subresource o aspect m l) ≡ true → attached_has a (cell_at a.0.texture_info.dim o aspect m l d) ≡ true
has_cell_at a o aspect m l d h e = any_covers a.0.texture_info a.1 (view_runs a.0) o aspect m l d h (views_cover a.0 (Subresource o aspect m l) ∙ e)

-- The slice that two attachments have in common.
at_least_one : (x : ℕ) → 0 < max 1 x
at_least_one x = omega arith

first_in : (dim : TextureDim) (size : List ℕ) (m : ℕ) → InSlice dim None 0 (depth (extent_at dim size m))
first_in texture_dim.Three size m = at_least_one _
first_in texture_dim.One size m = tt
first_in texture_dim.Two size m = tt

first_slice : (info : TextureInfo) (m : ℕ) → InSlice info.dim None 0 (depth (extent info m))
unfolding extent
first_slice info m = first_in info.dim info.size m

own_slice : (dim : TextureDim) (slice d most : ℕ) → slice ≡ d → InSlice dim (Some slice) d most
own_slice texture_dim.Three slice d most e = e
own_slice texture_dim.One slice d most e = tt
own_slice texture_dim.Two slice d most e = tt

below_in : (dim : TextureDim) (d most : ℕ) → d < most → InSlice dim None d most
below_in texture_dim.Three d most lt = lt
below_in texture_dim.One d most lt = tt
below_in texture_dim.Two d most lt = tt

only_mip : (base mips m : ℕ) → mips ≡ 1 → in_range base (base + mips) m ≡ true → base ≡ m
only_mip base mips m one e =
    let tests : (nat_le base m ≡ true) × (nat_lt m (base + mips) ≡ true) = and_parts (nat_le base m) (nat_lt m (base + mips)) e in
    let at_least : base ≤ m = leb-true base m tests.0 in
    let below : m < base + mips = ltb-true m (base + mips) tests.1 in
    omega (arith, one)

-- the mip level of a view of which a slice is given
at_base : (view : ViewInfo) (slice : ℕ) → IsDeep view slice → (o : ℕ) (aspect : Aspect) (m l : ℕ) → view_has view (Subresource o aspect m l) ≡ true → view.base_mip ≡ m
at_base view slice deep o aspect m l e = only_mip view.base_mip view.mips m deep.mips (and_parts _ _ (and_parts _ _ (and_parts _ _ (and_parts _ _ e).1).1).0).0

deep_below : (view : ViewInfo) (slice : ℕ) → IsDeep view slice → (o : ℕ) (aspect : Aspect) (m l : ℕ) → view_has view (Subresource o aspect m l) ≡ true → slice < depth (extent view.texture_info m)
deep_below view slice deep o aspect m l e = subst (λ (at : ℕ). slice < depth (extent view.texture_info at)) (at_base view slice deep o aspect m l e) deep.below

record Common (a b : Attached) (m : ℕ) : Type 0 where
  slice : ℕ
  first : InSlice a.0.texture_info.dim a.1 slice (depth (extent a.0.texture_info m))
  second : InSlice b.0.texture_info.dim b.1 slice (depth (extent b.0.texture_info m))

common : (a b : Attached) → IsAttachable a → IsAttachable b → a.0.texture_info ≡ b.0.texture_info → (o : ℕ) (aspect : Aspect) (m l : ℕ) → view_has a.0 (Subresource o aspect m l) ≡ true → view_has b.0 (Subresource o aspect m l) ≡ true → attached_meet a b ≡ true → Common a b m
common (view, None) (other, None) rules rules2 known o aspect m l e f met = record { slice = 0; first = first_slice view.texture_info m; second = first_slice other.texture_info m }
common (view, Some slice) (other, None) rules rules2 known o aspect m l e f met = record {
  slice = slice;
  first = own_slice view.texture_info.dim slice slice _ refl;
  second = below_in other.texture_info.dim slice _ (subst (λ (info : TextureInfo). slice < depth (extent info m)) known (deep_below view slice (deep_from view slice rules) o aspect m l e));
}
common (view, None) (other, Some slice2) rules rules2 known o aspect m l e f met = record {
  slice = slice2;
  first = below_in view.texture_info.dim slice2 _ (subst (λ (info : TextureInfo). slice2 < depth (extent info m)) (sym known) (deep_below other slice2 (deep_from other slice2 rules2) o aspect m l f));
  second = own_slice other.texture_info.dim slice2 slice2 _ refl;
}
common (view, Some slice) (other, Some slice2) rules rules2 known o aspect m l e f met = record {
  slice = slice;
  first = own_slice view.texture_info.dim slice slice _ refl;
  second = own_slice other.texture_info.dim slice2 slice _ (sym (eqb-true slice slice2 (and_parts (views_meet view other) (slice == slice2) met).1));
}

shared : (a b : Attached) → IsAttachable a → IsAttachable b → KnowOne a b → attached_meet a b ≡ true → (c : Cell) × ((attached_has a c ≡ true) × (attached_has b c ≡ true))
shared a b rules rules2 know met = by_part (views_meet_where.shared a.0 b.0 (and_parts _ _ met).0)
  where
    at_part : (part : Part) → view_has a.0 part ≡ true → view_has b.0 part ≡ true → (c : Cell) × ((attached_has a c ≡ true) × (attached_has b c ≡ true))
    at_part (Buffer object) e f = absurd (cc)
    at_part (QuerySet object) e f = absurd (cc)
    at_part (Subresource o aspect m l) e f =
        let one : a.0.texture.number ≡ b.0.texture.number = eqb-true a.0.texture.number o (and_parts _ _ e).0 ∙ sym (eqb-true b.0.texture.number o (and_parts _ _ f).0) in
        let known : a.0.texture_info ≡ b.0.texture_info = know one in
        let found : Common a b m = common a b rules rules2 known o aspect m l e f met in
        (cell_at a.0.texture_info.dim o aspect m l found.slice, (has_cell_at a o aspect m l found.slice found.first e, subst (λ (info : TextureInfo). attached_has b (cell_at info.dim o aspect m l found.slice) ≡ true) (sym known) (has_cell_at b o aspect m l found.slice found.second f)))

    by_part : (part : Part) × ((view_has a.0 part ≡ true) × (view_has b.0 part ≡ true)) → (c : Cell) × ((attached_has a c ≡ true) × (attached_has b c ≡ true))
    by_part found = at_part found.0 found.1.0 found.1.1

pub attached_meet_where : AttachedMeet
attached_meet_where = record { shared = shared; only = only }
