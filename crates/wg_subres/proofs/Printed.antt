-- The runs of views and of copies are in printed form, used in one way.
use Rattle.std.proofs.Common.{◌≡◌, ℕ, zero, suc, ◌+◌, ◌-◌, ◌<◌, ◌==◌, min, nat_lt, Bool, true, false, ◌&&◌, ◌||◌, List, [], ◌∷◌, ◌++◌, map, refl, sym, ap, ap₂, subst, ◌∙◌, inl, if◌then◌else◌, arith, lit<}
use Rattle.std.proofs.lemmas.Bool.{lt-ltb, ltb-true}
use Rattle.std.proofs.lemmas.Bool.Decides.{nat_tests}
use Rattle.std.proofs.lemmas.List.{map-append}
use Rattle.std.proofs.lemmas.List.Concat.{flat_map-cons}
use Rattle.wg_types.specs.declared.textures.AspectWord.{AspectWord}
use Rattle.wg_types.specs.declared.textures.AspectWord.TheVariants.{All, DepthOnly, StencilOnly}
use Rattle.wg_types.specs.declared.formats.FormatAspects.{FormatAspects}
use Rattle.wg_types.specs.declared.formats.FormatAspects.TheVariants as aspects
use Rattle.wg_types.specs.declared.textures.TextureDim.{TextureDim}
use Rattle.wg_types.specs.declared.textures.TextureDim.TheVariants as texture_dim
use Rattle.wg_types.specs.declared.textures.TextureInfo.{TextureInfo}
use Rattle.wg_types.specs.declared.textures.TextureSpot.{TextureSpot}
use Rattle.wg_types.specs.declared.textures.ViewInfo.{ViewInfo}
use Rattle.wg_types.specs.Formats.{row}
use Rattle.wg_types.specs.Textures.{width, height, depth}
use Rattle.wg_rows.specs.Rows.{list_before, count_up, numbers, EachRow, After, Apart}
use Rattle.wg_rows.specs.Runs.{Aspect, Color, Depth, Stencil, aspect_number, PartRun, LayerParts, part_sort, Cells, cell_line, cell_lo, cell_hi, cell_sort}
use Rattle.wg_rows.specs.Uses.{Usages, same_set, printed_uses, AccessKind, same_kind, printed_accesses}
use Rattle.wg_rows.proofs.Cut.{each_append, apart_append}
use Rattle.wg_rows.proofs.Told.{uses_tell, accesses_tell, as_printed}
use Rattle.wg_model.specs.Formats.{named_aspects}
use Rattle.wg_model.specs.Textures.{layer_count}
use Rattle.wg_model.specs.Subresources.{level_runs, aspect_runs, view_runs, first_layer, end_layer, texture_cells, copied_cells, copy_runs, has_no_texel}
use Rattle.wg_subres.specs.Has.{all_used, all_accessed, ViewsPrinted, CopiesPrinted, CellsPrinted}
use Rattle.wg_subres.proofs.Lying.{runs_of_copy}

-- Lines of one texture.
lt_self : (x : ℕ) → nat_lt x x ≡ false
lt_self x = grind (arith, nat_tests)

eq_self : (x : ℕ) → x == x ≡ true
eq_self x = grind (arith, nat_tests)

same_head : (x : ℕ) (xs ys : List ℕ) → list_before (x ∷ xs) (x ∷ ys) ≡ list_before xs ys
same_head x xs ys = ap₂ (λ b c. b || (c && list_before xs ys)) (lt_self x) (eq_self x)

less_head : (x y : ℕ) (xs ys : List ℕ) → x < y → list_before (x ∷ xs) (y ∷ ys) ≡ true
less_head x y xs ys lt = ap (λ b. b || ((x == y) && list_before xs ys)) (lt-ltb x y lt)

later_level : (object a mip later : ℕ) → mip < later → list_before (object ∷ (2 ∷ (a ∷ (mip ∷ [])))) (object ∷ (2 ∷ (a ∷ (later ∷ [])))) ≡ true
later_level object a mip later lt =
    same_head object (2 ∷ (a ∷ (mip ∷ []))) (2 ∷ (a ∷ (later ∷ [])))
    ∙ (same_head 2 (a ∷ (mip ∷ [])) (a ∷ (later ∷ []))
    ∙ (same_head a (mip ∷ []) (later ∷ []) ∙ less_head mip later [] [] lt))

later_aspect : (object a b mip other : ℕ) → a < b → list_before (object ∷ (2 ∷ (a ∷ (mip ∷ [])))) (object ∷ (2 ∷ (b ∷ (other ∷ [])))) ≡ true
later_aspect object a b mip other lt =
    same_head object (2 ∷ (a ∷ (mip ∷ []))) (2 ∷ (b ∷ (other ∷ [])))
    ∙ (same_head 2 (a ∷ (mip ∷ [])) (b ∷ (other ∷ []))
    ∙ less_head a b (mip ∷ []) (other ∷ []) lt)

-- Aspects in printed order.
abbrev Rising : List Aspect → Type 0
Rising [] = Unit {0}
Rising (aspect ∷ later) = EachRow (λ other. aspect_number aspect < aspect_number other) later × Rising later

named_rising : (word : AspectWord) (has : FormatAspects) → Rising (named_aspects word has)
named_rising All aspects.Color = (tt, tt)
named_rising All aspects.Depth = (tt, tt)
named_rising All aspects.DepthStencil = ((lit< tt, tt), (tt, tt))
named_rising All aspects.Stencil = (tt, tt)
named_rising DepthOnly aspects.Color = tt
named_rising DepthOnly aspects.Depth = (tt, tt)
named_rising DepthOnly aspects.DepthStencil = (tt, tt)
named_rising DepthOnly aspects.Stencil = tt
named_rising StencilOnly aspects.Color = tt
named_rising StencilOnly aspects.Depth = tt
named_rising StencilOnly aspects.DepthStencil = (tt, tt)
named_rising StencilOnly aspects.Stencil = (tt, tt)

-- The levels of one aspect.
after_levels : (usage : Usages) (object lo hi : ℕ) (aspect : Aspect) (mip later n : ℕ) → mip < later → EachRow (After part_sort (LayerParts object aspect mip lo hi, usage)) (all_used usage (level_runs object lo hi (count_up later n) aspect))
after_levels usage object lo hi aspect mip later zero lt = tt
after_levels usage object lo hi aspect mip later (suc n) lt = (inl (later_level object (aspect_number aspect) mip later lt), after_levels usage object lo hi aspect mip (suc later) n (omega arith))

levels_apart : (usage : Usages) (object lo hi : ℕ) (aspect : Aspect) (first n : ℕ) → lo < hi → Apart part_sort (all_used usage (level_runs object lo hi (count_up first n) aspect))
levels_apart usage object lo hi aspect first zero lt = tt
levels_apart usage object lo hi aspect first (suc n) lt = (lt, after_levels usage object lo hi aspect first (suc first) n (omega arith), levels_apart usage object lo hi aspect (suc first) n lt)

-- The levels of all aspects.
split : (usage : Usages) (object lo hi : ℕ) (mips : List ℕ) (aspect : Aspect) (later : List Aspect) → all_used usage (level_runs object lo hi mips aspect) ++ all_used usage (aspect_runs object lo hi mips later) ≡ all_used usage (aspect_runs object lo hi mips (aspect ∷ later))
split usage object lo hi mips aspect later =
    sym (ap (all_used usage) (flat_map-cons (level_runs object lo hi mips) aspect later)
    ∙ map-append (λ (run : PartRun). (run, usage)) (level_runs object lo hi mips aspect) (aspect_runs object lo hi mips later))

after_aspect : (usage : Usages) (object lo hi : ℕ) (aspect other : Aspect) (mip : ℕ) (mips : List ℕ) → aspect_number aspect < aspect_number other → EachRow (After part_sort (LayerParts object aspect mip lo hi, usage)) (all_used usage (level_runs object lo hi mips other))
after_aspect usage object lo hi aspect other mip [] lt = tt
after_aspect usage object lo hi aspect other mip (later ∷ mips) lt = (inl (later_aspect object (aspect_number aspect) (aspect_number other) mip later lt), after_aspect usage object lo hi aspect other mip mips lt)

after_aspects : (usage : Usages) (object lo hi : ℕ) (aspect : Aspect) (mip : ℕ) (mips : List ℕ) (later : List Aspect) → EachRow (λ other. aspect_number aspect < aspect_number other) later → EachRow (After part_sort (LayerParts object aspect mip lo hi, usage)) (all_used usage (aspect_runs object lo hi mips later))
after_aspects usage object lo hi aspect mip mips [] lt = tt
after_aspects usage object lo hi aspect mip mips (other ∷ later) lt =
    subst (EachRow (After part_sort (LayerParts object aspect mip lo hi, usage))) (split usage object lo hi mips other later)
    (each_append (After part_sort (LayerParts object aspect mip lo hi, usage)) (all_used usage (level_runs object lo hi mips other)) (all_used usage (aspect_runs object lo hi mips later))
    (after_aspect usage object lo hi aspect other mip mips lt.0)
    (after_aspects usage object lo hi aspect mip mips later lt.1))

each_after : (usage : Usages) (object lo hi : ℕ) (aspect : Aspect) (mine mips : List ℕ) (later : List Aspect) → EachRow (λ other. aspect_number aspect < aspect_number other) later → EachRow (λ x. EachRow (After part_sort x) (all_used usage (aspect_runs object lo hi mips later))) (all_used usage (level_runs object lo hi mine aspect))
each_after usage object lo hi aspect [] mips later lt = tt
each_after usage object lo hi aspect (mip ∷ mine) mips later lt = (after_aspects usage object lo hi aspect mip mips later lt, each_after usage object lo hi aspect mine mips later lt)

aspects_apart : (usage : Usages) (object lo hi first n : ℕ) (aspects : List Aspect) → lo < hi → Rising aspects → Apart part_sort (all_used usage (aspect_runs object lo hi (count_up first n) aspects))
aspects_apart usage object lo hi first n [] lt rising = tt
aspects_apart usage object lo hi first n (aspect ∷ later) lt rising =
    subst (Apart part_sort) (split usage object lo hi (count_up first n) aspect later)
    (apart_append part_sort (all_used usage (level_runs object lo hi (count_up first n) aspect)) (all_used usage (aspect_runs object lo hi (count_up first n) later))
    (levels_apart usage object lo hi aspect first n lt)
    (aspects_apart usage object lo hi first n later lt rising.1)
    (each_after usage object lo hi aspect (count_up first n) (count_up first n) later rising.0))

-- Rows that are apart are printed as they are.
uses_as_printed : (rows : List (PartRun × Usages)) → Apart part_sort rows → printed_uses rows ≡ rows
uses_as_printed = as_printed part_sort same_set uses_tell

accesses_as_printed : (rows : List (Cells × AccessKind)) → Apart cell_sort rows → printed_accesses rows ≡ rows
accesses_as_printed = as_printed cell_sort same_kind accesses_tell

-- The runs of a view.
if_apart : (b : Bool) (usage : Usages) (object lo hi first last : ℕ) (aspects : List Aspect) → nat_lt lo hi ≡ b → Rising aspects → Apart part_sort (all_used usage (if b then aspect_runs object lo hi (numbers first last) aspects else []))
if_apart true usage object lo hi first last aspects e rising = aspects_apart usage object lo hi first (last - first) aspects (ltb-true lo hi e) rising
if_apart false usage object lo hi first last aspects e rising = tt

view_apart : (view : ViewInfo) (usage : Usages) → Apart part_sort (all_used usage (view_runs view))
unfolding view_runs
view_apart view usage =
    if_apart (nat_lt view.base_layer (min (view.base_layer + view.layers) (layer_count view.texture_info))) usage view.texture.number view.base_layer (min (view.base_layer + view.layers) (layer_count view.texture_info)) view.base_mip (min (view.base_mip + view.mips) view.texture_info.mips) (named_aspects view.aspect (row view.texture_info.format).aspects) refl (named_rising view.aspect (row view.texture_info.format).aspects)

pub views_printed : ViewsPrinted
views_printed = record {
  apart = view_apart;
  printed = λ view usage. uses_as_printed (all_used usage (view_runs view)) (view_apart view usage);
}

-- The cells of a copy, and the parts that they lie in.
full_cells : (dim : TextureDim) (object : ℕ) (aspect : Aspect) (mip lo hi from to : ℕ) → lo < hi → from < to → cell_lo (texture_cells dim object aspect mip lo hi from to) < cell_hi (texture_cells dim object aspect mip lo hi from to)
full_cells texture_dim.Three object Color mip lo hi from to layers slices = slices
full_cells texture_dim.Three object Depth mip lo hi from to layers slices = layers
full_cells texture_dim.Three object Stencil mip lo hi from to layers slices = layers
full_cells texture_dim.One object aspect mip lo hi from to layers slices = layers
full_cells texture_dim.Two object aspect mip lo hi from to layers slices = layers

stencil_later : (dim : TextureDim) (object mip lo hi from to : ℕ) → list_before (cell_line (texture_cells dim object Depth mip lo hi from to)) (cell_line (texture_cells dim object Stencil mip lo hi from to)) ≡ true
stencil_later texture_dim.One object mip lo hi from to = later_aspect object 1 2 mip mip (lit< tt)
stencil_later texture_dim.Two object mip lo hi from to = later_aspect object 1 2 mip mip (lit< tt)
stencil_later texture_dim.Three object mip lo hi from to = later_aspect object 1 2 mip mip (lit< tt)

abbrev CellsApart : AccessKind → TextureDim → ℕ → ℕ → ℕ → ℕ → ℕ → ℕ → List Aspect → Type 0
CellsApart kind dim object mip lo hi from to aspects = Apart cell_sort (all_accessed kind (map (λ aspect. texture_cells dim object aspect mip lo hi from to) aspects))

-- A format has color alone, or depth, or stencil, or both of these.
cells_apart : (word : AspectWord) (has : FormatAspects) (kind : AccessKind) (dim : TextureDim) (object mip lo hi from to : ℕ) → lo < hi → from < to → CellsApart kind dim object mip lo hi from to (named_aspects word has)
cells_apart word has kind dim object mip lo hi from to layers slices = by_aspects word has
  where
    one : (aspect : Aspect) → CellsApart kind dim object mip lo hi from to (aspect ∷ [])
    one aspect = (full_cells dim object aspect mip lo hi from to layers slices, tt, tt)

    both : CellsApart kind dim object mip lo hi from to (Depth ∷ (Stencil ∷ []))
    both = (full_cells dim object Depth mip lo hi from to layers slices, (inl (stencil_later dim object mip lo hi from to), tt), one Stencil)

    by_aspects : (word : AspectWord) (has : FormatAspects) → CellsApart kind dim object mip lo hi from to (named_aspects word has)
    by_aspects All aspects.Color = one Color
    by_aspects All aspects.Depth = one Depth
    by_aspects All aspects.DepthStencil = both
    by_aspects All aspects.Stencil = one Stencil
    by_aspects DepthOnly aspects.Color = tt
    by_aspects DepthOnly aspects.Depth = one Depth
    by_aspects DepthOnly aspects.DepthStencil = one Depth
    by_aspects DepthOnly aspects.Stencil = tt
    by_aspects StencilOnly aspects.Color = tt
    by_aspects StencilOnly aspects.Depth = tt
    by_aspects StencilOnly aspects.DepthStencil = one Stencil
    by_aspects StencilOnly aspects.Stencil = one Stencil

after_parts : (usage : Usages) (object mip lo hi : ℕ) (aspect : Aspect) (later : List Aspect) → EachRow (λ other. aspect_number aspect < aspect_number other) later → EachRow (After part_sort (LayerParts object aspect mip lo hi, usage)) (all_used usage (map (λ aspect. LayerParts object aspect mip lo hi) later))
after_parts usage object mip lo hi aspect [] lt = tt
after_parts usage object mip lo hi aspect (other ∷ later) lt = (inl (later_aspect object (aspect_number aspect) (aspect_number other) mip mip lt.0), after_parts usage object mip lo hi aspect later lt.1)

parts_apart : (usage : Usages) (object mip lo hi : ℕ) (aspects : List Aspect) → lo < hi → Rising aspects → Apart part_sort (all_used usage (map (λ aspect. LayerParts object aspect mip lo hi) aspects))
parts_apart usage object mip lo hi [] lt rising = tt
parts_apart usage object mip lo hi (aspect ∷ later) lt rising = (lt, after_parts usage object mip lo hi aspect later rising.0, parts_apart usage object mip lo hi later lt rising.1)

if_cells_apart : (b : Bool) (word : AspectWord) (has : FormatAspects) (kind : AccessKind) (dim : TextureDim) (object mip lo hi from to : ℕ) → nat_lt lo hi ≡ b → from < to → Apart cell_sort (all_accessed kind (if b then map (λ aspect. texture_cells dim object aspect mip lo hi from to) (named_aspects word has) else []))
if_cells_apart true word has kind dim object mip lo hi from to e slices = cells_apart word has kind dim object mip lo hi from to (ltb-true lo hi e) slices
if_cells_apart false word has kind dim object mip lo hi from to e slices = tt

if_parts_apart : (b : Bool) (usage : Usages) (object mip lo hi : ℕ) (aspects : List Aspect) → nat_lt lo hi ≡ b → Rising aspects → Apart part_sort (all_used usage (if b then map (λ aspect. LayerParts object aspect mip lo hi) aspects else []))
if_parts_apart true usage object mip lo hi aspects e rising = parts_apart usage object mip lo hi aspects (ltb-true lo hi e) rising
if_parts_apart false usage object mip lo hi aspects e rising = tt

is_some_number : (n : ℕ) → n == 0 ≡ false → 0 < n
is_some_number zero e = absurd (cc)
is_some_number (suc n) e = omega arith

third : (a b c : Bool) → a || b || c ≡ false → c ≡ false
third false false c e = e
third false true c e = absurd (cc)
third true b c e = absurd (cc)

more : (n m : ℕ) → 0 < m → n < n + m
more n m lt = omega arith

copy_cells_apart : (texture : ℕ) (info : TextureInfo) (spot : TextureSpot) (size : List ℕ) (kind : AccessKind) → has_no_texel size ≡ false → Apart cell_sort (all_accessed kind (copied_cells texture info spot size))
unfolding copied_cells
copy_cells_apart texture info spot size kind e =
    if_cells_apart (nat_lt (first_layer info.dim spot.origin) (end_layer info.dim spot.origin size)) spot.aspect (row info.format).aspects kind info.dim texture spot.mip (first_layer info.dim spot.origin) (end_layer info.dim spot.origin size) (depth spot.origin) (depth spot.origin + depth size) refl (more (depth spot.origin) (depth size) (is_some_number (depth size) (third (width size == 0) (height size == 0) (depth size == 0) e)))

copy_parts_apart : (texture : ℕ) (info : TextureInfo) (spot : TextureSpot) (size : List ℕ) (usage : Usages) → Apart part_sort (all_used usage (copy_runs texture info spot size))
copy_parts_apart texture info spot size usage =
    subst (λ (runs : List PartRun). Apart part_sort (all_used usage runs)) (sym (runs_of_copy texture info spot size))
    (if_parts_apart (nat_lt (first_layer info.dim spot.origin) (end_layer info.dim spot.origin size)) usage texture spot.mip (first_layer info.dim spot.origin) (end_layer info.dim spot.origin size) (named_aspects spot.aspect (row info.format).aspects) refl (named_rising spot.aspect (row info.format).aspects))

pub copies_printed : CopiesPrinted
copies_printed = record {
  apart = copy_parts_apart;
  printed = λ texture info spot size usage. uses_as_printed (all_used usage (copy_runs texture info spot size)) (copy_parts_apart texture info spot size usage);
}

pub cells_printed : CellsPrinted
cells_printed = record {
  apart = copy_cells_apart;
  printed = λ texture info spot size kind e. accesses_as_printed (all_accessed kind (copied_cells texture info spot size)) (copy_cells_apart texture info spot size kind e);
}
