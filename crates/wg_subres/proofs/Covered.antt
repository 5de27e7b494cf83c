-- The runs of views and of copies cover what these have.
use Rattle.std.proofs.Common.{◌≡◌, ℕ, zero, suc, ◌+◌, ◌-◌, ◌==◌, min, nat_lt, Bool, true, false, ◌&&◌, ◌||◌, List, [], ◌∷◌, map, refl, sym, ap, ap₂, ◌∙◌, ◌⊎◌, inl, inr, if◌then◌else◌, arith}
use Rattle.std.specs.List.{list_any}
use Rattle.std.proofs.lemmas.Bool.{or_cases, or_right}
use Rattle.std.proofs.lemmas.Bool.Decides.{nat_tests}
use Rattle.std.proofs.lemmas.List.Folds.{list_any-append}
use Rattle.std.proofs.lemmas.List.Concat.{flat_map-cons}
use Rattle.wg_rows.specs.Rows.{in_range, count_up, numbers}
use Rattle.wg_types.specs.declared.textures.TextureInfo.{TextureInfo}
use Rattle.wg_types.specs.declared.textures.TextureSpot.{TextureSpot}
use Rattle.wg_types.specs.declared.textures.ViewInfo.{ViewInfo}
use Rattle.wg_types.specs.Formats.{row}
use Rattle.wg_rows.specs.Runs.{Aspect, aspect_number, Part, Buffer, Subresource, QuerySet, PartRun, LayerParts, covers_part, Cells, Cell, part_of, covers, run_part}
use Rattle.wg_rows.proofs.Lying.{cells_lie}
use Rattle.wg_model.specs.Formats.{named_aspects}
use Rattle.wg_model.specs.Textures.{layer_count}
use Rattle.wg_model.specs.Subresources.{level_runs, aspect_runs, view_runs, view_cells, first_layer, end_layer, copied_cells, copy_runs, is_aspect_of}
use Rattle.wg_subres.specs.Has.{view_has, copy_has, is_covered, is_accessed, ViewsCover, CopiesCover, ViewCellsLie, CopiedCellsLie}
use Rattle.wg_subres.proofs.Lying.{copied_layers, runs_of_copy, runs_of_view}

-- Ranges.
pub range_none : (first m : ℕ) → in_range first (first + 0) m ≡ false
range_none first m = grind (arith, nat_tests)

pub range_first : (first n m : ℕ) → in_range first (first + suc n) m ≡ (first == m) || in_range (suc first) (suc first + n) m
range_first first n m = grind (arith, nat_tests)

pub range_clipped : (lo hi most x : ℕ) → in_range lo (min hi most) x ≡ in_range lo hi x && nat_lt x most
range_clipped lo hi most x = grind (arith, nat_tests)

pub range_counted : (lo hi x : ℕ) → in_range lo (lo + (hi - lo)) x ≡ in_range lo hi x
range_counted lo hi x = grind (arith, nat_tests)

pub range_empty : (lo hi x : ℕ) → nat_lt lo hi ≡ false → in_range lo hi x ≡ false
range_empty lo hi x e = grind (arith, nat_tests)

-- Tests.
none_third : (x y z : Bool) → false ≡ x && (y && (false && z))
none_third false y z = refl
none_third true false z = refl
none_third true true z = refl

none_second : (x z : Bool) → false ≡ x && (false && z)
none_second false z = refl
none_second true z = refl

pub or_both : (z r : Bool) → z || (r && z) ≡ z
or_both true r = refl
or_both false true = refl
or_both false false = refl

one_more : (x y e r z : Bool) → ((x && (y && (e && true))) && z) || (x && (y && (r && z))) ≡ x && (y && ((e || r) && z))
one_more false y e r z = refl
one_more true false e r z = refl
one_more true true true r z = or_both z r
one_more true true false r z = refl

or_second : (x y ys w : Bool) → (x && (y && w)) || (x && (ys && w)) ≡ x && ((y || ys) && w)
or_second false y ys w = refl
or_second true true ys w = or_both w ys
or_second true false ys w = refl

-- The levels of one aspect.
levels_cover : (object lo hi first n : ℕ) (aspect : Aspect) (o : ℕ) (a : Aspect) (m l : ℕ) → list_any (λ run. covers_part run (Subresource o a m l)) (level_runs object lo hi (count_up first n) aspect) ≡ (object == o) && ((aspect_number aspect == aspect_number a) && (in_range first (first + n) m && in_range lo hi l))
unfolding covers_part
levels_cover object lo hi first zero aspect o a m l = none_third (object == o) (aspect_number aspect == aspect_number a) (in_range lo hi l) ∙ ap (λ b. (object == o) && ((aspect_number aspect == aspect_number a) && (b && in_range lo hi l))) (sym (range_none first m))
levels_cover object lo hi first (suc n) aspect o a m l =
    ap (λ b. covers_part (LayerParts object aspect first lo hi) (Subresource o a m l) || b) (levels_cover object lo hi (suc first) n aspect o a m l)
    ∙ (one_more (object == o) (aspect_number aspect == aspect_number a) (first == m) (in_range (suc first) (suc first + n) m) (in_range lo hi l)
    ∙ ap (λ b. (object == o) && ((aspect_number aspect == aspect_number a) && (b && in_range lo hi l))) (sym (range_first first n m)))

-- The levels of all aspects.
pub aspects_cover : (object lo hi first n : ℕ) (aspects : List Aspect) (o : ℕ) (a : Aspect) (m l : ℕ) → list_any (λ run. covers_part run (Subresource o a m l)) (aspect_runs object lo hi (count_up first n) aspects) ≡ (object == o) && (is_aspect_of a aspects && (in_range first (first + n) m && in_range lo hi l))
aspects_cover object lo hi first n [] o a m l = none_second (object == o) (in_range first (first + n) m && in_range lo hi l)
aspects_cover object lo hi first n (aspect ∷ aspects) o a m l =
    ap (list_any (λ run. covers_part run (Subresource o a m l))) (flat_map-cons (level_runs object lo hi (count_up first n)) aspect aspects)
    ∙ (list_any-append (λ run. covers_part run (Subresource o a m l)) (level_runs object lo hi (count_up first n) aspect) (aspect_runs object lo hi (count_up first n) aspects)
    ∙ (ap₂ (λ b c. b || c) (levels_cover object lo hi first n aspect o a m l) (aspects_cover object lo hi first n aspects o a m l)
    ∙ or_second (object == o) (aspect_number aspect == aspect_number a) (is_aspect_of a aspects) (in_range first (first + n) m && in_range lo hi l)))

-- Parts that are no subresources.
pub no_line : (x z : Bool) → (x && false) && z ≡ false
no_line true z = refl
no_line false z = refl

levels_no_buffer : (object lo hi : ℕ) (mips : List ℕ) (aspect : Aspect) (o : ℕ) → list_any (λ run. covers_part run (Buffer o)) (level_runs object lo hi mips aspect) ≡ false
unfolding covers_part
levels_no_buffer object lo hi [] aspect o = refl
levels_no_buffer object lo hi (mip ∷ mips) aspect o = ap₂ (λ b c. b || c) (no_line (object == o) (in_range lo hi 0)) (levels_no_buffer object lo hi mips aspect o)

levels_no_queries : (object lo hi : ℕ) (mips : List ℕ) (aspect : Aspect) (o : ℕ) → list_any (λ run. covers_part run (QuerySet o)) (level_runs object lo hi mips aspect) ≡ false
unfolding covers_part
levels_no_queries object lo hi [] aspect o = refl
levels_no_queries object lo hi (mip ∷ mips) aspect o = ap₂ (λ b c. b || c) (no_line (object == o) (in_range lo hi 0)) (levels_no_queries object lo hi mips aspect o)

aspects_without : (test : PartRun → Bool) (object lo hi : ℕ) (mips : List ℕ) (aspects : List Aspect) → ((aspect : Aspect) → list_any test (level_runs object lo hi mips aspect) ≡ false) → list_any test (aspect_runs object lo hi mips aspects) ≡ false
aspects_without test object lo hi mips [] none = refl
aspects_without test object lo hi mips (aspect ∷ aspects) none =
    ap (list_any test) (flat_map-cons (level_runs object lo hi mips) aspect aspects)
    ∙ (list_any-append test (level_runs object lo hi mips aspect) (aspect_runs object lo hi mips aspects)
    ∙ ap₂ (λ b c. b || c) (none aspect) (aspects_without test object lo hi mips aspects none))

-- The runs of a view.
none_fourth : (x y w : Bool) → false ≡ x && (y && (w && false))
none_fourth false y w = refl
none_fourth true false w = refl
none_fourth true true false = refl
none_fourth true true true = refl

has_layers : (b : Bool) (object base_layer layers total base_mip mips levels : ℕ) (aspects : List Aspect) → nat_lt base_layer (min (base_layer + layers) total) ≡ b → (o : ℕ) (a : Aspect) (m l : ℕ) → list_any (λ run. covers_part run (Subresource o a m l)) (if b then aspect_runs object base_layer (min (base_layer + layers) total) (numbers base_mip (min (base_mip + mips) levels)) aspects else []) ≡ (object == o) && (is_aspect_of a aspects && ((in_range base_mip (base_mip + mips) m && nat_lt m levels) && (in_range base_layer (base_layer + layers) l && nat_lt l total)))
has_layers true object base_layer layers total base_mip mips levels aspects e o a m l =
    aspects_cover object base_layer (min (base_layer + layers) total) base_mip (min (base_mip + mips) levels - base_mip) aspects o a m l
    ∙ ap₂ (λ b c. (object == o) && (is_aspect_of a aspects && (b && c)))
    (range_counted base_mip (min (base_mip + mips) levels) m ∙ range_clipped base_mip (base_mip + mips) levels m)
    (range_clipped base_layer (base_layer + layers) total l)
has_layers false object base_layer layers total base_mip mips levels aspects e o a m l =
    none_fourth (object == o) (is_aspect_of a aspects) (in_range base_mip (base_mip + mips) m && nat_lt m levels)
    ∙ ap (λ c. (object == o) && (is_aspect_of a aspects && ((in_range base_mip (base_mip + mips) m && nat_lt m levels) && c)))
    (sym (sym (range_clipped base_layer (base_layer + layers) total l) ∙ range_empty base_layer (min (base_layer + layers) total) l e))

if_none : (test : PartRun → Bool) (b : Bool) (runs : List PartRun) → list_any test runs ≡ false → list_any test (if b then runs else []) ≡ false
if_none test true runs none = none
if_none test false runs none = refl

pub views_cover : ViewsCover
unfolding view_runs
views_cover view (Buffer o) =
    if_none (λ run. covers_part run (Buffer o)) (nat_lt view.base_layer (min (view.base_layer + view.layers) (layer_count view.texture_info))) (aspect_runs view.texture.number view.base_layer (min (view.base_layer + view.layers) (layer_count view.texture_info)) (numbers view.base_mip (min (view.base_mip + view.mips) view.texture_info.mips)) (named_aspects view.aspect (row view.texture_info.format).aspects))
    (aspects_without (λ run. covers_part run (Buffer o)) view.texture.number view.base_layer (min (view.base_layer + view.layers) (layer_count view.texture_info)) (numbers view.base_mip (min (view.base_mip + view.mips) view.texture_info.mips)) (named_aspects view.aspect (row view.texture_info.format).aspects)
    (λ aspect. levels_no_buffer view.texture.number view.base_layer (min (view.base_layer + view.layers) (layer_count view.texture_info)) (numbers view.base_mip (min (view.base_mip + view.mips) view.texture_info.mips)) aspect o))
views_cover view (QuerySet o) =
    if_none (λ run. covers_part run (QuerySet o)) (nat_lt view.base_layer (min (view.base_layer + view.layers) (layer_count view.texture_info))) (aspect_runs view.texture.number view.base_layer (min (view.base_layer + view.layers) (layer_count view.texture_info)) (numbers view.base_mip (min (view.base_mip + view.mips) view.texture_info.mips)) (named_aspects view.aspect (row view.texture_info.format).aspects))
    (aspects_without (λ run. covers_part run (QuerySet o)) view.texture.number view.base_layer (min (view.base_layer + view.layers) (layer_count view.texture_info)) (numbers view.base_mip (min (view.base_mip + view.mips) view.texture_info.mips)) (named_aspects view.aspect (row view.texture_info.format).aspects)
    (λ aspect. levels_no_queries view.texture.number view.base_layer (min (view.base_layer + view.layers) (layer_count view.texture_info)) (numbers view.base_mip (min (view.base_mip + view.mips) view.texture_info.mips)) aspect o))
views_cover view (Subresource o a m l) =
    has_layers (nat_lt view.base_layer (min (view.base_layer + view.layers) (layer_count view.texture_info))) view.texture.number view.base_layer view.layers (layer_count view.texture_info) view.base_mip view.mips view.texture_info.mips (named_aspects view.aspect (row view.texture_info.format).aspects) refl o a m l

-- The runs of a copy.
one_layer : (x y e z : Bool) → ((x && (y && (e && true))) && z) ≡ x && (y && (e && z))
one_layer false y e z = refl
one_layer true false e z = refl
one_layer true true false z = refl
one_layer true true true z = refl

copy_covers : (object mip lo hi : ℕ) (aspects : List Aspect) (o : ℕ) (a : Aspect) (m l : ℕ) → list_any (λ run. covers_part run (Subresource o a m l)) (map (λ aspect. LayerParts object aspect mip lo hi) aspects) ≡ (object == o) && (is_aspect_of a aspects && ((mip == m) && in_range lo hi l))
unfolding covers_part
copy_covers object mip lo hi [] o a m l = none_second (object == o) ((mip == m) && in_range lo hi l)
copy_covers object mip lo hi (aspect ∷ aspects) o a m l =
    ap₂ (λ b c. b || c) (one_layer (object == o) (aspect_number aspect == aspect_number a) (mip == m) (in_range lo hi l)) (copy_covers object mip lo hi aspects o a m l)
    ∙ or_second (object == o) (aspect_number aspect == aspect_number a) (is_aspect_of a aspects) ((mip == m) && in_range lo hi l)

copy_no_buffer : (object mip lo hi : ℕ) (aspects : List Aspect) (o : ℕ) → list_any (λ run. covers_part run (Buffer o)) (map (λ aspect. LayerParts object aspect mip lo hi) aspects) ≡ false
unfolding covers_part
copy_no_buffer object mip lo hi [] o = refl
copy_no_buffer object mip lo hi (aspect ∷ aspects) o = ap₂ (λ b c. b || c) (no_line (object == o) (in_range lo hi 0)) (copy_no_buffer object mip lo hi aspects o)

copy_no_queries : (object mip lo hi : ℕ) (aspects : List Aspect) (o : ℕ) → list_any (λ run. covers_part run (QuerySet o)) (map (λ aspect. LayerParts object aspect mip lo hi) aspects) ≡ false
unfolding covers_part
copy_no_queries object mip lo hi [] o = refl
copy_no_queries object mip lo hi (aspect ∷ aspects) o = ap₂ (λ b c. b || c) (no_line (object == o) (in_range lo hi 0)) (copy_no_queries object mip lo hi aspects o)

layers_cover : (b : Bool) (object mip lo hi : ℕ) (aspects : List Aspect) → nat_lt lo hi ≡ b → (o : ℕ) (a : Aspect) (m l : ℕ) → list_any (λ run. covers_part run (Subresource o a m l)) (if b then map (λ aspect. LayerParts object aspect mip lo hi) aspects else []) ≡ (object == o) && (is_aspect_of a aspects && ((mip == m) && in_range lo hi l))
layers_cover true object mip lo hi aspects e o a m l = copy_covers object mip lo hi aspects o a m l
layers_cover false object mip lo hi aspects e o a m l =
    none_fourth (object == o) (is_aspect_of a aspects) (mip == m)
    ∙ ap (λ c. (object == o) && (is_aspect_of a aspects && ((mip == m) && c))) (sym (range_empty lo hi l e))

layers_have : (texture : ℕ) (info : TextureInfo) (spot : TextureSpot) (size : List ℕ) (part : Part) → is_covered (copied_layers texture info spot size) part ≡ copy_has texture info spot size part
layers_have texture info spot size (Buffer o) =
    if_none (λ run. covers_part run (Buffer o)) (nat_lt (first_layer info.dim spot.origin) (end_layer info.dim spot.origin size)) (map (λ aspect. LayerParts texture aspect spot.mip (first_layer info.dim spot.origin) (end_layer info.dim spot.origin size)) (named_aspects spot.aspect (row info.format).aspects))
    (copy_no_buffer texture spot.mip (first_layer info.dim spot.origin) (end_layer info.dim spot.origin size) (named_aspects spot.aspect (row info.format).aspects) o)
layers_have texture info spot size (QuerySet o) =
    if_none (λ run. covers_part run (QuerySet o)) (nat_lt (first_layer info.dim spot.origin) (end_layer info.dim spot.origin size)) (map (λ aspect. LayerParts texture aspect spot.mip (first_layer info.dim spot.origin) (end_layer info.dim spot.origin size)) (named_aspects spot.aspect (row info.format).aspects))
    (copy_no_queries texture spot.mip (first_layer info.dim spot.origin) (end_layer info.dim spot.origin size) (named_aspects spot.aspect (row info.format).aspects) o)
layers_have texture info spot size (Subresource o a m l) =
    layers_cover (nat_lt (first_layer info.dim spot.origin) (end_layer info.dim spot.origin size)) texture spot.mip (first_layer info.dim spot.origin) (end_layer info.dim spot.origin size) (named_aspects spot.aspect (row info.format).aspects) refl o a m l

pub copies_cover : CopiesCover
copies_cover texture info spot size part = ap (λ runs. is_covered runs part) (runs_of_copy texture info spot size) ∙ layers_have texture info spot size part

-- Where a run of cells has a cell, the part in which these lie has the cell's.
pub lie_in : (cells : List Cells) (cell : Cell) → is_accessed cells cell ≡ true → is_covered (map run_part cells) (part_of cell) ≡ true
lie_in [] cell e = absurd (cc)
lie_in (run ∷ cells) cell e = by_cases (or_cases (covers run cell) (is_accessed cells cell) e) (lie_in cells cell)
  where
    by_cases : (covers run cell ≡ true) ⊎ (is_accessed cells cell ≡ true)
        → (is_accessed cells cell ≡ true → is_covered (map run_part cells) (part_of cell) ≡ true)
        → covers_part (run_part run) (part_of cell) || is_covered (map run_part cells) (part_of cell) ≡ true
    by_cases (inl here) rest = ap (λ b. b || is_covered (map run_part cells) (part_of cell)) (cells_lie run cell here)
    by_cases (inr later) rest = or_right (covers_part (run_part run) (part_of cell)) (is_covered (map run_part cells) (part_of cell)) (rest later)

pub copied_cells_lie : CopiedCellsLie
unfolding copy_runs
copied_cells_lie texture info spot size cell e = sym (copies_cover texture info spot size (part_of cell)) ∙ lie_in (copied_cells texture info spot size) cell e

view_lie : (view : ViewInfo) (cell : Cell) → is_accessed (view_cells view) cell ≡ true → view_has view (part_of cell) ≡ true
view_lie view cell e = sym (views_cover view (part_of cell)) ∙ (ap (λ runs. is_covered runs (part_of cell)) (sym (runs_of_view view)) ∙ lie_in (view_cells view) cell e)

pub view_cells_lie : ViewCellsLie
view_cells_lie = record { runs = runs_of_view; lie = view_lie }
