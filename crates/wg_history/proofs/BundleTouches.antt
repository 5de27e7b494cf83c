-- What is known of the touches of a bundle: each is of a resource that its commands use, as such as they use it.
use Rattle.std.proofs.Common.{◌≡◌, ℕ, ◌+◌, ◌==◌, nat_lt, min, Bool, true, false, ◌||◌, List, [], ◌∷◌, ◌++◌, map, filter, reverse, Option, Some, None, is_none, option_map, refl, ap, ap₂, sym, ◌∙◌, if◌then◌else◌, true≢false}
use Rattle.std.specs.List.{list_any, flat_map}
use Rattle.std.specs.Option.{option_map_or}
use Rattle.std.proofs.lemmas.Bool.{or_left, or_right}
use Rattle.std.proofs.lemmas.List.Folds.{list_any-append}
use Rattle.wg_types.specs.declared.limits.Maker.{Maker}
use Rattle.wg_types.specs.Handles.{HandleValue}
use Rattle.wg_types.specs.Formats.{row}
use Rattle.wg_types.specs.Textures.{depth}
use Rattle.wg_types.specs.Bindings.{entry_of}
use Rattle.wg_types.specs.Refs.{all_wanted, maybe_wanted}
use Rattle.wg_types.specs.Commands.{Command, named}
use Rattle.wg_types.specs.declared.commands.On.{On}
use Rattle.wg_types.specs.declared.commands.CommandOf.TheVariants.{SetBindGroup, SetVertexBuffer, SetIndexBuffer, DrawIndirect, DrawIndexedIndirect, ExecuteBundles}
use Rattle.wg_types.specs.declared.wanted.Wanted.{Wanted}
use Rattle.wg_types.specs.declared.wanted.Wanted.TheVariants as wanted
use Rattle.wg_types.specs.declared.bindings.BindingKind.{BindingKind}
use Rattle.wg_types.specs.declared.bindings.LayoutEntry.{LayoutEntry}
use Rattle.wg_types.specs.declared.bindings.BoundEntry.{BoundEntry}
use Rattle.wg_types.specs.declared.bindings.BoundResource.{BoundResource}
use Rattle.wg_types.specs.declared.bindings.BoundResource.TheVariants.{Buffer as BoundBuffer, View as BoundView, Sampler as BoundSampler}
use Rattle.wg_types.specs.declared.groups.GroupInfo.{GroupInfo}
use Rattle.wg_types.specs.declared.handles.ObjRef.{ObjRef}
use Rattle.wg_types.specs.declared.handles.BufferInfo.{BufferInfo}
use Rattle.wg_types.specs.declared.textures.TextureDim.{TextureDim}
use Rattle.wg_types.specs.declared.textures.TextureDim.TheVariants as texture_dim
use Rattle.wg_types.specs.declared.textures.TextureInfo.{TextureInfo}
use Rattle.wg_types.specs.declared.textures.ViewInfo.{ViewInfo}
use Rattle.wg_types.specs.declared.render.TargetInfo.{TargetInfo}
use Rattle.wg_types.specs.declared.bundles.BundleInfo.{BundleInfo}
use Rattle.wg_types.specs.declared.bundles.BundleTouch.{BundleTouch}
use Rattle.wg_types.specs.declared.bundles.BundleUse.{BundleUse}
use Rattle.wg_types.specs.declared.bundles.BundleUse.TheVariants.{Input, Constant, StorageRead, Storage}
use Rattle.wg_rows.specs.Rows.{EachRow, numbers}
use Rattle.wg_rows.specs.Runs.{Aspect, Color, Depth, Stencil, PartRun, BufferPart, LayerParts, QueryPart, Cells, Bytes, Layers, Slices, Queries, part_sort, cell_sort, run_part}
use Rattle.wg_rows.specs.Uses.{AccessKind, same_kind, printed_accesses}
use Rattle.wg_rows.specs.Sets.{UseRow, sets}
use Rattle.wg_rows.proofs.Cut.{each_append}
use Rattle.wg_model.specs.Formats.{named_aspects}
use Rattle.wg_model.specs.Textures.{layer_count, extent}
use Rattle.wg_model.specs.Subresources.{level_runs, aspect_runs, view_runs, texture_cells, run_cells}
use Rattle.wg_model.specs.Commands.{size_or_rest}
use Rattle.wg_model.specs.Touches.{Touch, use_of, access_of, has_cells, deed_of}
use Rattle.wg_model.specs.Bound.{Place, known_group, place_of, entry_places, places_in, set_places, kind_touch, resource_cells, place_touches}
use Rattle.wg_model.specs.Bundles.{known_bundle, bundle_touch, known_touches, executed_touches, is_used_so, no_cells, part_touched, cells_touched, touched_so, bundle_touches, buffer_in, texture_in, query_set_in, in_bundle}
use Rattle.wg_model.specs.Settings.{bound_with}
use Rattle.wg_model.specs.Render.{bundle_set, command_touches, bound_group_touches, touches_over}
use Rattle.wg_model.specs.Walk.{bundled, bundle_verdict, bundle_of}
use Rattle.wg_model.specs.Recorded.{bound_buffer, bound_texture, in_group, buffers_as, textures_as, query_sets_as, numbers_by, buffers_of, textures_of, query_sets_of, resources, any_named, any_resource}
use Rattle.wg_model.proofs.NamedLemmas.{swap_heads}
use Rattle.wg_model.proofs.Sparing.{or_first, or_second, any_reversed}
use Rattle.wg_history.proofs.PrintedRuns.{EachRun, Widened, printed_each, sets_each}

-- A sort of resources, with those of this sort that cells are of, that are reached through an object, and that an entry binds.
pub data Word : Type 0 where
  buffer_word : Word
  texture_word : Word
  query_word : Word

abbrev pub numbers_in : Word → Cells → List ℕ
numbers_in buffer_word cells = buffer_in cells
numbers_in texture_word cells = texture_in cells
numbers_in query_word cells = query_set_in cells

abbrev pub reached_by : Word → Wanted → HandleValue → List ℕ
reached_by buffer_word asked object = buffers_as asked object
reached_by texture_word asked object = textures_as asked object
reached_by query_word asked object = query_sets_as asked object

abbrev pub bound_by : Word → BoundResource → List ℕ
bound_by buffer_word resource = bound_buffer resource
bound_by texture_word resource = bound_texture resource
bound_by query_word resource = []

-- the numbers of those that a command reaches
abbrev pub reached_of : (Wanted → HandleValue → List ℕ) → Command → List ℕ
reached_of reached command = numbers_by reached (named command)

-- A resource is a buffer, a texture or a query set.

-- a test that is passed where one of two others is passes on a list where one of them does
pub any_either : {X : Type 0} (p q r : X → Bool) → ((x : X) → r x ≡ p x || q x) → (xs : List X) → list_any r xs ≡ list_any p xs || list_any q xs
any_either p q r is [] = refl
any_either p q r is (x ∷ xs) = ap₂ ◌||◌ (is x) (any_either p q r is xs) ∙ swap_heads (p x) (list_any p xs) (q x) (list_any q xs)

any_more_is : (test : ℕ → Bool) (commands : List (On × Command)) → any_named (λ command. textures_of command ++ query_sets_of command) test commands ≡ any_named textures_of test commands || any_named query_sets_of test commands
any_more_is test commands = any_either (λ kept. list_any test (textures_of kept.1)) (λ kept. list_any test (query_sets_of kept.1)) (λ kept. list_any test (textures_of kept.1 ++ query_sets_of kept.1)) (λ kept. list_any-append test (textures_of kept.1) (query_sets_of kept.1)) commands

pub any_resource_is : (test : ℕ → Bool) (commands : List (On × Command)) → any_resource test commands ≡ any_named buffers_of test commands || (any_named textures_of test commands || any_named query_sets_of test commands)
any_resource_is test commands =
    any_either (λ kept. list_any test (buffers_of kept.1)) (λ kept. list_any test (textures_of kept.1 ++ query_sets_of kept.1)) (λ kept. list_any test (resources kept.1))
    (λ kept. list_any-append test (buffers_of kept.1) (textures_of kept.1 ++ query_sets_of kept.1)) commands
    ∙ ap (λ b. any_named buffers_of test commands || b) (any_more_is test commands)

pub word_uses : (word : Word) (test : ℕ → Bool) (commands : List (On × Command)) → any_named (reached_of (reached_by word)) test commands ≡ true → any_resource test commands ≡ true
word_uses buffer_word test commands e = any_resource_is test commands ∙ or_left (any_named buffers_of test commands) _ e
word_uses texture_word test commands e = any_resource_is test commands ∙ or_right (any_named buffers_of test commands) _ (or_left (any_named textures_of test commands) _ e)
word_uses query_word test commands e = any_resource_is test commands ∙ or_right (any_named buffers_of test commands) _ (or_right (any_named textures_of test commands) _ e)

-- No number of a list is that of resource n.
abbrev Lacks : ℕ → List ℕ → Type 0
Lacks n list = list_any (λ r. r == n) list ≡ false

lacks_parts : (n : ℕ) (xs ys : List ℕ) → Lacks n (xs ++ ys) → Lacks n xs × Lacks n ys
lacks_parts n xs ys e =
    let both : list_any (λ r. r == n) xs || list_any (λ r. r == n) ys ≡ false = sym (list_any-append (λ r. r == n) xs ys) ∙ e in
    (or_first (list_any (λ r. r == n) xs) (list_any (λ r. r == n) ys) both, or_second (list_any (λ r. r == n) xs) (list_any (λ r. r == n) ys) both)

-- Cells are of no such resource, wherever in it they lie.
abbrev Spares : Word → ℕ → Cells → Type 0
Spares word n cells = Lacks n (numbers_in word cells)

cells_widened : (word : Word) (n : ℕ) → Widened cell_sort (Spares word n)
cells_widened buffer_word n (Bytes object lo hi) from to e = e
cells_widened buffer_word n (Layers object aspect mip lo hi) from to e = e
cells_widened buffer_word n (Slices object mip lo hi) from to e = e
cells_widened buffer_word n (Queries object lo hi) from to e = e
cells_widened texture_word n (Bytes object lo hi) from to e = e
cells_widened texture_word n (Layers object aspect mip lo hi) from to e = e
cells_widened texture_word n (Slices object mip lo hi) from to e = e
cells_widened texture_word n (Queries object lo hi) from to e = e
cells_widened query_word n (Bytes object lo hi) from to e = e
cells_widened query_word n (Layers object aspect mip lo hi) from to e = e
cells_widened query_word n (Slices object mip lo hi) from to e = e
cells_widened query_word n (Queries object lo hi) from to e = e

abbrev SparesPart : Word → ℕ → PartRun → Type 0
SparesPart word n run = Spares word n (no_cells run)

parts_widened : (word : Word) (n : ℕ) → Widened part_sort (SparesPart word n)
parts_widened word n (BufferPart object) from to e = e
parts_widened buffer_word n (LayerParts object aspect mip lo hi) from to e = e
parts_widened texture_word n (LayerParts object aspect mip lo hi) from to e = e
parts_widened query_word n (LayerParts object aspect mip lo hi) from to e = e
parts_widened word n (QueryPart object) from to e = e

part_spares : (word : Word) (n : ℕ) (cells : Cells) → Spares word n cells → SparesPart word n (run_part cells)
part_spares buffer_word n (Bytes object lo hi) e = e
part_spares buffer_word n (Layers object aspect mip lo hi) e = e
part_spares buffer_word n (Slices object mip lo hi) e = e
part_spares buffer_word n (Queries object lo hi) e = e
part_spares texture_word n (Bytes object lo hi) e = e
part_spares texture_word n (Layers object aspect mip lo hi) e = e
part_spares texture_word n (Slices object mip lo hi) e = e
part_spares texture_word n (Queries object lo hi) e = e
part_spares query_word n (Bytes object lo hi) e = e
part_spares query_word n (Layers object aspect mip lo hi) e = e
part_spares query_word n (Slices object mip lo hi) e = e
part_spares query_word n (Queries object lo hi) e = e

-- So it is of touches as they are known of a bundle, where it is of the touches.

abbrev AreSpared : Word → ℕ → List Touch → Type 0
AreSpared word n touches = EachRow (λ (touch : Touch). Spares word n touch.0) touches

abbrev KnownSpared : Word → ℕ → List BundleTouch → Type 0
KnownSpared word n touches = EachRow (λ (touch : BundleTouch). Spares word n touch.cells) touches

each_filtered : {A : Type 0} (P : A → Type 0) (test : A → Bool) (xs : List A) → EachRow P xs → EachRow P (filter test xs)
each_filtered P test [] each = tt
each_filtered {A} P test (x ∷ xs) each = by_test (test x) (each_filtered P test xs each.1)
  where
    by_test : (b : Bool) → EachRow P (filter test xs) → EachRow P (if b then x ∷ filter test xs else filter test xs)
    by_test true rest = (each.0, rest)
    by_test false rest = rest

uses_spared : (word : Word) (n : ℕ) (touches : List Touch) → AreSpared word n touches → EachRun (SparesPart word n) (map use_of touches)
uses_spared word n [] each = tt
uses_spared word n (touch ∷ touches) each = (part_spares word n touch.0 each.0, uses_spared word n touches each.1)

accesses_spared : (word : Word) (n : ℕ) (touches : List Touch) → AreSpared word n touches → EachRun (Spares word n) (map access_of touches)
accesses_spared word n [] each = tt
accesses_spared word n (touch ∷ touches) each = (each.0, accesses_spared word n touches each.1)

parts_known : (word : Word) (n : ℕ) (used : BundleUse) (rows : List UseRow) → EachRun (SparesPart word n) rows → KnownSpared word n (map (part_touched used) rows)
parts_known word n used [] each = tt
parts_known word n used (x ∷ xs) each = (each.0, parts_known word n used xs each.1)

cells_known : (word : Word) (n : ℕ) (used : BundleUse) (rows : List (Cells × AccessKind)) → EachRun (Spares word n) rows → KnownSpared word n (map (cells_touched used) rows)
cells_known word n used [] each = tt
cells_known word n used (x ∷ xs) each = (each.0, cells_known word n used xs each.1)

used_spared : (word : Word) (n : ℕ) (used : BundleUse) (touches : List Touch) → AreSpared word n touches → KnownSpared word n (touched_so used touches)
unfolding deed_of
used_spared word n used touches each =
    let those : List Touch = filter (is_used_so used) touches in
    let spared : AreSpared word n those = each_filtered (λ (touch : Touch). Spares word n touch.0) (is_used_so used) touches each in
    let accesses : List (Cells × AccessKind) = filter has_cells (map access_of those) in
    each_append (λ (touch : BundleTouch). Spares word n touch.cells) (map (part_touched used) (sets (map use_of those))) (map (cells_touched used) (printed_accesses accesses))
    (parts_known word n used (sets (map use_of those)) (sets_each (SparesPart word n) (parts_widened word n) (map use_of those) (uses_spared word n those spared)))
    (cells_known word n used (printed_accesses accesses) (printed_each cell_sort same_kind (Spares word n) (cells_widened word n) accesses
    (each_filtered (λ (access : Cells × AccessKind). Spares word n access.0) has_cells (map access_of those) (accesses_spared word n those spared))))

known_spared : (word : Word) (n : ℕ) (touches : List Touch) → AreSpared word n touches → KnownSpared word n (bundle_touches touches)
unfolding bundle_touches
known_spared word n touches each =
    joined (touched_so Input touches) (touched_so Constant touches ++ (touched_so StorageRead touches ++ touched_so Storage touches)) (used_spared word n Input touches each)
    (joined (touched_so Constant touches) (touched_so StorageRead touches ++ touched_so Storage touches) (used_spared word n Constant touches each)
    (joined (touched_so StorageRead touches) (touched_so Storage touches) (used_spared word n StorageRead touches each) (used_spared word n Storage touches each)))
  where
    joined : (xs ys : List BundleTouch) → KnownSpared word n xs → KnownSpared word n ys → KnownSpared word n (xs ++ ys)
    joined xs ys a b = each_append (λ (touch : BundleTouch). Spares word n touch.cells) xs ys a b

numbers_lack : (word : Word) (n : ℕ) (touches : List BundleTouch) → KnownSpared word n touches → Lacks n (flat_map (λ (touch : BundleTouch). numbers_in word touch.cells) touches)
numbers_lack word n [] each = refl
numbers_lack word n (touch ∷ touches) each =
    list_any-append (λ r. r == n) (numbers_in word touch.cells) (flat_map (λ (touch : BundleTouch). numbers_in word touch.cells) touches)
    ∙ ap₂ ◌||◌ each.0 (numbers_lack word n touches each.1)

-- What commands touch that name no such resource.

-- views

abbrev RunSpared : Word → ℕ → TextureInfo → PartRun → Type 0
RunSpared word n info run = Spares word n (run_cells info run)

abbrev LayersSpared : Word → ℕ → ℕ → Type 0
LayersSpared word n object = (aspect : Aspect) (mip lo hi : ℕ) → Spares word n (Layers object aspect mip lo hi)

slices_spared : (word : Word) (n object mip lo hi from to : ℕ) → Spares word n (Layers object Color mip lo hi) → Spares word n (Slices object mip from to)
slices_spared buffer_word n object mip lo hi from to e = e
slices_spared texture_word n object mip lo hi from to e = e
slices_spared query_word n object mip lo hi from to e = e

texture_spared : (word : Word) (n object : ℕ) (dim : TextureDim) (aspect : Aspect) (mip lo hi from to : ℕ) → LayersSpared word n object → Spares word n (texture_cells dim object aspect mip lo hi from to)
texture_spared word n object texture_dim.Three Color mip lo hi from to e = slices_spared word n object mip lo hi from to (e Color mip lo hi)
texture_spared word n object texture_dim.Three Depth mip lo hi from to e = e Depth mip lo hi
texture_spared word n object texture_dim.Three Stencil mip lo hi from to e = e Stencil mip lo hi
texture_spared word n object texture_dim.One aspect mip lo hi from to e = e aspect mip lo hi
texture_spared word n object texture_dim.Two aspect mip lo hi from to e = e aspect mip lo hi

levels_spared : (word : Word) (n : ℕ) (info : TextureInfo) (object lo hi : ℕ) (mips : List ℕ) (aspect : Aspect) → LayersSpared word n object → EachRow (RunSpared word n info) (level_runs object lo hi mips aspect)
levels_spared word n info object lo hi [] aspect e = tt
levels_spared word n info object lo hi (mip ∷ mips) aspect e = (texture_spared word n object info.dim aspect mip lo hi 0 (depth (extent info mip)) e, levels_spared word n info object lo hi mips aspect e)

aspects_spared : (word : Word) (n : ℕ) (info : TextureInfo) (object lo hi : ℕ) (mips : List ℕ) (aspects : List Aspect) → LayersSpared word n object → EachRow (RunSpared word n info) (aspect_runs object lo hi mips aspects)
aspects_spared word n info object lo hi mips [] e = tt
aspects_spared word n info object lo hi mips (aspect ∷ aspects) e = each_append (RunSpared word n info) (level_runs object lo hi mips aspect) (aspect_runs object lo hi mips aspects) (levels_spared word n info object lo hi mips aspect e) (aspects_spared word n info object lo hi mips aspects e)

view_spared : (word : Word) (n : ℕ) (view : ViewInfo) → LayersSpared word n view.texture.number → EachRow (RunSpared word n view.texture_info) (view_runs view)
unfolding view_runs
view_spared word n view e = by_layers (nat_lt view.base_layer (min (view.base_layer + view.layers) (layer_count view.texture_info)))
  where
    by_layers : (b : Bool) → EachRow (RunSpared word n view.texture_info) (if b then aspect_runs view.texture.number view.base_layer (min (view.base_layer + view.layers) (layer_count view.texture_info)) (numbers view.base_mip (min (view.base_mip + view.mips) view.texture_info.mips)) (named_aspects view.aspect (row view.texture_info.format).aspects) else [])
    by_layers true = aspects_spared word n view.texture_info view.texture.number view.base_layer (min (view.base_layer + view.layers) (layer_count view.texture_info)) (numbers view.base_mip (min (view.base_mip + view.mips) view.texture_info.mips)) (named_aspects view.aspect (row view.texture_info.format).aspects) e
    by_layers false = tt

runs_spared : (word : Word) (n : ℕ) (info : TextureInfo) (runs : List PartRun) → EachRow (RunSpared word n info) runs → EachRow (Spares word n) (map (run_cells info) runs)
runs_spared word n info [] each = tt
runs_spared word n info (run ∷ runs) each = (each.0, runs_spared word n info runs each.1)

-- what groups bind

abbrev Unbound : Word → ℕ → BoundResource → Type 0
Unbound word n resource = Lacks n (bound_by word resource)

view_layers : (word : Word) (n : ℕ) (view : ObjRef) (known : ViewInfo) → Unbound word n (BoundView view known) → LayersSpared word n known.texture.number
view_layers buffer_word n view known e = λ aspect mip lo hi. refl
view_layers texture_word n view known e = λ aspect mip lo hi. e
view_layers query_word n view known e = λ aspect mip lo hi. refl

buffer_bytes : (word : Word) (n : ℕ) (buffer : ObjRef) (known : BufferInfo) (offset size lo hi : ℕ) → Unbound word n (BoundBuffer buffer known offset size) → Spares word n (Bytes buffer.number lo hi)
buffer_bytes buffer_word n buffer known offset size lo hi e = e
buffer_bytes texture_word n buffer known offset size lo hi e = refl
buffer_bytes query_word n buffer known offset size lo hi e = refl

resource_spared : (word : Word) (n moved : ℕ) (resource : BoundResource) → Unbound word n resource → EachRow (Spares word n) (resource_cells moved resource)
resource_spared word n moved (BoundBuffer buffer known offset size) e = (buffer_bytes word n buffer known offset size (offset + moved) (offset + moved + size) e, tt)
resource_spared word n moved (BoundView view known) e = runs_spared word n known.texture_info (view_runs known) (view_spared word n known (view_layers word n view known e))
resource_spared word n moved (BoundSampler sampler known) e = tt

cells_spared : (word : Word) (n : ℕ) (kind : BindingKind) (cells : List Cells) → EachRow (Spares word n) cells → AreSpared word n (map (λ (run : Cells). (run, kind_touch kind)) cells)
cells_spared word n kind [] each = tt
cells_spared word n kind (run ∷ cells) each = (each.0, cells_spared word n kind cells each.1)

abbrev PlacesUnbound : Word → ℕ → List Place → Type 0
PlacesUnbound word n places = EachRow (λ (place : Place). Unbound word n place.resource) places

places_spared : (word : Word) (n : ℕ) (places : List Place) → PlacesUnbound word n places → AreSpared word n (flat_map place_touches places)
places_spared word n [] each = tt
places_spared word n (place ∷ places) each =
    each_append (λ (touch : Touch). Spares word n touch.0) (place_touches place) (flat_map place_touches places)
    (cells_spared word n place.asked.kind (resource_cells place.moved place.resource) (resource_spared word n place.moved place.resource each.0))
    (places_spared word n places each.1)

one_unbound : (word : Word) (n : ℕ) (layout : List LayoutEntry) (offsets : List ℕ) (bound : BoundEntry) (found : Option LayoutEntry) → Unbound word n bound.resource
    → PlacesUnbound word n (option_map_or (λ (asked : LayoutEntry). place_of layout offsets asked bound.resource ∷ []) found [])
one_unbound word n layout offsets bound None e = tt
one_unbound word n layout offsets bound (Some asked) e = (e, tt)

entries_unbound : (word : Word) (n : ℕ) (layout : List LayoutEntry) (offsets : List ℕ) (entries : List BoundEntry) → Lacks n (flat_map (λ (entry : BoundEntry). bound_by word entry.resource) entries)
    → PlacesUnbound word n (flat_map (entry_places layout offsets) entries)
entries_unbound word n layout offsets [] e = tt
entries_unbound word n layout offsets (bound ∷ entries) e =
    let both = lacks_parts n (bound_by word bound.resource) (flat_map (λ (entry : BoundEntry). bound_by word entry.resource) entries) e in
    each_append (λ (place : Place). Unbound word n place.resource) (entry_places layout offsets bound) (flat_map (entry_places layout offsets) entries)
    (one_unbound word n layout offsets bound (entry_of layout bound.binding) both.0) (entries_unbound word n layout offsets entries both.1)

info_unbound : (word : Word) (n : ℕ) (known : Option GroupInfo) (offsets : List ℕ) → Lacks n (in_group (bound_by word) known) → PlacesUnbound word n (option_map_or (λ (group : GroupInfo). places_in group offsets) known [])
info_unbound word n None offsets e = tt
info_unbound word n (Some group) offsets e = entries_unbound word n group.layout_info.entries offsets group.entries e

-- no query set is bound
none_bound : (n : ℕ) (entries : List BoundEntry) → Lacks n (flat_map (λ (entry : BoundEntry). bound_by query_word entry.resource) entries)
none_bound n [] = refl
none_bound n (entry ∷ entries) = none_bound n entries

none_in_group : (n : ℕ) (known : Option GroupInfo) → Lacks n (in_group (bound_by query_word) known)
none_in_group n None = refl
none_in_group n (Some group) = none_bound n group.entries

group_unbound : (word : Word) (n : ℕ) (group : HandleValue) → Lacks n (reached_by word wanted.Group group) → Lacks n (in_group (bound_by word) (known_group group))
group_unbound buffer_word n group e = e
group_unbound texture_word n group e = e
group_unbound query_word n group e = none_in_group n (known_group group)

group_spared : (word : Word) (n index : ℕ) (group : Option HandleValue) (offsets : List ℕ) → Lacks n (numbers_by (reached_by word) (maybe_wanted wanted.Group group)) → AreSpared word n (bound_group_touches (Some (index, option_map (bound_with offsets) group)))
group_spared word n index None offsets e = tt
group_spared word n index (Some group) offsets e =
    places_spared word n (set_places (Some (bound_with offsets group)))
    (info_unbound word n (known_group group) offsets (group_unbound word n group (lacks_parts n (reached_by word wanted.Group group) [] e).0))

-- inputs

input_spared : (word : Word) (n : ℕ) (buffer : HandleValue) (lo hi : ℕ) → Lacks n (numbers_by (reached_by word) ((buffer, wanted.Buffer) ∷ [])) → Spares word n (Bytes buffer.reference.number lo hi)
input_spared buffer_word n buffer lo hi e = e
input_spared texture_word n buffer lo hi e = refl
input_spared query_word n buffer lo hi e = refl

-- bundles

bundle_lacks : (word : Word) (n : ℕ) (bundle : HandleValue) → Lacks n (reached_by word wanted.Bundle bundle) → Lacks n (in_bundle (numbers_in word) (known_bundle bundle))
bundle_lacks buffer_word n bundle e = e
bundle_lacks texture_word n bundle e = e
bundle_lacks query_word n bundle e = e

touches_spared : (word : Word) (n : ℕ) (touches : List BundleTouch) → Lacks n (flat_map (λ (touch : BundleTouch). numbers_in word touch.cells) touches) → AreSpared word n (map bundle_touch touches)
touches_spared word n [] e = tt
touches_spared word n (touch ∷ touches) e =
    let both = lacks_parts n (numbers_in word touch.cells) (flat_map (λ (touch : BundleTouch). numbers_in word touch.cells) touches) e in
    (both.0, touches_spared word n touches both.1)

within_spared : (word : Word) (n : ℕ) (known : Option BundleInfo) → Lacks n (in_bundle (numbers_in word) known) → AreSpared word n (known_touches known)
within_spared word n None e = tt
within_spared word n (Some bundle) e = touches_spared word n bundle.touches e

executed_spared : (word : Word) (n : ℕ) (bundles : List HandleValue) → Lacks n (numbers_by (reached_by word) (all_wanted wanted.Bundle bundles)) → AreSpared word n (executed_touches bundles)
executed_spared word n [] e = tt
executed_spared word n (bundle ∷ bundles) e =
    let both = lacks_parts n (reached_by word wanted.Bundle bundle) (numbers_by (reached_by word) (all_wanted wanted.Bundle bundles)) e in
    each_append (λ (touch : Touch). Spares word n touch.0) (known_touches (known_bundle bundle)) (executed_touches bundles)
    (within_spared word n (known_bundle bundle) (bundle_lacks word n bundle both.0)) (executed_spared word n bundles both.1)

-- and all commands of a bundle, which has no query set

command_spared : (word : Word) (n : ℕ) (command : Command) → Lacks n (reached_of (reached_by word) command) → AreSpared word n (command_touches None command)
command_spared word n (SetBindGroup index group offsets) e =
    each_append (λ (touch : Touch). Spares word n touch.0) (bound_group_touches (Some (index, option_map (bound_with offsets) group))) [] (group_spared word n index group offsets e) tt
command_spared word n (SetVertexBuffer slot None offset size) e = tt
command_spared word n (SetVertexBuffer slot (Some buffer) offset size) e = (input_spared word n buffer offset (offset + size_or_rest buffer offset size) e, tt)
command_spared word n (SetIndexBuffer buffer format offset size) e = (input_spared word n buffer offset (offset + size_or_rest buffer offset size) e, tt)
command_spared word n (DrawIndirect buffer offset) e = (input_spared word n buffer offset (offset + 16) e, tt)
command_spared word n (DrawIndexedIndirect buffer offset) e = (input_spared word n buffer offset (offset + 20) e, tt)
command_spared word n (ExecuteBundles bundles) e =
    each_append (λ (touch : Touch). Spares word n touch.0) (executed_touches bundles) [] (executed_spared word n bundles e) tt
command_spared word n _ e = tt

abbrev AllLack : Word → ℕ → List Command → Type 0
AllLack word n commands = EachRow (λ (command : Command). Lacks n (reached_of (reached_by word) command)) commands

over_spared : (word : Word) (n : ℕ) (earlier : List Command) → AllLack word n earlier → AreSpared word n (touches_over None [] earlier)
over_spared word n [] each = tt
over_spared word n (command ∷ earlier) each =
    each_append (λ (touch : Touch). Spares word n touch.0) (touches_over None [] earlier) (command_touches None command)
    (over_spared word n earlier each.1) (command_spared word n command each.0)

all_lack : (word : Word) (n : ℕ) (kept : List (On × Command)) → any_named (reached_of (reached_by word)) (λ r. r == n) kept ≡ false → AllLack word n (map (λ (kept : On × Command). kept.1) kept)
all_lack word n [] e = tt
all_lack word n (kept ∷ older) e =
    let rest : any_named (reached_of (reached_by word)) (λ r. r == n) older ≡ false = or_second (list_any (λ r. r == n) (reached_of (reached_by word) kept.1)) (any_named (reached_of (reached_by word)) (λ r. r == n) older) e in
    (or_first (list_any (λ r. r == n) (reached_of (reached_by word) kept.1)) (any_named (reached_of (reached_by word)) (λ r. r == n) older) e, all_lack word n older rest)

bundle_spared : (word : Word) (n : ℕ) (maker : Maker) (targets : Option TargetInfo) (commands : List (On × Command)) → any_named (reached_of (reached_by word)) (λ r. r == n) commands ≡ false
    → Lacks n (in_bundle (numbers_in word) (Some (bundle_of maker targets commands)))
bundle_spared word n maker None commands e = refl
bundle_spared word n maker (Some targets) commands e = by_verdict (is_none (bundle_verdict maker targets (bundled commands)))
  where
    back : any_named (reached_of (reached_by word)) (λ r. r == n) (reverse commands) ≡ false
    back = any_reversed (λ (kept : On × Command). list_any (λ r. r == n) (reached_of (reached_by word) kept.1)) commands ∙ e

    by_verdict : (b : Bool) → Lacks n (flat_map (λ (touch : BundleTouch). numbers_in word touch.cells) (if b then bundle_touches (bundle_set targets (bundled commands)).touches else []))
    by_verdict true = numbers_lack word n (bundle_touches (bundle_set targets (bundled commands)).touches) (known_spared word n (bundle_set targets (bundled commands)).touches (over_spared word n (bundled commands) (all_lack word n (reverse commands) back)))
    by_verdict false = refl

-- What is known to be touched by the bundle that a recording makes is used by the commands.
pub bundle_uses : (word : Word) (n : ℕ) (maker : Maker) (targets : Option TargetInfo) (commands : List (On × Command)) → list_any (λ r. r == n) (in_bundle (numbers_in word) (Some (bundle_of maker targets commands))) ≡ true
    → any_named (reached_of (reached_by word)) (λ r. r == n) commands ≡ true
bundle_uses word n maker targets commands used = by_named (any_named (reached_of (reached_by word)) (λ r. r == n) commands) refl
  where
    by_named : (b : Bool) → any_named (reached_of (reached_by word)) (λ r. r == n) commands ≡ b → b ≡ true
    by_named true e = refl
    by_named false e = absurd (true≢false (sym used ∙ bundle_spared word n maker targets commands e))
