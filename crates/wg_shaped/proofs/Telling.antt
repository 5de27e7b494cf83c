-- All that passes touch is told by how it is used.
use Rattle.std.proofs.Common.{◌≡◌, ℕ, Bool, true, false, List, [], ◌∷◌, ◌++◌, map, Option, Some, None, option_map, refl, if◌then◌else◌}
use Rattle.std.specs.List.{flat_map}
use Rattle.wg_types.specs.Commands.{Command}
use Rattle.wg_types.specs.declared.commands.CommandOf.TheVariants.{SetBindGroup, SetVertexBuffer, SetIndexBuffer, DrawIndirect, DrawIndexedIndirect, BeginOcclusionQuery, BeginOcclusionQuery, ExecuteBundles}
use Rattle.wg_types.specs.declared.textures.TextureInfo.{TextureInfo}
use Rattle.wg_rows.specs.Runs.{Cells}
use Rattle.wg_rows.specs.Uses.{AccessKind, Write}
use Rattle.wg_model.specs.Commands.{size_or_rest}
use Rattle.wg_model.specs.Touches.{Touch}
use Rattle.wg_types.specs.declared.groups.GroupLayoutInfo.{GroupLayoutInfo}
use Rattle.wg_types.specs.declared.bindings.BufferBinding.TheVariants.{Uniform, Storage, ReadOnlyStorage}
use Rattle.wg_types.specs.declared.bindings.StorageAccess.TheVariants.{ReadOnly, WriteOnly, ReadWrite}
use Rattle.wg_types.specs.declared.bindings.BindingKind.{BindingKind}
use Rattle.wg_types.specs.declared.bindings.BindingKind.TheVariants.{Buffer, Sampler, Texture, StorageTexture}
use Rattle.wg_types.specs.declared.commands.BoundGroup.{BoundGroup}
use Rattle.wg_rows.specs.Rows.{EachRow}
use Rattle.wg_model.specs.Bound.{Place, kind_touch, resource_cells, place_touches, layouts_places, bound_touches}
use Rattle.wg_model.specs.Bound.{set_places}
use Rattle.wg_model.specs.Settings.{Settings, bound_with, layouts_set, indirect_touch}
use Rattle.wg_model.specs.Compute.{dispatch_touches}
use Rattle.wg_model.specs.Attachments.{RenderBegin, ColorTarget, DepthTarget, handle_cells, color_cells, attach_kind, attached, attachment_usage, resolve_touches, color_touches, aspect_how, depth_how, cells_aspect, depth_touch, depth_touches, targets_touches}
use Rattle.wg_model.specs.Render.{command_touches, bound_group_touches}
use Rattle.wg_types.specs.declared.bundles.BundleInfo.{BundleInfo}
use Rattle.wg_types.specs.declared.bundles.BundleTouch.{BundleTouch}
use Rattle.wg_types.specs.declared.bundles.BundleUse.{BundleUse}
use Rattle.wg_types.specs.declared.bundles.BundleUse.TheVariants.{Input, Constant, StorageRead, Storage as StorageUse}
use Rattle.wg_model.specs.Bundles.{known_bundle, bundle_how, bundle_touch, known_touches, executed_touches}
use Rattle.wg_model.specs.Queries.{query_begun_touches}
use Rattle.wg_types.specs.Handles.{HandleValue}
use Rattle.wg_trace.specs.declared.parts.Aspect.{Aspect}
use Rattle.wg_trace.specs.declared.parts.Aspect.TheVariants as aspect
use Rattle.wg_types.specs.declared.render.LoadOp.{LoadOp}
use Rattle.wg_types.specs.declared.render.StoreOp.{StoreOp}
use Rattle.wg_rows.specs.Uses.{Usages}
use Rattle.std.specs.Prelude.{nat_lt, min, ◌+◌}
use Rattle.std.specs.Option.{option_map_or}
use Rattle.wg_types.specs.declared.bindings.BoundResource.{BoundResource}
use Rattle.wg_types.specs.declared.bindings.BoundResource.TheVariants.{Buffer as BoundBuffer, View as BoundView, Sampler as BoundSampler}
use Rattle.wg_types.specs.declared.textures.TextureDim.{TextureDim}
use Rattle.wg_types.specs.declared.textures.TextureDim.TheVariants as texture_dim
use Rattle.wg_types.specs.declared.textures.ViewInfo.{ViewInfo}
use Rattle.wg_types.specs.Formats.{row}
use Rattle.wg_types.specs.Textures.{depth}
use Rattle.wg_rows.specs.Rows.{numbers}
use Rattle.wg_rows.specs.Runs.{PartRun, Bytes, Layers, Slices, Queries}
use Rattle.wg_rows.specs.Uses.{Read}
use Rattle.wg_model.specs.Formats.{named_aspects}
use Rattle.wg_model.specs.Textures.{layer_count, extent}
use Rattle.wg_model.specs.Subresources.{texture_cells, level_runs, aspect_runs, view_runs, run_cells, view_cells}
use Rattle.wg_model.specs.Attachments.{attached_view, sliced}
use Rattle.wg_model.specs.Scopes.{is_within}
use Rattle.wg_model.specs.Touches.{is_scoped, input_usage}
use Rattle.wg_model.proofs.StepLaws.{each_joined}
use Rattle.wg_shaped.specs.Once.{IsFairInfo, IsFairBundle, IsFair}
use Rattle.wg_shaped.proofs.Scoping.{Told, Reads, Stores, Attaches, WritesQueries, AreTold}

-- cells of usage scopes
abbrev pub IsScoped : Cells → Type 0
IsScoped run = is_scoped run ≡ true

texture_scoped : (dim : TextureDim) (object : ℕ) (aspect : Aspect) (mip lo hi from to : ℕ) → IsScoped (texture_cells dim object aspect mip lo hi from to)
texture_scoped texture_dim.Three object aspect.Color mip lo hi from to = refl
texture_scoped texture_dim.Three object aspect.Depth mip lo hi from to = refl
texture_scoped texture_dim.Three object aspect.Stencil mip lo hi from to = refl
texture_scoped texture_dim.One object aspect mip lo hi from to = refl
texture_scoped texture_dim.Two object aspect mip lo hi from to = refl

abbrev AreLayers : List PartRun → Type 0
AreLayers runs = EachRow (λ (run : PartRun). (info : TextureInfo) → IsScoped (run_cells info run)) runs

level_layers : (object lo hi : ℕ) (mips : List ℕ) (of : Aspect) → AreLayers (level_runs object lo hi mips of)
level_layers object lo hi [] of = tt
level_layers object lo hi (mip ∷ mips) of = ((λ info. texture_scoped info.dim object of mip lo hi 0 (depth (extent info mip))), level_layers object lo hi mips of)

aspect_layers : (object lo hi : ℕ) (mips : List ℕ) (aspects : List Aspect) → AreLayers (aspect_runs object lo hi mips aspects)
aspect_layers object lo hi mips [] = tt
aspect_layers object lo hi mips (of ∷ aspects) = each_joined (λ (run : PartRun). (info : TextureInfo) → IsScoped (run_cells info run)) (level_runs object lo hi mips of) (aspect_runs object lo hi mips aspects) (level_layers object lo hi mips of) (aspect_layers object lo hi mips aspects)

view_layers : (view : ViewInfo) → AreLayers (view_runs view)
unfolding view_runs
view_layers view = by_layers (nat_lt view.base_layer (min (view.base_layer + view.layers) (layer_count view.texture_info)))
  where
    by_layers : (b : Bool) → AreLayers (if b then aspect_runs view.texture.number view.base_layer (min (view.base_layer + view.layers) (layer_count view.texture_info)) (numbers view.base_mip (min (view.base_mip + view.mips) view.texture_info.mips)) (named_aspects view.aspect (row view.texture_info.format).aspects) else [])
    by_layers true = aspect_layers view.texture.number view.base_layer (min (view.base_layer + view.layers) (layer_count view.texture_info)) (numbers view.base_mip (min (view.base_mip + view.mips) view.texture_info.mips)) (named_aspects view.aspect (row view.texture_info.format).aspects)
    by_layers false = tt

runs_scoped : (info : TextureInfo) (runs : List PartRun) → AreLayers runs → EachRow IsScoped (map (run_cells info) runs)
runs_scoped info [] h = tt
runs_scoped info (run ∷ runs) h = (h.0 info, runs_scoped info runs h.1)

pub view_scoped : (view : ViewInfo) → EachRow IsScoped (view_cells view)
view_scoped view = runs_scoped view.texture_info (view_runs view) (view_layers view)

handle_scoped : (handle : HandleValue) → EachRow IsScoped (handle_cells handle)
handle_scoped handle = by_view (attached_view handle)
  where
    by_view : (o : Option ViewInfo) → EachRow IsScoped (option_map_or view_cells o [])
    by_view None = tt
    by_view (Some view) = view_scoped view

one_sliced : (slice : Option ℕ) (run : Cells) → IsScoped run → IsScoped (sliced slice run)
one_sliced None run h = h
one_sliced (Some slice) (Slices object mip lo hi) h = refl
one_sliced (Some slice) (Bytes object lo hi) h = h
one_sliced (Some slice) (Layers object of mip lo hi) h = h
one_sliced (Some slice) (Queries object lo hi) h = h

all_sliced : (slice : Option ℕ) (cells : List Cells) → EachRow IsScoped cells → EachRow IsScoped (map (sliced slice) cells)
all_sliced slice [] h = tt
all_sliced slice (run ∷ cells) h = (one_sliced slice run h.0, all_sliced slice cells h.1)

-- touches that are told and are of no attachment that is drawn to
abbrev pub IsPlain : Touch → Type 0
IsPlain t = Told t × (is_within 16 t.1.0 ≡ false)

abbrev pub ArePlain : List Touch → Type 0
ArePlain touches = EachRow IsPlain touches

map_plain : (how : Usages × AccessKind) → ((run : Cells) → IsScoped run → IsPlain (run, how)) → (cells : List Cells) → EachRow IsScoped cells → ArePlain (map (λ (run : Cells). (run, how)) cells)
map_plain how f [] h = tt
map_plain how f (run ∷ cells) h = (f run h.0, map_plain how f cells h.1)

pub plain_joined : (xs ys : List Touch) → ArePlain xs → ArePlain ys → ArePlain (xs ++ ys)
plain_joined xs ys a b = each_joined IsPlain xs ys a b

pub plain_told : (touches : List Touch) → ArePlain touches → AreTold touches
plain_told [] h = tt
plain_told (t ∷ touches) h = (h.0.0, plain_told touches h.1)

-- what groups touch
binding_plain : (kind : BindingKind) (run : Cells) → IsScoped run → IsPlain (run, kind_touch kind)
binding_plain (Buffer Uniform dynamic min_size) run h = (Reads h refl refl refl refl, refl)
binding_plain (Buffer Storage dynamic min_size) run h = (Stores h refl refl refl refl, refl)
binding_plain (Buffer ReadOnlyStorage dynamic min_size) run h = (Reads h refl refl refl refl, refl)
binding_plain (Sampler sampler_type) run h = (Reads h refl refl refl refl, refl)
binding_plain (Texture sample dim multi) run h = (Reads h refl refl refl refl, refl)
binding_plain (StorageTexture ReadOnly format dim) run h = (Reads h refl refl refl refl, refl)
binding_plain (StorageTexture WriteOnly format dim) run h = (Stores h refl refl refl refl, refl)
binding_plain (StorageTexture ReadWrite format dim) run h = (Stores h refl refl refl refl, refl)

resource_scoped : (moved : ℕ) (resource : BoundResource) → EachRow IsScoped (resource_cells moved resource)
resource_scoped moved (BoundBuffer buffer known offset size) = (refl, tt)
resource_scoped moved (BoundView view known) = view_scoped known
resource_scoped moved (BoundSampler sampler known) = tt

pub places_plain : (places : List Place) → ArePlain (flat_map place_touches places)
places_plain [] = tt
places_plain (place ∷ places) =
    plain_joined (place_touches place) (flat_map place_touches places)
    (map_plain (kind_touch place.asked.kind) (λ run h. binding_plain place.asked.kind run h) (resource_cells place.moved place.resource) (resource_scoped place.moved place.resource)) (places_plain places)

bound_plain : (layouts : List GroupLayoutInfo) (groups : List (Option BoundGroup)) → ArePlain (bound_touches layouts groups)
unfolding bound_touches
bound_plain layouts groups = places_plain (layouts_places layouts groups 0)

-- bytes that are read as input
input_plain : (object lo hi : ℕ) → IsPlain (Bytes object lo hi, (input_usage, Read))
input_plain object lo hi = (Reads refl refl refl refl refl, refl)

pub dispatched_plain : (set : Settings) → ArePlain (dispatch_touches set)
dispatched_plain set = bound_plain (layouts_set set) set.groups

pub indirect_plain : (set : Settings) (buffer : HandleValue) (offset : ℕ) → ArePlain (dispatch_touches set ++ indirect_touch buffer offset 12 ∷ [])
indirect_plain set buffer offset = plain_joined (dispatch_touches set) (indirect_touch buffer offset 12 ∷ []) (dispatched_plain set) (input_plain buffer.reference.number offset (offset + 12), tt)

-- what bundles touch
bundle_plain : (used : BundleUse) (run : Cells) → IsScoped run → IsPlain (run, bundle_how used)
bundle_plain Input run h = (Reads h refl refl refl refl, refl)
bundle_plain Constant run h = (Reads h refl refl refl refl, refl)
bundle_plain StorageRead run h = (Reads h refl refl refl refl, refl)
bundle_plain StorageUse run h = (Stores h refl refl refl refl, refl)

touched_plain : (touches : List BundleTouch) → EachRow (λ (touch : BundleTouch). is_scoped touch.cells ≡ true) touches → ArePlain (map bundle_touch touches)
touched_plain [] h = tt
touched_plain (touch ∷ touches) h = (bundle_plain touch.used touch.cells h.0, touched_plain touches h.1)

within_plain : (known : Option BundleInfo) → IsFairInfo known → ArePlain (known_touches known)
within_plain None h = tt
within_plain (Some bundle) h = touched_plain bundle.touches h

executed_plain : (bundles : List HandleValue) → EachRow IsFairBundle bundles → ArePlain (executed_touches bundles)
executed_plain [] h = tt
executed_plain (bundle ∷ bundles) h = plain_joined (known_touches (known_bundle bundle)) (executed_touches bundles) (within_plain (known_bundle bundle) h.0) (executed_plain bundles h.1)

-- what commands of render passes touch
query_plain : (queries : Option (ℕ × ℕ)) (index : ℕ) → ArePlain (query_begun_touches queries index)
query_plain None index = tt
query_plain (Some set) index = ((WritesQueries refl refl refl, refl), tt)

pub command_plain : (queries : Option (ℕ × ℕ)) (command : Command) → IsFair command → ArePlain (command_touches queries command)
command_plain queries (SetBindGroup index group offsets) h = plain_joined (bound_group_touches (Some (index, option_map (bound_with offsets) group))) [] (places_plain (set_places (option_map (bound_with offsets) group))) tt
command_plain queries (SetVertexBuffer slot None offset size) h = tt
command_plain queries (SetVertexBuffer slot (Some buffer) offset size) h = (input_plain buffer.reference.number offset (offset + size_or_rest buffer offset size), tt)
command_plain queries (SetIndexBuffer buffer format offset size) h = (input_plain buffer.reference.number offset (offset + size_or_rest buffer offset size), tt)
command_plain queries (DrawIndirect buffer offset) h = (input_plain buffer.reference.number offset (offset + 16), tt)
command_plain queries (DrawIndexedIndirect buffer offset) h = (input_plain buffer.reference.number offset (offset + 20), tt)
command_plain queries (BeginOcclusionQuery index) h = query_plain queries index
command_plain queries (ExecuteBundles bundles) h = plain_joined (executed_touches bundles) [] (executed_plain bundles h) tt
command_plain queries _ h = tt

-- what attachments touch
drawn_told : (kind : AccessKind) (cells : List Cells) → EachRow IsScoped cells → AreTold (map (attached (attachment_usage, kind)) cells)
drawn_told kind [] h = tt
drawn_told kind (run ∷ cells) h = (Attaches h.0 refl refl refl, drawn_told kind cells h.1)

told_joined : (xs ys : List Touch) → AreTold xs → AreTold ys → AreTold (xs ++ ys)
told_joined xs ys a b = each_joined Told xs ys a b

resolve_told : (resolve : Option HandleValue) → AreTold (resolve_touches resolve)
resolve_told None = tt
resolve_told (Some view) = drawn_told Write (handle_cells view) (handle_scoped view)

color_told : (color : Option ColorTarget) → AreTold (color_touches color)
color_told None = tt
color_told (Some target) =
    told_joined (map (attached (attachment_usage, attach_kind target.load target.store)) (color_cells target)) (resolve_touches target.resolve)
    (drawn_told (attach_kind target.load target.store) (color_cells target) (all_sliced target.depth_slice (handle_cells target.view) (handle_scoped target.view))) (resolve_told target.resolve)

colors_told : (colors : List (Option ColorTarget)) → AreTold (flat_map color_touches colors)
colors_told [] = tt
colors_told (color ∷ colors) = told_joined (color_touches color) (flat_map color_touches colors) (color_told color) (colors_told colors)

aspect_told : (read_only : Bool) (load : Option LoadOp) (store : Option StoreOp) (run : Cells) → IsScoped run → Told (run, aspect_how read_only load store)
aspect_told true load store run h = Reads h refl refl refl refl
aspect_told false load store run h = Attaches h refl refl refl

depth_one : (target : DepthTarget) (of : Aspect) (run : Cells) → IsScoped run → Told (run, depth_how target of)
depth_one target aspect.Color run h = aspect_told target.depth_read_only target.depth_load target.depth_store run h
depth_one target aspect.Depth run h = aspect_told target.depth_read_only target.depth_load target.depth_store run h
depth_one target aspect.Stencil run h = aspect_told target.stencil_read_only target.stencil_load target.stencil_store run h

aspects_told : (target : DepthTarget) (cells : List Cells) → EachRow IsScoped cells → AreTold (map (depth_touch target) cells)
aspects_told target [] h = tt
aspects_told target (run ∷ cells) h = (depth_one target (cells_aspect run) run h.0, aspects_told target cells h.1)

depth_told : (depth : Option DepthTarget) → AreTold (depth_touches depth)
depth_told None = tt
depth_told (Some target) = aspects_told target (handle_cells target.view) (handle_scoped target.view)

pub targets_told : (begin : RenderBegin) → AreTold (targets_touches begin)
unfolding targets_touches
targets_told begin = told_joined (flat_map color_touches begin.colors) (depth_touches begin.depth) (colors_told begin.colors) (depth_told begin.depth)
