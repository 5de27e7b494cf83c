-- The steps of queue writes and of recorded commands are as the table of uses has them.
use Rattle.std.proofs.Common.{◌≡◌, ℕ, ◌*◌, zero, suc, Bool, true, false, ◌==◌, ◌&&◌, List, [], ◌∷◌, ◌++◌, map, Option, Some, None, is_none, option_to_list, option_map, refl, ap, sym, ◌∙◌, subst, slice_get, reverse, if◌then◌else◌}
use Rattle.std.specs.List.{flat_map}
use Rattle.wg_types.specs.declared.writes.QueueWrite.TheVariants.{Buffer as BufferWrite, Texture as TextureWrite}
use Rattle.wg_trace.specs.declared.steps.StepName.TheVariants as name
use Rattle.wg_types.specs.declared.commands.On.{On}
use Rattle.wg_types.specs.declared.commands.On.TheVariants.{Encoder, Pass}
use Rattle.wg_types.specs.Commands.{Command}
use Rattle.wg_types.specs.declared.commands.CommandOf.TheVariants.{BeginComputePass, BeginRenderPass, CopyBufferToBuffer, CopyBufferToTexture, CopyTextureToBuffer, CopyTextureToTexture, ClearBuffer, ResolveQuerySet, SetBindGroup, Dispatch, DispatchIndirect, SetVertexBuffer, SetIndexBuffer, DrawIndirect, DrawIndexedIndirect, BeginOcclusionQuery, BeginOcclusionQuery, ExecuteBundles}
use Rattle.wg_types.specs.declared.mappings.Mapping.{Mapping}
use Rattle.wg_types.specs.declared.mappings.MapMode.{MapMode}
use Rattle.wg_types.specs.declared.mappings.MapMode.TheVariants.{Read as ReadMode, Write as WriteMode}
use Rattle.wg_types.specs.declared.textures.TextureInfo.{TextureInfo}
use Rattle.wg_types.specs.declared.textures.TextureSpot.{TextureSpot}
use Rattle.wg_types.specs.declared.textures.DataLayout.{DataLayout}
use Rattle.wg_rows.specs.Runs.{Cells}
use Rattle.wg_rows.specs.Uses.{AccessKind, Write}
use Rattle.wg_orders.specs.Steps.{Step, StepPlace}
use Rattle.wg_model.specs.Formats.{texel_to}
use Rattle.wg_model.specs.Subresources.{copied_cells, has_no_texel}
use Rattle.wg_model.specs.TexelCopies.{whole_spot}
use Rattle.wg_model.specs.Commands.{texture_of, query_bytes}
use Rattle.wg_model.specs.Walk.{Kept, PassSoFar, open_pass, is_open, pass_does, does_within, does_at, doings, deeds, verdict}
use Rattle.wg_model.specs.Commands.{size_or_rest}
use Rattle.wg_model.specs.Touches.{Touch, Doing, deed_of, placed, touching, step_of, read_cells, written_cells, bytes_at, target_kind, copied_to, copied_from, layout_bytes, range_touches, buffer_to_buffer_touches, buffer_to_texture_touches, texture_to_buffer_touches, texture_to_texture_touches, unless, encoder_does, resolve_set_touches}
use Rattle.wg_types.specs.declared.groups.GroupLayoutInfo.{GroupLayoutInfo}
use Rattle.wg_types.specs.declared.bindings.BufferBinding.{BufferBinding}
use Rattle.wg_types.specs.declared.bindings.BufferBinding.TheVariants.{Uniform, Storage, ReadOnlyStorage}
use Rattle.wg_types.specs.declared.bindings.StorageAccess.TheVariants.{ReadOnly, WriteOnly, ReadWrite}
use Rattle.wg_types.specs.declared.bindings.BindingKind.{BindingKind}
use Rattle.wg_types.specs.declared.bindings.BindingKind.TheVariants.{Buffer, Sampler, Texture, StorageTexture}
use Rattle.wg_types.specs.declared.commands.BoundGroup.{BoundGroup}
use Rattle.wg_rows.specs.Rows.{EachRow}
use Rattle.wg_orders.specs.Steps.{is_clear_name}
use Rattle.wg_model.specs.Bound.{Place, kind_touch, resource_cells, place_touches, layouts_places, bound_touches}
use Rattle.wg_model.specs.Bound.{set_places}
use Rattle.wg_model.specs.Settings.{Settings, settings, bound_with, layouts_set, indirect_touch}
use Rattle.wg_model.specs.Compute.{compute_does, dispatch_touches}
use Rattle.wg_model.specs.Attachments.{RenderBegin, ColorTarget, DepthTarget, handle_cells, color_cells, attach_kind, attached, attachment_usage, resolve_touches, color_touches, aspect_how, depth_how, cells_aspect, depth_touch, depth_touches, targets_touches}
use Rattle.wg_model.specs.Render.{RenderSet, render_set, touches_over, command_touches, bound_group_touches, render_does, render_does_by}
use Rattle.wg_types.specs.declared.bundles.BundleInfo.{BundleInfo}
use Rattle.wg_types.specs.declared.bundles.BundleTouch.{BundleTouch}
use Rattle.wg_types.specs.declared.bundles.BundleUse.{BundleUse}
use Rattle.wg_types.specs.declared.bundles.BundleUse.TheVariants.{Input, Constant, StorageRead, Storage as StorageUse}
use Rattle.wg_model.specs.Bundles.{known_bundle, bundle_how, bundle_touch, known_touches, executed_touches}
use Rattle.wg_model.specs.Queries.{set_of_pass, query_begun_touches}
use Rattle.wg_types.specs.Handles.{HandleValue}
use Rattle.wg_trace.specs.declared.parts.Aspect.{Aspect}
use Rattle.wg_trace.specs.declared.parts.Aspect.TheVariants as aspect
use Rattle.wg_types.specs.declared.commands.Bracket.{Bracket}
use Rattle.wg_types.specs.declared.commands.Bracket.TheVariants as brackets
use Rattle.wg_types.specs.Commands.{bracket}
use Rattle.wg_types.specs.declared.render.LoadOp.{LoadOp}
use Rattle.wg_types.specs.declared.render.StoreOp.{StoreOp}
use Rattle.wg_rows.specs.Uses.{Usages, kind_writes, only_reads}
use Rattle.wg_model.specs.Recorded.{write_buffer_step, write_texture_step, host_name, host_touches, host_step}
use Rattle.wg_model.specs.StepLaws.{IsOwnStep, WritesAreDeclared, RecordedAreDeclared}
use Rattle.wg_model.proofs.Touching.{IsProper, AreProper, touching_own, read_proper, written_proper, joined_proper}

-- What each step touches is proper.
written_one : (kind : AccessKind) (cells : Cells) → AreProper (written_cells kind cells ∷ [])
written_one kind cells = (λ e. refl, tt)

read_first : (cells : Cells) (touches : List Touch) → AreProper touches → AreProper (read_cells cells ∷ touches)
read_first cells touches proper = (λ e. absurd (cc), proper)

copied_to_proper : (object : ℕ) (info : TextureInfo) (spot : TextureSpot) (size : List ℕ) → AreProper (copied_to object info spot size)
copied_to_proper object info spot size = written_proper (target_kind info spot size) (copied_cells object info spot size)

copied_from_proper : (object : ℕ) (info : TextureInfo) (spot : TextureSpot) (size : List ℕ) → AreProper (copied_from object info spot size)
copied_from_proper object info spot size = read_proper (copied_cells object info spot size)

range_proper : (object offset size : ℕ) → AreProper (range_touches object offset size)
range_proper object offset size = written_one Write (bytes_at object offset size)

buffers_proper : (source source_offset target target_offset size : ℕ) → AreProper (buffer_to_buffer_touches source source_offset target target_offset size)
buffers_proper source source_offset target target_offset size = read_first (bytes_at source source_offset size) (range_touches target target_offset size) (range_proper target target_offset size)

to_texture_proper : (buffer : ℕ) (layout : DataLayout) (texture : ℕ) (info : TextureInfo) (spot : TextureSpot) (size : List ℕ) → AreProper (buffer_to_texture_touches buffer layout texture info spot size)
to_texture_proper buffer layout texture info spot size = read_first (bytes_at buffer layout.offset (layout_bytes layout (texel_to spot.aspect info.format) size)) (copied_to texture info spot size) (copied_to_proper texture info spot size)

to_buffer_proper : (buffer : ℕ) (layout : DataLayout) (texture : ℕ) (info : TextureInfo) (spot : TextureSpot) (size : List ℕ) → AreProper (texture_to_buffer_touches buffer layout texture info spot size)
to_buffer_proper buffer layout texture info spot size = (λ e. refl, copied_from_proper texture info spot size)

textures_proper : (source : ℕ) (from_info : TextureInfo) (from : TextureSpot) (target : ℕ) (to_info : TextureInfo) (to : TextureSpot) (size : List ℕ) → AreProper (texture_to_texture_touches source from_info from target to_info to size)
textures_proper source from_info from target to_info to size = joined_proper (copied_from source from_info from size) (copied_to target to_info to size) (copied_from_proper source from_info from size) (copied_to_proper target to_info to size)

resolved_proper : (queries first count buffer offset : ℕ) → AreProper (resolve_set_touches queries first count buffer offset)
resolved_proper queries first count buffer offset = (λ e. absurd (cc), range_proper buffer offset (query_bytes * count))

pub write_own : (place : StepPlace) (object offset size : ℕ) → IsOwnStep (write_buffer_step place object offset size)
write_own place object offset size = touching_own place name.WriteBuffer (range_touches object offset size) refl (range_proper object offset size)

write_texture_own : (place : StepPlace) (object : ℕ) (info : TextureInfo) (spot : TextureSpot) (size : List ℕ) → IsOwnStep (write_texture_step place object info spot size)
write_texture_own place object info spot size = touching_own place name.WriteTexture (copied_to object info spot size) refl (copied_to_proper object info spot size)

-- A step that may be left out.
by_size : (b : Bool) (step s : Step) → IsOwnStep step → (if b then None else Some step) ≡ Some s → IsOwnStep s
by_size true step s own e = absurd (cc)
by_size false step s own e = subst (λ (x : Step). IsOwnStep x) (cc) own

pub writes_are_declared : WritesAreDeclared
writes_are_declared place (BufferWrite buffer offset size) s e = by_size (size == 0) (write_buffer_step place buffer.number offset size) s (write_own place buffer.number offset size) e
writes_are_declared place (TextureWrite texture info spot layout size) s e = by_size (has_no_texel size) (write_texture_step place texture.number info spot size) s (write_texture_own place texture.number info spot size) e

host_proper : (buffer lo hi : ℕ) (mode : MapMode) → AreProper (host_touches buffer (record { mode = mode; lo = lo; hi = hi }))
host_proper buffer lo hi ReadMode = (λ e. absurd (cc), tt)
host_proper buffer lo hi WriteMode = (λ e. refl, tt)

host_own_name : (mode : MapMode) (place : StepPlace) (touches : List Touch) → AreProper touches → IsOwnStep (touching place (host_name mode) touches)
host_own_name ReadMode place touches proper = touching_own place name.HostRead touches refl proper
host_own_name WriteMode place touches proper = touching_own place name.HostWrite touches refl proper

pub host_is_declared : (place : StepPlace) (buffer : ℕ) (m : Mapping) (s : Step) → host_step place buffer m ≡ Some s → IsOwnStep s
host_is_declared place buffer m s e = by_size (m.lo == m.hi) (touching place (host_name m.mode) (host_touches buffer m)) s (host_own_name m.mode place (host_touches buffer m) (host_proper buffer m.lo m.hi m.mode)) e

-- A step of a list of one step is that step.
pub no_step : (s : Step) (k : ℕ) → ◌≡◌ {A = Option Step} (slice_get [] k) (Some s) → ⊥
no_step s k e = cc

pub only_step : (only s : Step) (k : ℕ) → slice_get (only ∷ []) k ≡ Some s → only ≡ s
only_step only s zero e = cc
only_step only s (suc k) e = absurd (cc)

-- What is done is no clear, and touches cells properly.
abbrev pub IsOwn : Doing → Type 0
IsOwn doing = (is_clear_name doing.0 ≡ false) × AreProper doing.1

abbrev pub AreOwn : List Doing → Type 0
AreOwn doings = EachRow IsOwn doings

unless_own : (b : Bool) (doing : Doing) → IsOwn doing → AreOwn (option_to_list (unless b doing))
unless_own true doing own = tt
unless_own false doing own = (own, tt)

encoder_own : (command : Command) → AreOwn (option_to_list (encoder_does command))
unfolding encoder_does
encoder_own (CopyBufferToBuffer source source_offset target target_offset size) = unless_own (size == 0) _ (refl, buffers_proper source.reference.number source_offset target.reference.number target_offset size)
encoder_own (CopyBufferToTexture buffer layout texture spot size) = unless_own (has_no_texel size) _ (refl, to_texture_proper buffer.reference.number layout texture.reference.number (texture_of texture) spot size)
encoder_own (CopyTextureToBuffer buffer layout texture spot size) = unless_own (has_no_texel size) _ (refl, to_buffer_proper buffer.reference.number layout texture.reference.number (texture_of texture) spot size)
encoder_own (CopyTextureToTexture source source_mip source_origin target target_mip target_origin size) = unless_own (has_no_texel size) _ (refl, textures_proper source.reference.number (texture_of source) (whole_spot source_mip source_origin) target.reference.number (texture_of target) (whole_spot target_mip target_origin) size)
encoder_own (ClearBuffer buffer offset size) = unless_own (size_or_rest buffer offset size == 0) _ (refl, range_proper buffer.reference.number offset (size_or_rest buffer offset size))
encoder_own (ResolveQuerySet queries first count buffer offset) = unless_own (count == 0) _ (refl, resolved_proper queries.reference.number first count buffer.reference.number offset)
encoder_own _ = tt

-- What groups touch.
buffer_one : (binding : BufferBinding) (dynamic : Bool) (min_size : ℕ) (cells : Cells) → IsProper (cells, kind_touch (Buffer binding dynamic min_size))
buffer_one Uniform dynamic min_size cells e = absurd (cc)
buffer_one Storage dynamic min_size cells e = refl
buffer_one ReadOnlyStorage dynamic min_size cells e = absurd (cc)

kind_one : (kind : BindingKind) (cells : Cells) → IsProper (cells, kind_touch kind)
kind_one (Buffer binding dynamic min_size) cells e = buffer_one binding dynamic min_size cells e
kind_one (Sampler sampler_type) cells e = absurd (cc)
kind_one (Texture sample dim multi) cells e = absurd (cc)
kind_one (StorageTexture ReadOnly format dim) cells e = absurd (cc)
kind_one (StorageTexture WriteOnly format dim) cells e = refl
kind_one (StorageTexture ReadWrite format dim) cells e = refl

cells_own : (kind : BindingKind) (cells : List Cells) → AreProper (map (λ (run : Cells). (run, kind_touch kind)) cells)
cells_own kind [] = tt
cells_own kind (run ∷ cells) = (kind_one kind run, cells_own kind cells)

places_own : (places : List Place) → AreProper (flat_map place_touches places)
places_own [] = tt
places_own (place ∷ places) = joined_proper (place_touches place) (flat_map place_touches places) (cells_own place.asked.kind (resource_cells place.moved place.resource)) (places_own places)

bound_own : (layouts : List GroupLayoutInfo) (groups : List (Option BoundGroup)) → AreProper (bound_touches layouts groups)
unfolding bound_touches
bound_own layouts groups = places_own (layouts_places layouts groups 0)

compute_own : (set : Settings) (command : Command) → AreOwn (option_to_list (compute_does set command))
unfolding compute_does
compute_own set (Dispatch x y z) = ((refl, bound_own (layouts_set set) set.groups), tt)
compute_own set (DispatchIndirect buffer offset) = ((refl, joined_proper (dispatch_touches set) (indirect_touch buffer offset 12 ∷ []) (bound_own (layouts_set set) set.groups) (λ e. absurd (cc), tt)), tt)
compute_own set _ = tt

-- What attachments touch.
abbrev IsFair : Usages × AccessKind → Type 0
IsFair how = kind_writes how.1 ≡ true → only_reads how.0 ≡ false

attached_own : (how : Usages × AccessKind) → IsFair how → (cells : List Cells) → AreProper (map (attached how) cells)
attached_own how fair [] = tt
attached_own how fair (run ∷ cells) = (fair, attached_own how fair cells)

resolve_own : (resolve : Option HandleValue) → AreProper (resolve_touches resolve)
resolve_own None = tt
resolve_own (Some view) = attached_own (attachment_usage, Write) (λ e. refl) (handle_cells view)

color_own : (color : Option ColorTarget) → AreProper (color_touches color)
color_own None = tt
color_own (Some target) = joined_proper (map (attached (attachment_usage, attach_kind target.load target.store)) (color_cells target)) (resolve_touches target.resolve) (attached_own (attachment_usage, attach_kind target.load target.store) (λ e. refl) (color_cells target)) (resolve_own target.resolve)

colors_own : (colors : List (Option ColorTarget)) → AreProper (flat_map color_touches colors)
colors_own [] = tt
colors_own (color ∷ colors) = joined_proper (color_touches color) (flat_map color_touches colors) (color_own color) (colors_own colors)

aspect_fair : (read_only : Bool) (load : Option LoadOp) (store : Option StoreOp) → IsFair (aspect_how read_only load store)
aspect_fair true load store e = absurd (cc)
aspect_fair false load store e = refl

depth_fair : (target : DepthTarget) (of : Aspect) → IsFair (depth_how target of)
depth_fair target aspect.Color = aspect_fair target.depth_read_only target.depth_load target.depth_store
depth_fair target aspect.Depth = aspect_fair target.depth_read_only target.depth_load target.depth_store
depth_fair target aspect.Stencil = aspect_fair target.stencil_read_only target.stencil_load target.stencil_store

aspects_own : (target : DepthTarget) (cells : List Cells) → AreProper (map (depth_touch target) cells)
aspects_own target [] = tt
aspects_own target (run ∷ cells) = (depth_fair target (cells_aspect run), aspects_own target cells)

depth_own : (depth : Option DepthTarget) → AreProper (depth_touches depth)
depth_own None = tt
depth_own (Some target) = aspects_own target (handle_cells target.view)

targets_own : (begin : RenderBegin) → AreProper (targets_touches begin)
unfolding targets_touches
targets_own begin = joined_proper (flat_map color_touches begin.colors) (depth_touches begin.depth) (colors_own begin.colors) (depth_own begin.depth)

-- What render passes touch.
-- What bundles touch that are executed.
bundle_fair : (used : BundleUse) → IsFair (bundle_how used)
bundle_fair Input e = absurd (cc)
bundle_fair Constant e = absurd (cc)
bundle_fair StorageRead e = absurd (cc)
bundle_fair StorageUse e = refl

bundle_own : (touches : List BundleTouch) → AreProper (map bundle_touch touches)
bundle_own [] = tt
bundle_own (touch ∷ touches) = (bundle_fair touch.used, bundle_own touches)

within_bundle_own : (known : Option BundleInfo) → AreProper (known_touches known)
within_bundle_own None = tt
within_bundle_own (Some bundle) = bundle_own bundle.touches

executed_own : (bundles : List HandleValue) → AreProper (executed_touches bundles)
executed_own [] = tt
executed_own (bundle ∷ bundles) = joined_proper (known_touches (known_bundle bundle)) (executed_touches bundles) (within_bundle_own (known_bundle bundle)) (executed_own bundles)

query_own : (queries : Option (ℕ × ℕ)) (index : ℕ) → AreProper (query_begun_touches queries index)
query_own None index = tt
query_own (Some set) index = (λ e. refl, tt)

command_own : (queries : Option (ℕ × ℕ)) (command : Command) → AreProper (command_touches queries command)
command_own queries (SetBindGroup index group offsets) = joined_proper (bound_group_touches (Some (index, option_map (bound_with offsets) group))) [] (places_own (set_places (option_map (bound_with offsets) group))) tt
command_own queries (SetVertexBuffer slot None offset size) = tt
command_own queries (SetVertexBuffer slot (Some buffer) offset size) = (λ e. absurd (cc), tt)
command_own queries (SetIndexBuffer buffer format offset size) = (λ e. absurd (cc), tt)
command_own queries (DrawIndirect buffer offset) = (λ e. absurd (cc), tt)
command_own queries (DrawIndexedIndirect buffer offset) = (λ e. absurd (cc), tt)
command_own queries (BeginOcclusionQuery index) = query_own queries index
command_own queries (ExecuteBundles bundles) = joined_proper (executed_touches bundles) [] (executed_own bundles) tt
command_own queries _ = tt

over_own : (queries : Option (ℕ × ℕ)) (first : List Touch) (earlier : List Command) → AreProper first → AreProper (touches_over queries first earlier)
over_own queries first [] proper = proper
over_own queries first (command ∷ earlier) proper = joined_proper (touches_over queries first earlier) (command_touches queries command) (over_own queries first earlier proper) (command_own queries command)

touches_own : (begin : RenderBegin) (earlier : List Command) → AreProper (render_set begin earlier).touches
touches_own begin earlier = over_own (set_of_pass begin.queries) (targets_touches begin) earlier (targets_own begin)

render_own : (render : RenderSet) (b : Bracket) → AreProper render.touches → AreOwn (option_to_list (render_does_by render b))
render_own render brackets.EndPass proper = ((refl, proper), tt)
render_own render _ proper = tt

render_does_own : (begin : RenderBegin) (earlier : List Command) (command : Command) → AreOwn (option_to_list (render_does (render_set begin earlier) command))
unfolding render_does
render_does_own begin earlier command = render_own (render_set begin earlier) (bracket command) (touches_own begin earlier)

pass_own : (begin : Command) (earlier : List Command) (command : Command) → AreOwn (option_to_list (pass_does begin earlier command))
pass_own BeginComputePass earlier command = compute_own (settings earlier) command
pass_own (BeginRenderPass begin) earlier command = render_does_own begin earlier command
pass_own _ earlier command = tt

within_own : (opened : Option PassSoFar) (command : Command) → AreOwn (option_to_list (does_within opened command))
within_own None command = tt
within_own (Some pass) command = pass_own pass.begin pass.earlier command

at_own : (opened : Option PassSoFar) (on : On) (command : Command) → AreOwn (option_to_list (does_at opened on command))
at_own opened Encoder command = encoder_own command
at_own opened (Pass pass) command = by_open (is_open opened pass)
  where
    by_open : (b : Bool) → AreOwn (option_to_list (if b then does_within opened command else None))
    by_open true = within_own opened command
    by_open false = tt

-- What holds of each of two lists holds of each of both.
pub each_joined : {A : Type 0} (P : A → Type 0) (xs ys : List A) → EachRow P xs → EachRow P ys → EachRow P (xs ++ ys)
each_joined P [] ys a b = b
each_joined P (x ∷ xs) ys a b = (a.0, each_joined P xs ys a.1 b)

doings_own : (kept : Kept) → AreOwn (doings kept)
doings_own [] = tt
doings_own (kept ∷ older) = each_joined IsOwn (doings older) (option_to_list (does_at (open_pass older) kept.0 kept.1)) (doings_own older) (at_own (open_pass older) kept.0 kept.1)

steps_own : (place : StepPlace) (done : List Doing) → AreOwn done → (k : ℕ) (s : Step) → slice_get (map (step_of place) done) k ≡ Some s → IsOwnStep s
steps_own place [] own k s e = absurd (cc)
steps_own place (doing ∷ done) own zero s e = subst (λ (x : Step). IsOwnStep x) (cc) (touching_own place doing.0 doing.1 own.0.0 own.0.1)
steps_own place (doing ∷ done) own (suc k) s e = steps_own place done own.1 k s e

-- A step of two lists is of one of them.
pub data Stands (xs ys : List Step) (s : Step) : Type 0 where
  Left : (k : ℕ) → slice_get xs k ≡ Some s → Stands xs ys s
  Right : (k : ℕ) → slice_get ys k ≡ Some s → Stands xs ys s

pub stands_in : (xs ys : List Step) (k : ℕ) (s : Step) → slice_get (xs ++ ys) k ≡ Some s → Stands xs ys s
stands_in [] ys k s e = Right k e
stands_in (x ∷ xs) ys zero s e = Left 0 e
stands_in (x ∷ xs) ys (suc k) s e = by_cases (stands_in xs ys k s e)
  where
    by_cases : Stands xs ys s → Stands (x ∷ xs) ys s
    by_cases (Left i h) = Left (suc i) h
    by_cases (Right i h) = Right i h

-- The steps of a recording are those that its commands complete, or none.
pub placed_deeds : (place : StepPlace) (done : List Doing) → map (placed place) (map deed_of done) ≡ map (step_of place) done
placed_deeds place [] = refl
placed_deeds place (doing ∷ done) = ap (λ steps. step_of place doing ∷ steps) (placed_deeds place done)

pub recorded_are_declared : RecordedAreDeclared
recorded_are_declared place maker (Some targets) commands k s e = absurd (no_step s k e)
recorded_are_declared place maker None commands k s e = by_rules (is_none (verdict maker (reverse commands)) && is_none (open_pass (reverse commands))) e
  where
    by_rules : (b : Bool) → slice_get (map (placed place) (if b then deeds (reverse commands) else [])) k ≡ Some s → IsOwnStep s
    by_rules true h = steps_own place (doings (reverse commands)) (doings_own (reverse commands)) k s (ap (λ steps. slice_get steps k) (sym (placed_deeds place (doings (reverse commands)))) ∙ h)
    by_rules false h = absurd (no_step s k h)
