-- No step of a queue write, of a host access or of recorded commands has an empty row or an empty set.
use Rattle.std.proofs.Common.{ℕ, ◌*◌, Bool, true, false, ◌==◌, ◌&&◌, List, [], ◌∷◌, ◌++◌, map, Option, Some, None, is_none, option_to_list, option_map, lit<, reverse, if◌then◌else◌}
use Rattle.std.specs.List.{flat_map}
use Rattle.wg_types.specs.declared.limits.Maker.{Maker}
use Rattle.wg_types.specs.declared.writes.QueueWrite.TheVariants.{Buffer as BufferWrite, Texture as TextureWrite}
use Rattle.wg_trace.specs.declared.steps.StepName.TheVariants as name
use Rattle.wg_types.specs.declared.commands.On.{On}
use Rattle.wg_types.specs.declared.commands.On.TheVariants.{Encoder, Pass}
use Rattle.wg_types.specs.Commands.{Command}
use Rattle.wg_types.specs.declared.commands.CommandOf.TheVariants.{BeginComputePass, BeginRenderPass, CopyBufferToBuffer, CopyBufferToTexture, CopyTextureToBuffer, CopyTextureToTexture, ClearBuffer, ResolveQuerySet, SetBindGroup, Dispatch, DispatchIndirect, SetVertexBuffer, SetIndexBuffer, DrawIndirect, DrawIndexedIndirect, BeginOcclusionQuery, BeginOcclusionQuery, ExecuteBundles}
use Rattle.wg_types.specs.declared.mappings.Mapping.{Mapping}
use Rattle.wg_types.specs.declared.mappings.MapMode.{MapMode}
use Rattle.wg_types.specs.declared.mappings.MapMode.TheVariants.{Read as ReadMode, Write as WriteMode}
use Rattle.wg_types.specs.declared.textures.TextureInfo.{TextureInfo}
use Rattle.wg_types.specs.declared.textures.TextureSpot.{TextureSpot}
use Rattle.wg_rows.specs.Runs.{Cells}
use Rattle.wg_rows.specs.Uses.{AccessKind, Write}
use Rattle.wg_orders.specs.Steps.{Step, StepPlace}
use Rattle.wg_model.specs.Subresources.{copied_cells, has_no_texel}
use Rattle.wg_model.specs.TexelCopies.{whole_spot}
use Rattle.wg_model.specs.Commands.{texture_of, query_bytes}
use Rattle.wg_model.specs.Walk.{Kept, PassSoFar, open_pass, is_open, pass_does, does_within, does_at, doings, deeds, verdict}
use Rattle.wg_model.specs.Commands.{size_or_rest}
use Rattle.wg_model.specs.Touches.{Touch, Doing, deed_of, placed, touching, target_kind, copied_to, copied_from, range_touches, texture_to_texture_touches, unless, encoder_does}
use Rattle.wg_types.specs.declared.groups.GroupLayoutInfo.{GroupLayoutInfo}
use Rattle.wg_types.specs.declared.bindings.BufferBinding.TheVariants.{Uniform, Storage, ReadOnlyStorage}
use Rattle.wg_types.specs.declared.bindings.StorageAccess.TheVariants.{ReadOnly, WriteOnly, ReadWrite}
use Rattle.wg_types.specs.declared.bindings.BindingKind.{BindingKind}
use Rattle.wg_types.specs.declared.bindings.BindingKind.TheVariants.{Buffer, Sampler, Texture, StorageTexture}
use Rattle.wg_types.specs.declared.commands.BoundGroup.{BoundGroup}
use Rattle.wg_rows.specs.Rows.{EachRow}
use Rattle.wg_model.specs.Bound.{Place, kind_touch, resource_cells, place_touches, layouts_places, bound_touches}
use Rattle.wg_model.specs.Bound.{set_places}
use Rattle.wg_model.specs.Settings.{Settings, settings, bound_with, layouts_set, indirect_touch}
use Rattle.wg_model.specs.Compute.{compute_does, dispatch_touches}
use Rattle.wg_model.specs.Attachments.{RenderBegin, ColorTarget, DepthTarget, handle_cells, color_cells, attach_kind, attached, attachment_usage, resolve_touches, color_touches, aspect_how, depth_how, cells_aspect, depth_touch, depth_touches, targets_touches}
use Rattle.wg_model.specs.Render.{RenderSet, render_set, touches_over, command_touches, bound_group_touches, render_does, render_does_by}
use Rattle.wg_types.specs.declared.bundles.BundleInfo.{BundleInfo}
use Rattle.wg_types.specs.declared.bundles.BundleTouch.{BundleTouch}
use Rattle.wg_types.specs.declared.bundles.BundleUse.{BundleUse}
use Rattle.wg_types.specs.declared.bundles.BundleUse.TheVariants.{Input, Constant, StorageRead, Storage as StorageUse}
use Rattle.wg_model.specs.Bundles.{known_bundle, bundle_how, bundle_touch, known_touches, executed_touches}
use Rattle.wg_model.specs.Queries.{set_of_pass, query_begun_touches}
use Rattle.wg_types.specs.Handles.{HandleValue}
use Rattle.wg_trace.specs.declared.parts.Aspect.{Aspect}
use Rattle.wg_trace.specs.declared.parts.Aspect.TheVariants as aspect
use Rattle.wg_types.specs.declared.commands.Bracket.{Bracket}
use Rattle.wg_types.specs.declared.commands.Bracket.TheVariants as brackets
use Rattle.wg_types.specs.Commands.{bracket}
use Rattle.wg_types.specs.declared.render.LoadOp.{LoadOp}
use Rattle.wg_types.specs.declared.render.StoreOp.{StoreOp}
use Rattle.wg_rows.specs.Uses.{Usages}
use Rattle.wg_model.specs.Recorded.{write_buffer_step, write_texture_step, host_name, host_touches, host_step}
use Rattle.wg_types.specs.declared.render.TargetInfo.{TargetInfo}
use Rattle.wg_types.specs.declared.writes.QueueWrite.{QueueWrite}
use Rattle.wg_model.specs.Recorded.{write_step}
use Rattle.wg_model.specs.Touches.{copy_src_usage, copy_dst_usage}
use Rattle.wg_model.specs.Walk.{DeedsOf}
use Rattle.wg_rows.specs.Uses.{Read}
use Rattle.wg_model.proofs.StepLaws.{each_joined}
use Rattle.wg_readback.specs.Shapes.{IsSet, IsFilledStep}
use Rattle.wg_shaped.proofs.Groups.{If}
use Rattle.wg_shaped.proofs.Filling.{AreSets, step_filled}

-- What each step touches.
map_sets : (how : Usages × AccessKind) → IsSet how.0 → (cells : List Cells) → AreSets (map (λ (run : Cells). (run, how)) cells)
map_sets how h [] = tt
map_sets how h (run ∷ cells) = (h, map_sets how h cells)

joined_sets : (xs ys : List Touch) → AreSets xs → AreSets ys → AreSets (xs ++ ys)
joined_sets [] ys a b = b
joined_sets (x ∷ xs) ys a b = (a.0, joined_sets xs ys a.1 b)

copied_to_sets : (object : ℕ) (info : TextureInfo) (spot : TextureSpot) (size : List ℕ) → AreSets (copied_to object info spot size)
copied_to_sets object info spot size = map_sets (copy_dst_usage, target_kind info spot size) (lit< tt, lit< tt) (copied_cells object info spot size)

copied_from_sets : (object : ℕ) (info : TextureInfo) (spot : TextureSpot) (size : List ℕ) → AreSets (copied_from object info spot size)
copied_from_sets object info spot size = map_sets (copy_src_usage, Read) (lit< tt, lit< tt) (copied_cells object info spot size)

range_sets : (object offset size : ℕ) → AreSets (range_touches object offset size)
range_sets object offset size = ((lit< tt, lit< tt), tt)

textures_sets : (source : ℕ) (from_info : TextureInfo) (from : TextureSpot) (target : ℕ) (to_info : TextureInfo) (to : TextureSpot) (size : List ℕ) → AreSets (texture_to_texture_touches source from_info from target to_info to size)
textures_sets source from_info from target to_info to size = joined_sets (copied_from source from_info from size) (copied_to target to_info to size) (copied_from_sets source from_info from size) (copied_to_sets target to_info to size)

-- a step that may be left out
by_size : (b : Bool) (step : Step) → IsFilledStep step → If IsFilledStep (if b then None else Some step)
by_size true step h = tt
by_size false step h = h

pub write_filled : (place : StepPlace) (write : QueueWrite) → If IsFilledStep (write_step place write)
write_filled place (BufferWrite buffer offset size) = by_size (size == 0) (write_buffer_step place buffer.number offset size) (step_filled place (name.WriteBuffer, range_touches buffer.number offset size) (range_sets buffer.number offset size))
write_filled place (TextureWrite texture info spot layout size) = by_size (has_no_texel size) (write_texture_step place texture.number info spot size) (step_filled place (name.WriteTexture, copied_to texture.number info spot size) (copied_to_sets texture.number info spot size))

host_sets : (buffer lo hi : ℕ) (mode : MapMode) → AreSets (host_touches buffer (record { mode = mode; lo = lo; hi = hi }))
host_sets buffer lo hi ReadMode = ((lit< tt, lit< tt), tt)
host_sets buffer lo hi WriteMode = ((lit< tt, lit< tt), tt)

pub host_filled : (place : StepPlace) (buffer : ℕ) (m : Mapping) → If IsFilledStep (host_step place buffer m)
host_filled place buffer m = by_size (m.lo == m.hi) (touching place (host_name m.mode) (host_touches buffer m)) (step_filled place (host_name m.mode, host_touches buffer m) (host_sets buffer m.lo m.hi m.mode))

-- what commands on encoders touch
abbrev IsSetDoing : Doing → Type 0
IsSetDoing doing = AreSets doing.1

abbrev AreSetDoings : List Doing → Type 0
AreSetDoings doings = EachRow IsSetDoing doings

unless_sets : (b : Bool) (doing : Doing) → IsSetDoing doing → AreSetDoings (option_to_list (unless b doing))
unless_sets true doing h = tt
unless_sets false doing h = (h, tt)

encoder_sets : (command : Command) → AreSetDoings (option_to_list (encoder_does command))
unfolding encoder_does
encoder_sets (CopyBufferToBuffer source source_offset target target_offset size) = unless_sets (size == 0) _ ((lit< tt, lit< tt), range_sets target.reference.number target_offset size)
encoder_sets (CopyBufferToTexture buffer layout texture spot size) = unless_sets (has_no_texel size) _ ((lit< tt, lit< tt), copied_to_sets texture.reference.number (texture_of texture) spot size)
encoder_sets (CopyTextureToBuffer buffer layout texture spot size) = unless_sets (has_no_texel size) _ ((lit< tt, lit< tt), copied_from_sets texture.reference.number (texture_of texture) spot size)
encoder_sets (CopyTextureToTexture source source_mip source_origin target target_mip target_origin size) = unless_sets (has_no_texel size) _ (textures_sets source.reference.number (texture_of source) (whole_spot source_mip source_origin) target.reference.number (texture_of target) (whole_spot target_mip target_origin) size)
encoder_sets (ClearBuffer buffer offset size) = unless_sets (size_or_rest buffer offset size == 0) _ (range_sets buffer.reference.number offset (size_or_rest buffer offset size))
encoder_sets (ResolveQuerySet queries first count buffer offset) = unless_sets (count == 0) _ ((lit< tt, lit< tt), range_sets buffer.reference.number offset (query_bytes * count))
encoder_sets _ = tt

-- what groups touch
binding_set : (kind : BindingKind) → IsSet (kind_touch kind).0
binding_set (Buffer Uniform dynamic min_size) = (lit< tt, lit< tt)
binding_set (Buffer Storage dynamic min_size) = (lit< tt, lit< tt)
binding_set (Buffer ReadOnlyStorage dynamic min_size) = (lit< tt, lit< tt)
binding_set (Sampler sampler_type) = (lit< tt, lit< tt)
binding_set (Texture sample dim multi) = (lit< tt, lit< tt)
binding_set (StorageTexture ReadOnly format dim) = (lit< tt, lit< tt)
binding_set (StorageTexture WriteOnly format dim) = (lit< tt, lit< tt)
binding_set (StorageTexture ReadWrite format dim) = (lit< tt, lit< tt)

places_sets : (places : List Place) → AreSets (flat_map place_touches places)
places_sets [] = tt
places_sets (place ∷ places) = joined_sets (place_touches place) (flat_map place_touches places) (map_sets (kind_touch place.asked.kind) (binding_set place.asked.kind) (resource_cells place.moved place.resource)) (places_sets places)

bound_sets : (layouts : List GroupLayoutInfo) (groups : List (Option BoundGroup)) → AreSets (bound_touches layouts groups)
unfolding bound_touches
bound_sets layouts groups = places_sets (layouts_places layouts groups 0)

compute_sets : (set : Settings) (command : Command) → AreSetDoings (option_to_list (compute_does set command))
unfolding compute_does
compute_sets set (Dispatch x y z) = (bound_sets (layouts_set set) set.groups, tt)
compute_sets set (DispatchIndirect buffer offset) = (joined_sets (dispatch_touches set) (indirect_touch buffer offset 12 ∷ []) (bound_sets (layouts_set set) set.groups) ((lit< tt, lit< tt), tt), tt)
compute_sets set _ = tt

-- what attachments touch
resolve_sets : (resolve : Option HandleValue) → AreSets (resolve_touches resolve)
resolve_sets None = tt
resolve_sets (Some view) = map_sets (attachment_usage, Write) (lit< tt, lit< tt) (handle_cells view)

color_sets : (color : Option ColorTarget) → AreSets (color_touches color)
color_sets None = tt
color_sets (Some target) = joined_sets (map (attached (attachment_usage, attach_kind target.load target.store)) (color_cells target)) (resolve_touches target.resolve) (map_sets (attachment_usage, attach_kind target.load target.store) (lit< tt, lit< tt) (color_cells target)) (resolve_sets target.resolve)

colors_sets : (colors : List (Option ColorTarget)) → AreSets (flat_map color_touches colors)
colors_sets [] = tt
colors_sets (color ∷ colors) = joined_sets (color_touches color) (flat_map color_touches colors) (color_sets color) (colors_sets colors)

aspect_set : (read_only : Bool) (load : Option LoadOp) (store : Option StoreOp) → IsSet (aspect_how read_only load store).0
aspect_set true load store = (lit< tt, lit< tt)
aspect_set false load store = (lit< tt, lit< tt)

depth_set : (target : DepthTarget) (of : Aspect) → IsSet (depth_how target of).0
depth_set target aspect.Color = aspect_set target.depth_read_only target.depth_load target.depth_store
depth_set target aspect.Depth = aspect_set target.depth_read_only target.depth_load target.depth_store
depth_set target aspect.Stencil = aspect_set target.stencil_read_only target.stencil_load target.stencil_store

aspects_sets : (target : DepthTarget) (cells : List Cells) → AreSets (map (depth_touch target) cells)
aspects_sets target [] = tt
aspects_sets target (run ∷ cells) = (depth_set target (cells_aspect run), aspects_sets target cells)

depth_sets : (depth : Option DepthTarget) → AreSets (depth_touches depth)
depth_sets None = tt
depth_sets (Some target) = aspects_sets target (handle_cells target.view)

targets_sets : (begin : RenderBegin) → AreSets (targets_touches begin)
unfolding targets_touches
targets_sets begin = joined_sets (flat_map color_touches begin.colors) (depth_touches begin.depth) (colors_sets begin.colors) (depth_sets begin.depth)

-- what bundles and render passes touch
bundle_set : (used : BundleUse) → IsSet (bundle_how used).0
bundle_set Input = (lit< tt, lit< tt)
bundle_set Constant = (lit< tt, lit< tt)
bundle_set StorageRead = (lit< tt, lit< tt)
bundle_set StorageUse = (lit< tt, lit< tt)

bundle_sets : (touches : List BundleTouch) → AreSets (map bundle_touch touches)
bundle_sets [] = tt
bundle_sets (touch ∷ touches) = (bundle_set touch.used, bundle_sets touches)

within_sets : (known : Option BundleInfo) → AreSets (known_touches known)
within_sets None = tt
within_sets (Some bundle) = bundle_sets bundle.touches

executed_sets : (bundles : List HandleValue) → AreSets (executed_touches bundles)
executed_sets [] = tt
executed_sets (bundle ∷ bundles) = joined_sets (known_touches (known_bundle bundle)) (executed_touches bundles) (within_sets (known_bundle bundle)) (executed_sets bundles)

query_sets : (queries : Option (ℕ × ℕ)) (index : ℕ) → AreSets (query_begun_touches queries index)
query_sets None index = tt
query_sets (Some set) index = ((lit< tt, lit< tt), tt)

command_sets : (queries : Option (ℕ × ℕ)) (command : Command) → AreSets (command_touches queries command)
command_sets queries (SetBindGroup index group offsets) = joined_sets (bound_group_touches (Some (index, option_map (bound_with offsets) group))) [] (places_sets (set_places (option_map (bound_with offsets) group))) tt
command_sets queries (SetVertexBuffer slot None offset size) = tt
command_sets queries (SetVertexBuffer slot (Some buffer) offset size) = ((lit< tt, lit< tt), tt)
command_sets queries (SetIndexBuffer buffer format offset size) = ((lit< tt, lit< tt), tt)
command_sets queries (DrawIndirect buffer offset) = ((lit< tt, lit< tt), tt)
command_sets queries (DrawIndexedIndirect buffer offset) = ((lit< tt, lit< tt), tt)
command_sets queries (BeginOcclusionQuery index) = query_sets queries index
command_sets queries (ExecuteBundles bundles) = joined_sets (executed_touches bundles) [] (executed_sets bundles) tt
command_sets queries _ = tt

over_sets : (queries : Option (ℕ × ℕ)) (first : List Touch) (earlier : List Command) → AreSets first → AreSets (touches_over queries first earlier)
over_sets queries first [] h = h
over_sets queries first (command ∷ earlier) h = joined_sets (touches_over queries first earlier) (command_touches queries command) (over_sets queries first earlier h) (command_sets queries command)

render_sets : (render : RenderSet) (b : Bracket) → AreSets render.touches → AreSetDoings (option_to_list (render_does_by render b))
render_sets render brackets.EndPass h = (h, tt)
render_sets render _ h = tt

render_does_sets : (begin : RenderBegin) (earlier : List Command) (command : Command) → AreSetDoings (option_to_list (render_does (render_set begin earlier) command))
unfolding render_does
render_does_sets begin earlier command = render_sets (render_set begin earlier) (bracket command) (over_sets (set_of_pass begin.queries) (targets_touches begin) earlier (targets_sets begin))

pass_sets : (begin : Command) (earlier : List Command) (command : Command) → AreSetDoings (option_to_list (pass_does begin earlier command))
pass_sets BeginComputePass earlier command = compute_sets (settings earlier) command
pass_sets (BeginRenderPass begin) earlier command = render_does_sets begin earlier command
pass_sets _ earlier command = tt

opened_sets : (opened : Option PassSoFar) (command : Command) → AreSetDoings (option_to_list (does_within opened command))
opened_sets None command = tt
opened_sets (Some pass) command = pass_sets pass.begin pass.earlier command

at_sets : (opened : Option PassSoFar) (on : On) (command : Command) → AreSetDoings (option_to_list (does_at opened on command))
at_sets opened Encoder command = encoder_sets command
at_sets opened (Pass pass) command = by_open (is_open opened pass)
  where
    by_open : (b : Bool) → AreSetDoings (option_to_list (if b then does_within opened command else None))
    by_open true = opened_sets opened command
    by_open false = tt

doings_sets : (kept : Kept) → AreSetDoings (doings kept)
doings_sets [] = tt
doings_sets (kept ∷ older) = each_joined IsSetDoing (doings older) (option_to_list (does_at (open_pass older) kept.0 kept.1)) (doings_sets older) (at_sets (open_pass older) kept.0 kept.1)

-- the steps of a recording
placed_filled : (place : StepPlace) (done : List Doing) → AreSetDoings done → EachRow IsFilledStep (map (placed place) (map deed_of done))
placed_filled place [] h = tt
placed_filled place (doing ∷ done) h = (step_filled place doing h.0, placed_filled place done h.1)

pub recorded_filled : (place : StepPlace) (maker : Maker) (targets : Option TargetInfo) (commands : List (On × Command)) → EachRow IsFilledStep (map (placed place) (DeedsOf maker targets commands))
recorded_filled place maker (Some targets) commands = tt
recorded_filled place maker None commands = by_rules (is_none (verdict maker (reverse commands)) && is_none (open_pass (reverse commands)))
  where
    by_rules : (b : Bool) → EachRow IsFilledStep (map (placed place) (if b then deeds (reverse commands) else []))
    by_rules true = placed_filled place (doings (reverse commands)) (doings_sets (reverse commands))
    by_rules false = tt
