-- Render passes (WebGPU, "Render Passes" and "GPURenderCommandsMixin"): what is set, the rules of the commands, and what the
-- whole pass touches. The commands of a pass so far stand newest first. Also WebGPU, "Drawing".
use Rattle.std.specs.Prelude.{ℕ, ◌+◌, ◌*◌, ◌%◌, ◌==◌, nat_le, nat_lt, Bool, true, false, not, ◌&&◌, ◌||◌, List, [], ◌∷◌, ◌++◌, Option, Some, None, is_some, is_none, option_and_then, unwrap_or, slice_index_or, if◌then◌else◌}
use Rattle.std.specs.List.{list_all, flat_map}
use Rattle.std.specs.Option.{option_map_or, option_map, option_or}
use Rattle.wg_rules.specs.declared.TheConstants.{PIPELINE_DRAWS_TO_TARGETS, PIPELINE_SPARES_READ_ONLY, VERTEX_BUFFER_HAS_VERTEX, VERTEX_SLOT_IS_WITHIN_LIMIT, VERTEX_OFFSET_IS_ALIGNED, VERTEX_RANGE_FITS_BUFFER, INDEX_BUFFER_HAS_INDEX, INDEX_OFFSET_IS_ALIGNED, INDEX_RANGE_FITS_BUFFER, VERTEX_BUFFERS_ARE_SET, VERTEX_RANGES_SUFFICE, INDEX_BUFFER_IS_SET, INDEX_RANGE_SUFFICES, BUNDLE_TARGETS_ARE_OF_PASS, BUNDLES_SPARE_READ_ONLY, VIEWPORT_SIZE_IS_WITHIN_LIMIT, VIEWPORT_IS_WITHIN_BOUNDS, VIEWPORT_DEPTHS_ARE_IN_ORDER, SCISSOR_FITS_ATTACHMENTS, DRAWS_ARE_WITHIN_MAXIMUM, STRIP_INDICES_FIT_PIPELINE}
use Rattle.wg_types.specs.Handles.{HandleValue}
use Rattle.wg_types.specs.Formats.{same_format}
use Rattle.wg_types.specs.Vertex.{index_bytes}
use Rattle.wg_types.specs.Fixed.{strip_of}
use Rattle.wg_types.specs.Commands.{Command, bracket, Act, begins, sets, runs, occludes, executes, neither, act}
use Rattle.wg_types.specs.Commands.{Setting, set_pipeline, set_group, set_vertex_buffer, set_index_buffer, set_viewport, set_scissor, set_unread}
use Rattle.wg_types.specs.Commands.{Running, dispatch, dispatch_indirect, draw, draw_indexed, draw_indirect, draw_indexed_indirect}
use Rattle.wg_types.specs.declared.formats.Format.{Format}
use Rattle.wg_types.specs.declared.handles.Info.{Info}
use Rattle.wg_types.specs.declared.handles.Info.TheVariants as info
use Rattle.wg_types.specs.declared.vertex.IndexFormat.{IndexFormat}
use Rattle.wg_types.specs.declared.vertex.VertexBuffer.{VertexBuffer}
use Rattle.wg_types.specs.declared.fixed.DepthState.{DepthState}
use Rattle.wg_types.specs.declared.fixed.CullMode.{CullMode}
use Rattle.wg_types.specs.declared.render.RenderDesc.{RenderDesc}
use Rattle.wg_types.specs.declared.render.TargetInfo.{TargetInfo}
use Rattle.wg_types.specs.declared.render.Viewport.{Viewport}
use Rattle.wg_types.specs.declared.limits.CommandLimits.{CommandLimits}
use Rattle.wg_types.specs.declared.commands.BoundGroup.{BoundGroup}
use Rattle.wg_types.specs.declared.commands.Bracket.{Bracket}
use Rattle.wg_types.specs.declared.commands.Bracket.TheVariants as brackets
use Rattle.wg_trace.specs.declared.steps.StepName.TheVariants as name
use Rattle.wg_rows.specs.Uses.{Read}
use Rattle.wg_model.specs.Rules.{Rule}
use Rattle.wg_model.specs.Equality.{same_option, same_index_format}
use Rattle.wg_model.specs.FixedFunction.{target_formats, writes_depth, writes_stencil}
use Rattle.wg_model.specs.Buffers.{has_usage}
use Rattle.wg_model.specs.Commands.{debug_rules, buffer_of, size_or_rest}
use Rattle.wg_model.specs.Touches.{Touch, Doing, bytes_at, input_usage}
use Rattle.wg_model.specs.Bound.{set_places, place_touches}
use Rattle.wg_model.specs.Vertex.{draw_fits}
use Rattle.wg_types.specs.declared.bundles.BundleInfo.{BundleInfo}
use Rattle.wg_model.specs.Bundles.{known_bundle, executed_touches}
use Rattle.wg_model.specs.Queries.{Occlusion, occlusion_of, occlusion_call, set_of_pass, occlusion_rules, pass_end_rules, query_touches}
use Rattle.wg_model.specs.Attachments.{RenderBegin, drawn_views, extent_of, targets_of, targets_touches}
use Rattle.wg_model.specs.Settings.{Settings, settings, slot_after, group_given, pipeline_given, given_rules, unsets, end_rules, ready_rules, indirect_rules, indirect_touch}

-- what a handle knows of a render pipeline, which of an invalid one is nothing
abbrev pub desc_in : Info → Option RenderDesc
desc_in (info.Buffer known) = None
desc_in (info.Texture known) = None
desc_in (info.View known) = None
desc_in (info.Sampler known) = None
desc_in (info.GroupLayout known) = None
desc_in (info.PipelineLayout known) = None
desc_in (info.Group known) = None
desc_in (info.Compute known) = None
desc_in (info.Render known) = Some known.desc
desc_in (info.Queries known) = None
desc_in info.Encoder = None
desc_in (info.BundleEncoder known) = None
desc_in info.CommandBuffer = None
desc_in (info.Bundle known) = None

-- what a handle knows of a render pipeline, which of an invalid one is nothing
abbrev pub known_pipeline : HandleValue → Option RenderDesc
known_pipeline handle = if handle.valid then desc_in handle.info else None

-- the vertex buffers of the pipeline that is set
abbrev pub buffers_in : Option RenderDesc → List (Option VertexBuffer)
buffers_in None = []
buffers_in (Some desc) = desc.buffers

-- the vertex buffers of the render pipeline that is set, if one is
abbrev pub buffers_wanted : Settings → List (Option VertexBuffer)
buffers_wanted set = buffers_in (option_and_then known_pipeline set.pipeline)

-- of what format the indexes of strips are, if that is told, where a pipeline makes strips
abbrev pub strip_in : Option RenderDesc → Option (Option IndexFormat)
strip_in None = None
strip_in (Some desc) = strip_of desc.primitive

-- of what format the indexes of strips are, if that is told, where the pipeline that is set makes strips
abbrev pub strip_wanted : Settings → Option (Option IndexFormat)
strip_wanted set = strip_in (option_and_then known_pipeline set.pipeline)

-- the slot for which a setting sets a range as a vertex buffer, with the size of that, or with none where it unsets what is
-- set there
abbrev pub setting_vertex : Setting HandleValue → Option (ℕ × Option ℕ)
setting_vertex (set_pipeline pipeline) = None
setting_vertex (set_group index group offsets) = None
setting_vertex (set_vertex_buffer slot buffer offset size) = Some (slot, option_map (λ given. size_or_rest given offset size) buffer)
setting_vertex (set_index_buffer buffer format offset size) = None
setting_vertex (set_viewport viewport) = None
setting_vertex (set_scissor x y width height) = None
setting_vertex set_unread = None

-- the slot and the size of the vertex buffer that a command sets or unsets, by what it is to its pass
abbrev pub vertex_given_by : Act HandleValue → Option (ℕ × Option ℕ)
vertex_given_by (begins begin) = None
vertex_given_by (sets setting) = setting_vertex setting
vertex_given_by (runs running) = None
vertex_given_by (occludes call) = None
vertex_given_by (executes bundles) = None
vertex_given_by neither = None

-- the slot for which a command sets a range as a vertex buffer, with the size of that, or with none where it unsets what is set
-- there
abbrev pub vertex_given : Command → Option (ℕ × Option ℕ)
vertex_given command = vertex_given_by (act command)

-- the size of the range that is set as the vertex buffer of a slot: of the last, since bundles were executed; none where null
-- was set last
abbrev pub vertex_set : List Command → ℕ → Option ℕ
vertex_set [] at = None
vertex_set (command ∷ earlier) at = if unsets command then None else slot_after (vertex_given command) at (vertex_set earlier at)

-- the sizes of the vertex buffers that are set, by slot
abbrev pub ranges_set : List Command → List (Option ℕ)
ranges_set earlier =
    vertex_set earlier 0
    ∷ (vertex_set earlier 1
    ∷ (vertex_set earlier 2
    ∷ (vertex_set earlier 3
    ∷ (vertex_set earlier 4
    ∷ (vertex_set earlier 5
    ∷ (vertex_set earlier 6
    ∷ (vertex_set earlier 7
    ∷ [])))))))

-- the range that a setting sets as the index buffer, by its format and its size, if it sets one
abbrev pub setting_index : Setting HandleValue → Option (IndexFormat × ℕ)
setting_index (set_pipeline pipeline) = None
setting_index (set_group index group offsets) = None
setting_index (set_vertex_buffer slot buffer offset size) = None
setting_index (set_index_buffer buffer format offset size) = Some (format, size_or_rest buffer offset size)
setting_index (set_viewport viewport) = None
setting_index (set_scissor x y width height) = None
setting_index set_unread = None

-- the format and the size of the index buffer that a command sets, by what it is to its pass
abbrev pub index_given_by : Act HandleValue → Option (IndexFormat × ℕ)
index_given_by (begins begin) = None
index_given_by (sets setting) = setting_index setting
index_given_by (runs running) = None
index_given_by (occludes call) = None
index_given_by (executes bundles) = None
index_given_by neither = None

-- the range that a command sets as the index buffer, if it sets one
abbrev pub index_given : Command → Option (IndexFormat × ℕ)
index_given command = index_given_by (act command)

-- the index buffer that is set: the last, since bundles were executed
abbrev pub index_set : List Command → Option (IndexFormat × ℕ)
index_set [] = None
index_set (command ∷ earlier) = if unsets command then None else option_or (index_given command) (index_set earlier)

-- What a command touches: all that is set counts, drawn or not, what an indirect draw reads, and what bundles touch that are
-- executed.

-- what a group that is set touches, if one is; what was set before is touched also where null unsets it
abbrev pub bound_group_touches : Option (ℕ × Option BoundGroup) → List Touch
bound_group_touches None = []
bound_group_touches (Some given) = flat_map place_touches (set_places given.1)

-- the range of a buffer that draws read
abbrev pub input_touch : HandleValue → ℕ → ℕ → Touch
input_touch buffer offset size = (bytes_at buffer.reference.number offset size, (input_usage, Read))

-- what is set as a vertex buffer is read, and null is nothing
abbrev pub vertex_touches : Option HandleValue → ℕ → Option ℕ → List Touch
vertex_touches None offset size = []
vertex_touches (Some buffer) offset size = input_touch buffer offset (size_or_rest buffer offset size) ∷ []

-- what is set as an input is read
abbrev pub setting_touches : Setting HandleValue → List Touch
setting_touches (set_pipeline pipeline) = []
setting_touches (set_group index group offsets) = []
setting_touches (set_vertex_buffer slot buffer offset size) = vertex_touches buffer offset size
setting_touches (set_index_buffer buffer format offset size) = input_touch buffer offset (size_or_rest buffer offset size) ∷ []
setting_touches (set_viewport viewport) = []
setting_touches (set_scissor x y width height) = []
setting_touches set_unread = []

-- what an indirect draw touches: the bytes that it reads of its buffer
abbrev pub running_touches : Running HandleValue → List Touch
running_touches (dispatch x y z) = []
running_touches (dispatch_indirect buffer offset) = []
running_touches (draw vertices instances first_vertex first_instance) = []
running_touches (draw_indexed indices instances first_index first_instance) = []
running_touches (draw_indirect buffer offset) = indirect_touch buffer offset 16 ∷ []
running_touches (draw_indexed_indirect buffer offset) = indirect_touch buffer offset 20 ∷ []

-- what a command touches but for groups and queries, by what it is to its pass
abbrev pub input_touches_by : Act HandleValue → List Touch
input_touches_by (begins begin) = []
input_touches_by (sets setting) = setting_touches setting
input_touches_by (runs running) = running_touches running
input_touches_by (occludes call) = []
input_touches_by (executes bundles) = executed_touches bundles
input_touches_by neither = []

-- what a command touches but for groups and queries: as input, or through bundles
abbrev pub input_touches : Command → List Touch
input_touches command = input_touches_by (act command)

-- what a command of a render pass touches: the group that it sets, its inputs and bundles, and its query
abbrev pub command_touches : Option (ℕ × ℕ) → Command → List Touch
command_touches queries command = bound_group_touches (group_given command) ++ (input_touches command ++ query_touches queries (occlusion_call command))

-- what is touched from a beginning on, and then by commands
abbrev pub touches_over : Option (ℕ × ℕ) → List Touch → List Command → List Touch
touches_over queries first [] = first
touches_over queries first (command ∷ earlier) = touches_over queries first earlier ++ command_touches queries command

-- How often a pass or a bundle draws: each draw counts once, with counts of 0 too, and a bundle that is executed as often as it
-- draws itself.

-- how often something draws that runs
abbrev pub running_draws : Running HandleValue → ℕ
running_draws (dispatch x y z) = 0
running_draws (dispatch_indirect buffer offset) = 0
running_draws (draw vertices instances first_vertex first_instance) = 1
running_draws (draw_indexed indices instances first_index first_instance) = 1
running_draws (draw_indirect buffer offset) = 1
running_draws (draw_indexed_indirect buffer offset) = 1

-- how often a bundle draws, if it is one
abbrev pub known_draws : Option BundleInfo → ℕ
known_draws None = 0
known_draws (Some bundle) = bundle.draws

-- how often bundles draw that are executed
abbrev pub executed_draws : List HandleValue → ℕ
executed_draws [] = 0
executed_draws (bundle ∷ bundles) = known_draws (known_bundle bundle) + executed_draws bundles

-- how often a command draws, by what it is to its pass
abbrev pub draws_by : Act HandleValue → ℕ
draws_by (begins begin) = 0
draws_by (sets setting) = 0
draws_by (runs running) = running_draws running
draws_by (occludes call) = 0
draws_by (executes bundles) = executed_draws bundles
draws_by neither = 0

-- how often a command draws
abbrev pub command_draws : Command → ℕ
command_draws command = draws_by (act command)

-- how often the commands of a pass or a bundle draw so far; bundles that are executed set it back no more than anything else
abbrev pub draws_of : List Command → ℕ
draws_of [] = 0
draws_of (command ∷ earlier) = draws_of earlier + command_draws command

-- What is set in a render pass: what is set in any pass, the sizes of the ranges that are set as vertex buffers by slot, the
-- index buffer; to what it draws, the width and the height of that, its query set, if it has one, and the queries of that; how
-- often it draws so far, and how often it may, if that is given; and what it touches so far.
pub record RenderSet : Type 0 where
  pub set : Settings
  pub ranges : List (Option ℕ)
  pub index : Option (IndexFormat × ℕ)
  pub targets : TargetInfo
  pub extent : ℕ × ℕ
  pub queries : Option (ℕ × ℕ)
  pub occlusion : Occlusion
  pub draws : ℕ
  pub most : Option ℕ
  pub touches : List Touch

-- what is set after commands that draw to some targets of some extent, with some touches before theirs
abbrev pub drawing_set : TargetInfo → ℕ × ℕ → Option (ℕ × ℕ) → Option ℕ → List Touch → List Command → RenderSet
drawing_set targets extent queries most first earlier = record {
  set = settings earlier;
  ranges = ranges_set earlier;
  index = index_set earlier;
  targets = targets;
  extent = extent;
  queries = queries;
  occlusion = occlusion_of earlier;
  draws = draws_of earlier;
  most = most;
  touches = touches_over queries first earlier;
}

-- what a pass touches first are its attachments
abbrev pub render_set : RenderBegin → List Command → RenderSet
render_set begin earlier = drawing_set (targets_of begin) (extent_of (drawn_views begin)) (set_of_pass begin.queries) begin.max_draws (targets_touches begin) earlier

-- what is set in a bundle, which has targets, but neither attachments nor queries, and may draw as often as it will
abbrev pub bundle_set : TargetInfo → List Command → RenderSet
bundle_set targets earlier = drawing_set targets (0, 0) None None [] earlier

-- setPipeline: whether the formats of targets are those of a pass, where what is left out at the end does not count

-- whether all of some targets are left out
abbrev pub none_given : List (Option Format) → Bool
none_given targets = list_all (λ (target : Option Format). is_none target) targets

-- whether two lists of targets are the same, but for what is left out at their ends
abbrev pub same_targets : List (Option Format) → List (Option Format) → Bool
same_targets [] others = none_given others
same_targets (target ∷ targets) [] = none_given (target ∷ targets)
same_targets (target ∷ targets) (other ∷ others) = same_option same_format target other && same_targets targets others

-- whether a pipeline's targets, depth format and samples are those of a pass
abbrev pub draws_to : TargetInfo → RenderDesc → Bool
draws_to targets desc =
    same_targets (target_formats desc.targets) targets.colors
    && (same_option same_format (option_map (λ (depth : DepthState). depth.format) desc.depth) targets.depth
    && desc.samples == targets.samples)

-- whether what is only read is not written
abbrev pub spares : TargetInfo → CullMode → DepthState → Bool
spares targets culled depth = not (targets.depth_read_only && writes_depth depth) && not (targets.stencil_read_only && writes_stencil culled depth.stencil)

-- the rules of a pipeline that is set: 320 its targets, depth format and samples are those of the pass, where what is left out
-- at the end of the targets does not count; 321 it writes neither depth nor stencil where the pass only reads that
abbrev pub pipeline_rules : TargetInfo → Option RenderDesc → List Rule
pipeline_rules targets None = []
pipeline_rules targets (Some desc) =
    (PIPELINE_DRAWS_TO_TARGETS, draws_to targets desc)
    ∷ ((PIPELINE_SPARES_READ_ONLY, option_map_or (spares targets desc.primitive.cull_mode) desc.depth true)
    ∷ [])

-- the rules of a pipeline that a command sets, if it sets one
abbrev pub pipeline_given_rules : TargetInfo → Option HandleValue → List Rule
pipeline_given_rules targets None = []
pipeline_given_rules targets (Some pipeline) = pipeline_rules targets (known_pipeline pipeline)

-- executeBundles (WebGPU, "executeBundles"): whether a bundle draws to targets like those of the pass, and whether what the pass
-- only reads it only reads as well

-- rule 370 of one bundle: its colors, depth format and samples are those of the pass
abbrev pub bundle_fits : TargetInfo → BundleInfo → Bool
bundle_fits targets bundle =
    same_targets bundle.targets.colors targets.colors
    && (same_option same_format bundle.targets.depth targets.depth
    && bundle.targets.samples == targets.samples)

-- rule 371 of one bundle: it only reads what the pass only reads, of depth and of stencil
abbrev pub bundle_spares : TargetInfo → BundleInfo → Bool
bundle_spares targets bundle =
    (not targets.depth_read_only || bundle.targets.depth_read_only)
    && (not targets.stencil_read_only || bundle.targets.stencil_read_only)

-- whether each bundle that is valid passes a test
abbrev pub all_bundles : (BundleInfo → Bool) → List HandleValue → Bool
all_bundles test bundles = list_all (λ bundle. option_map_or test (known_bundle bundle) true) bundles

-- 370 the colors, the depth format and the samples of each bundle are those of the pass; 371 what the pass only reads each only
-- reads
abbrev pub execute_rules : TargetInfo → List HandleValue → List Rule
execute_rules targets bundles =
    (BUNDLE_TARGETS_ARE_OF_PASS, all_bundles (bundle_fits targets) bundles)
    ∷ ((BUNDLES_SPARE_READ_ONLY, all_bundles (bundle_spares targets) bundles)
    ∷ [])

-- how many vertex buffers may be set
abbrev pub most_slots : ℕ
most_slots = 8

-- setVertexBuffer: 330 the buffer has VERTEX 32; 331 the slot is one that a pass has; 332 the offset is a multiple of 4; 333
-- the range fits
abbrev pub vertex_rules : ℕ → HandleValue → ℕ → ℕ → List Rule
vertex_rules slot buffer offset size =
    (VERTEX_BUFFER_HAS_VERTEX, has_usage (buffer_of buffer).usage 32)
    ∷ ((VERTEX_SLOT_IS_WITHIN_LIMIT, nat_lt slot most_slots)
    ∷ ((VERTEX_OFFSET_IS_ALIGNED, offset % 4 == 0)
    ∷ ((VERTEX_RANGE_FITS_BUFFER, nat_le (offset + size) (buffer_of buffer).size)
    ∷ [])))

-- setVertexBuffer of null, which unsets what is set in the slot: 331 the slot is one that a pass has; 332 the offset is a
-- multiple of 4; 333 offset and size are 0, and a size that is left out is
abbrev pub no_vertex_rules : ℕ → ℕ → Option ℕ → List Rule
no_vertex_rules slot offset size =
    (VERTEX_SLOT_IS_WITHIN_LIMIT, nat_lt slot most_slots)
    ∷ ((VERTEX_OFFSET_IS_ALIGNED, offset % 4 == 0)
    ∷ ((VERTEX_RANGE_FITS_BUFFER, (offset == 0) && (unwrap_or size 0 == 0))
    ∷ []))

-- the rules of what is set as a vertex buffer, or of null
abbrev pub given_vertex_rules : ℕ → Option HandleValue → ℕ → Option ℕ → List Rule
given_vertex_rules slot None offset size = no_vertex_rules slot offset size
given_vertex_rules slot (Some buffer) offset size = vertex_rules slot buffer offset (size_or_rest buffer offset size)

-- setIndexBuffer: 335 the buffer has INDEX 16; 336 the offset is a multiple of the bytes of an index; 337 the range fits
abbrev pub index_rules : HandleValue → IndexFormat → ℕ → ℕ → List Rule
index_rules buffer format offset size =
    (INDEX_BUFFER_HAS_INDEX, has_usage (buffer_of buffer).usage 16)
    ∷ ((INDEX_OFFSET_IS_ALIGNED, offset % index_bytes format == 0)
    ∷ ((INDEX_RANGE_FITS_BUFFER, nat_le (offset + size) (buffer_of buffer).size)
    ∷ []))

-- whether a range is set for each of these vertex buffers that is not left out, the first of which has this slot
abbrev pub are_set : List (Option VertexBuffer) → List (Option ℕ) → ℕ → Bool
are_set [] ranges slot = true
are_set (None ∷ buffers) ranges slot = are_set buffers ranges (slot + 1)
are_set (Some buffer ∷ buffers) ranges slot = is_some (slice_index_or ranges slot None) && are_set buffers ranges (slot + 1)

-- whether so many indexes, from the first on, fit the range of the index buffer
abbrev pub indices_fit : ℕ → ℕ → Option (IndexFormat × ℕ) → Bool
indices_fit first indices None = false
indices_fit first indices (Some index) = nat_le ((first + indices) * index_bytes index.0) index.1

-- rule 350: each vertex buffer of the pipeline is set (WebGPU, "valid to draw")
abbrev pub vertex_buffers_rule : RenderSet → Rule
vertex_buffers_rule render = (VERTEX_BUFFERS_ARE_SET, are_set (buffers_wanted render.set) render.ranges 0)

-- rule 351: the ranges that are set serve the draw, which goes up to firstVertex and vertices together, and up to
-- firstInstance and instances together; of an indexed draw instances alone are told
abbrev pub draw_rule : RenderSet → Option ℕ → ℕ → Rule
draw_rule render vertices instances = (VERTEX_RANGES_SUFFICE, draw_fits (buffers_wanted render.set) render.ranges vertices instances)

-- rule 352: an index buffer is set
abbrev pub index_buffer_rule : RenderSet → Rule
index_buffer_rule render = (INDEX_BUFFER_IS_SET, is_some render.index)

-- whether the index buffer that is set has the format that strips want, where they are made; where that format is not told, none has
-- it
abbrev pub strip_fits : Option (Option IndexFormat) → Option (IndexFormat × ℕ) → Bool
strip_fits None index = true
strip_fits (Some wanted) index = option_map_or (λ format. option_map_or (λ (set : IndexFormat × ℕ). same_index_format set.0 format) index false) wanted false

-- rule 419: where the pipeline makes strips, the indexes that are set have the format that it gives for them
abbrev pub strip_rule : RenderSet → Rule
strip_rule render = (STRIP_INDICES_FIT_PIPELINE, strip_fits (strip_wanted render.set) render.index)

-- the rules of a draw
abbrev pub draw_rules : RenderSet → ℕ → ℕ → List Rule
draw_rules render vertices instances = ready_rules render.set ++ vertex_buffers_rule render ∷ (draw_rule render (Some vertices) instances ∷ [])

-- rule 353: the indexes of a draw fit the index buffer that is set
abbrev pub indices_rule : RenderSet → ℕ → ℕ → Rule
indices_rule render first indices = (INDEX_RANGE_SUFFICES, indices_fit first indices render.index)

-- the rules of a drawIndexed
abbrev pub draw_indexed_rules : RenderSet → ℕ → ℕ → ℕ → List Rule
draw_indexed_rules render first indices instances =
    ready_rules render.set
    ++ vertex_buffers_rule render
    ∷ (index_buffer_rule render
    ∷ (strip_rule render
    ∷ (indices_rule render first indices
    ∷ (draw_rule render None instances
    ∷ []))))

-- the rules of a drawIndirect
abbrev pub draw_indirect_rules : RenderSet → HandleValue → ℕ → List Rule
draw_indirect_rules render buffer offset = ready_rules render.set ++ (indirect_rules buffer offset 16 ++ vertex_buffers_rule render ∷ [])

-- the rules of a drawIndexedIndirect
abbrev pub draw_indexed_indirect_rules : RenderSet → HandleValue → ℕ → List Rule
draw_indexed_indirect_rules render buffer offset =
    ready_rules render.set ++ (indirect_rules buffer offset 20 ++ vertex_buffers_rule render ∷ (index_buffer_rule render ∷ (strip_rule render ∷ [])))

-- a whole number as the numbers of viewports stand: over 65536
abbrev pub fixed : ℕ → ℕ
fixed n = n * 65536

-- rule 401 of one side of a viewport, by the limit: it begins at most twice the limit before the edge of what is attached, and
-- ends at most twice the limit less one behind it
abbrev pub side_fits : ℕ → Bool → ℕ → ℕ → Bool
side_fits limit true at size = nat_le at (fixed (2 * limit)) && nat_le (size + fixed 1) (fixed (2 * limit) + at)
side_fits limit false at size = nat_le (at + size + fixed 1) (fixed (2 * limit))

-- setViewport (WebGPU, "setViewport()"): 400 neither width nor height is above the limit of 2D textures; 401 each side is where
-- the limit allows it; 402 the least depth is at most the greatest, and that at most 1
abbrev pub viewport_rules : CommandLimits → Viewport → List Rule
viewport_rules limits viewport = (
  VIEWPORT_SIZE_IS_WITHIN_LIMIT,
  nat_le viewport.width (fixed limits.max_texture_dimension_2d) && nat_le viewport.height (fixed limits.max_texture_dimension_2d),
)
    ∷ ((
      VIEWPORT_IS_WITHIN_BOUNDS,
      side_fits limits.max_texture_dimension_2d viewport.left viewport.x viewport.width
          && side_fits limits.max_texture_dimension_2d viewport.above viewport.y viewport.height,
    )
    ∷ ((VIEWPORT_DEPTHS_ARE_IN_ORDER, nat_le viewport.min_depth viewport.max_depth && nat_le viewport.max_depth (fixed 1))
    ∷ []))

-- setScissorRect (WebGPU, "setScissorRect()"): 403 the rectangle is within what is attached
abbrev pub scissor_rules : ℕ × ℕ → ℕ → ℕ → ℕ → ℕ → List Rule
scissor_rules extent x y width height = (SCISSOR_FITS_ATTACHMENTS, nat_le (x + width) extent.0 && nat_le (y + height) extent.1) ∷ []

-- the rules of what is set in render passes alone, by the limits of the device and the extent of what is attached
abbrev pub setting_rules : CommandLimits → ℕ × ℕ → Setting HandleValue → List Rule
setting_rules limits extent (set_pipeline pipeline) = []
setting_rules limits extent (set_group index group offsets) = []
setting_rules limits extent (set_vertex_buffer slot buffer offset size) = given_vertex_rules slot buffer offset size
setting_rules limits extent (set_index_buffer buffer format offset size) = index_rules buffer format offset (size_or_rest buffer offset size)
setting_rules limits extent (set_viewport viewport) = viewport_rules limits viewport
setting_rules limits extent (set_scissor x y width height) = scissor_rules extent x y width height
setting_rules limits extent set_unread = []

-- the rules of a draw, by what is drawn: of a draw 350 and 351; of a drawIndexed 350, 352, 419, 353 and 351; of a drawIndirect
-- those of its buffer and 350; of a drawIndexedIndirect those of its buffer, 350, 352 and 419
abbrev pub running_rules : RenderSet → Running HandleValue → List Rule
running_rules render (dispatch x y z) = []
running_rules render (dispatch_indirect buffer offset) = []
running_rules render (draw vertices instances first_vertex first_instance) = draw_rules render (first_vertex + vertices) (first_instance + instances)
running_rules render (draw_indexed indices instances first_index first_instance) = draw_indexed_rules render first_index indices (first_instance + instances)
running_rules render (draw_indirect buffer offset) = draw_indirect_rules render buffer offset
running_rules render (draw_indexed_indirect buffer offset) = draw_indexed_indirect_rules render buffer offset

-- the rules of what a command is to a render pass or a bundle encoder: what it sets, draws, asks or executes
abbrev pub drawing_rules_by : CommandLimits → RenderSet → Act HandleValue → List Rule
drawing_rules_by limits render (begins begin) = []
drawing_rules_by limits render (sets setting) = setting_rules limits render.extent setting
drawing_rules_by limits render (runs running) = running_rules render running
drawing_rules_by limits render (occludes call) = occlusion_rules render.queries render.occlusion (Some call)
drawing_rules_by limits render (executes bundles) = execute_rules render.targets bundles
drawing_rules_by limits render neither = []

-- the rules of what a command sets, draws, asks or executes in a render pass or a bundle
abbrev pub drawing_rules : CommandLimits → RenderSet → Command → List Rule
drawing_rules limits render command = drawing_rules_by limits render (act command)

-- the end of a render pass (WebGPU, "end"): 404 it draws no more often than it may, where that is given
abbrev pub most_draws_rules : Option ℕ → ℕ → List Rule
most_draws_rules None draws = []
most_draws_rules (Some most) draws = (DRAWS_ARE_WITHIN_MAXIMUM, nat_le draws most) ∷ []

-- the rule of how often a pass draws, by what a command opens or closes
abbrev pub draws_rules_by : Option ℕ → ℕ → Bracket → List Rule
draws_rules_by most draws brackets.BeginComputePass = []
draws_rules_by most draws brackets.BeginRenderPass = []
draws_rules_by most draws brackets.EndPass = most_draws_rules most draws
draws_rules_by most draws brackets.PushGroup = []
draws_rules_by most draws brackets.PopGroup = []
draws_rules_by most draws brackets.Neither = []

-- the rule of the end of a render pass: 404 it draws no more often than it may
abbrev pub draws_rules : Option ℕ → ℕ → Command → List Rule
draws_rules most draws command = draws_rules_by most draws (bracket command)

-- the rules of a command of a render pass or on a bundle encoder, over what is set, but for those on the objects that it
-- names: of debug groups, of the end, 310, then 311 and then 404, of a pipeline that is set, of a group that is set, and of
-- buffers, viewports, draws, queries and bundles
abbrev pub render_rules : CommandLimits → RenderSet → Command → List Rule
render_rules limits render command =
    debug_rules render.set.depth command
    ++ (end_rules render.set.depth command
    ++ (pass_end_rules render.occlusion.active command
    ++ (draws_rules render.most render.draws command
    ++ (pipeline_given_rules render.targets (pipeline_given command)
    ++ (given_rules command ++ drawing_rules limits render command)))))

-- the whole pass is one step, which its end completes
abbrev pub render_does_by : RenderSet → Bracket → Option Doing
render_does_by render brackets.BeginComputePass = None
render_does_by render brackets.BeginRenderPass = None
render_does_by render brackets.EndPass = Some (name.RenderPass, render.touches)
render_does_by render brackets.PushGroup = None
render_does_by render brackets.PopGroup = None
render_does_by render brackets.Neither = None

-- what a command of a render pass does: the end makes the pass's one step, which touches its attachments and what its commands
-- touch, and no other command makes a step
unfoldable pub render_does : RenderSet → Command → Option Doing
render_does render command = render_does_by render (bracket command)
