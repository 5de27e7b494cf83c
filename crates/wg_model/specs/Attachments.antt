-- The attachments of render passes (WebGPU, "Render Pass Encoder Creation" and "Render Pass Attachments"): the rules of the
-- begin, to what the pass draws, and what the attachments touch. Also WebGPU, "Color Attachments", "Depth/Stencil
-- Attachments", "Load & Store Operations", "Render Pass Layout".
use Rattle.std.specs.Prelude.{ℕ, ◌+◌, ◌==◌, nat_le, nat_lt, Bool, true, false, not, ◌&&◌, ◌||◌, List, [], ◌∷◌, ◌++◌, map, Option, Some, None, is_some, unwrap_or, option_map, length, if◌then◌else◌}
use Rattle.std.specs.List.{list_all, list_any, flat_map}
use Rattle.std.specs.Option.{option_map_or, option_to_list}
use Rattle.wg_rules.specs.declared.TheConstants.{PASS_COLORS_ARE_WITHIN_LIMIT, PASS_HAS_ATTACHMENT, COLOR_VIEWS_ARE_RENDERABLE, DEPTH_VIEW_IS_RENDERABLE, DEPTH_OPERATIONS_FIT_FORMAT, ATTACHMENTS_AGREE_IN_EXTENT_AND_SAMPLES, NOTHING_IS_ATTACHED_TWICE, RESOLVE_VIEWS_FIT_COLORS, DEPTH_SLICES_FIT_VIEWS, DEPTH_CLEAR_VALUE_IS_IN_RANGE, SAMPLE_BYTES_ARE_WITHIN_LIMIT}
use Rattle.wg_types.specs.Handles.{HandleValue}
use Rattle.wg_types.specs.Commands.{Command, render_begun}
use Rattle.wg_types.specs.Formats.{row, same_format}
use Rattle.wg_types.specs.Textures.{width, height, depth}
use Rattle.wg_types.specs.declared.formats.Format.{Format}
use Rattle.wg_types.specs.declared.handles.Info.{Info}
use Rattle.wg_types.specs.declared.handles.Info.TheVariants as info
use Rattle.wg_trace.specs.declared.parts.Aspect.{Aspect}
use Rattle.wg_trace.specs.declared.parts.Aspect.TheVariants as aspect
use Rattle.wg_types.specs.declared.textures.AspectWord.TheVariants.{All}
use Rattle.wg_types.specs.declared.textures.ViewDim.{ViewDim}
use Rattle.wg_types.specs.declared.textures.ViewDim.TheVariants.{One, Two, TwoArray, Cube, CubeArray, Three}
use Rattle.wg_types.specs.declared.textures.ViewInfo.{ViewInfo}
use Rattle.wg_types.specs.declared.render.LoadOp.{LoadOp}
use Rattle.wg_types.specs.declared.render.LoadOp.TheVariants.{Load, Clear}
use Rattle.wg_types.specs.declared.render.StoreOp.{StoreOp}
use Rattle.wg_types.specs.declared.render.StoreOp.TheVariants.{Store, Discard}
use Rattle.wg_types.specs.declared.render.ColorTargetOf.{ColorTargetOf}
use Rattle.wg_types.specs.declared.render.DepthTargetOf.{DepthTargetOf}
use Rattle.wg_types.specs.declared.render.RenderBeginOf.{RenderBeginOf}
use Rattle.wg_types.specs.declared.render.TargetInfo.{TargetInfo}
use Rattle.wg_types.specs.declared.limits.CommandLimits.{CommandLimits}
use Rattle.wg_rows.specs.Runs.{Cells, Bytes, Layers, Slices, Queries}
use Rattle.wg_rows.specs.Uses.{Usages, AccessKind, Read, Write, Both, Drop, ReadDrop}
use Rattle.wg_model.specs.Rules.{Rule}
use Rattle.wg_model.specs.Equality.{same_bool}
use Rattle.wg_model.specs.Buffers.{has_usage}
use Rattle.wg_model.specs.Formats.{is_color, has_depth, has_stencil, named_aspects}
use Rattle.wg_model.specs.Textures.{render_attachment, extent}
use Rattle.wg_model.specs.Subresources.{views_meet, view_cells}
use Rattle.wg_model.specs.Making.{no_view}
use Rattle.wg_model.specs.SampleBytes.{sample_fits}
use Rattle.wg_model.specs.Touches.{Touch}

-- the attachments with which a command over handles begins a render pass
abbrev pub RenderBegin : Type 0
RenderBegin = RenderBeginOf HandleValue

-- a color attachment over handles
abbrev pub ColorTarget : Type 0
ColorTarget = ColorTargetOf HandleValue

-- a depth attachment over handles
abbrev pub DepthTarget : Type 0
DepthTarget = DepthTargetOf HandleValue

-- what is known of a view, if it is one
abbrev pub view_in : Info → Option ViewInfo
view_in (info.Buffer known) = None
view_in (info.Texture known) = None
view_in (info.View known) = Some known
view_in (info.Sampler known) = None
view_in (info.GroupLayout known) = None
view_in (info.PipelineLayout known) = None
view_in (info.Group known) = None
view_in (info.Compute known) = None
view_in (info.Render known) = None
view_in (info.Queries known) = None
view_in info.Encoder = None
view_in (info.BundleEncoder known) = None
view_in info.CommandBuffer = None
view_in (info.Bundle known) = None

-- what a handle knows of a view, which of an invalid one is nothing
abbrev pub attached_view : HandleValue → Option ViewInfo
attached_view handle = if handle.valid then view_in handle.info else None

-- what is known of a view that is attached, where rules 10 and 12 have found a valid one, and else a view of nothing
abbrev pub attachment_of : HandleValue → ViewInfo
attachment_of handle = unwrap_or (attached_view handle) no_view

-- Lists of attachments: those that are not left out, and the views of all.

-- the color attachments that are not left out
abbrev pub colors_given : RenderBegin → List ColorTarget
colors_given begin = flat_map (λ (color : Option ColorTarget). option_to_list color) begin.colors

-- what is known of the view of a depth attachment
abbrev pub depth_view : DepthTarget → ViewInfo
depth_view target = attachment_of target.view

-- what is known of the view of a color attachment
abbrev pub color_view : ColorTarget → ViewInfo
color_view target = attachment_of target.view

-- the views to which a pass draws
abbrev pub drawn_views : RenderBegin → List ViewInfo
drawn_views begin = map color_view (colors_given begin) ++ option_to_list (option_map depth_view begin.depth)

-- A view that is attached, with the one slice of it that is, if one is given; else all of it is.
abbrev pub Attached : Type 0
Attached = ViewInfo × Option ℕ

-- a view that is attached as a whole
abbrev pub attached_whole : ViewInfo → Attached
attached_whole view = (view, None)

-- a color attachment's own view, of a 3d one the slice that is given
abbrev pub color_attached : ColorTarget → Attached
color_attached target = (color_view target, target.depth_slice)

-- the views of a color attachment: its own, and that to which it is resolved
abbrev pub target_views : ColorTarget → List Attached
target_views target = color_attached target ∷ option_to_list (option_map (λ (resolve : HandleValue). attached_whole (attachment_of resolve)) target.resolve)

-- all views that are attached
abbrev pub attached_views : RenderBegin → List Attached
attached_views begin =
    flat_map target_views (colors_given begin) ++ option_to_list (option_map (λ (target : DepthTarget). attached_whole (depth_view target)) begin.depth)

-- What a view has to be that is drawn to: of a texture with RENDER_ATTACHMENT, of dimension 2d or 2d-array, or for colors 3d,
-- with one mip level and one layer.

-- whether a dimension is 2d or 2d-array
abbrev pub is_flat : ViewDim → Bool
is_flat One = false
is_flat Two = true
is_flat TwoArray = true
is_flat Cube = false
is_flat CubeArray = false
is_flat Three = false

-- whether a dimension is 3d
abbrev pub is_deep : ViewDim → Bool
is_deep One = false
is_deep Two = false
is_deep TwoArray = false
is_deep Cube = false
is_deep CubeArray = false
is_deep Three = true

-- whether a view can be drawn to: its texture has RENDER_ATTACHMENT, and it has one mip level and one layer
abbrev pub is_renderable : ViewInfo → Bool
is_renderable view = has_usage view.texture_info.usage render_attachment && (view.mips == 1 && view.layers == 1)

-- whether a view can be a color attachment: it can be drawn to, is 2d, 2d-array or 3d, and has a color format
abbrev pub color_fits : ViewInfo → Bool
color_fits view = is_renderable view && ((is_flat view.dim || is_deep view.dim) && is_color view.texture_info.format)

-- whether a slice is given exactly where the view is 3d, and is one of its mip level
abbrev pub slice_fits : Attached → Bool
slice_fits (view, None) = not (is_deep view.dim)
slice_fits (view, Some slice) = is_deep view.dim && nat_lt slice (depth (extent view.texture_info view.base_mip))

-- whether a view has all aspects of its texture's format
abbrev pub has_all_aspects : ViewInfo → Bool
has_all_aspects view =
    length (named_aspects view.aspect (row view.texture_info.format).aspects) == length (named_aspects All (row view.texture_info.format).aspects)

-- whether a view can be the depth attachment: it can be drawn to, is 2d or 2d-array, and has all aspects of a format with
-- depth or stencil
abbrev pub depth_attachment_fits : ViewInfo → Bool
depth_attachment_fits view = is_renderable view && (is_flat view.dim && (not (is_color view.texture_info.format) && has_all_aspects view))

-- whether what is attached is cleared as its pass begins
abbrev pub is_cleared : Option LoadOp → Bool
is_cleared None = false
is_cleared (Some Load) = false
is_cleared (Some Clear) = true

-- whether load and store of an aspect are given exactly where they are wanted
abbrev pub ops_fit : Bool → Option LoadOp → Option StoreOp → Bool
ops_fit wanted load store = same_bool (is_some load) wanted && same_bool (is_some store) wanted

-- whether load and store of depth and of stencil are given exactly where the format has the aspect and it is not only read
abbrev pub depth_ops_fit : DepthTarget → Bool
depth_ops_fit target =
    ops_fit (has_depth (row (depth_view target).texture_info.format).aspects && not target.depth_read_only) target.depth_load target.depth_store
    && ops_fit (has_stencil (row (depth_view target).texture_info.format).aspects && not target.stencil_read_only) target.stencil_load target.stencil_store

-- whether a value to which depth is cleared is given, and is at most 1, where 1 stands as 65536
abbrev pub clear_value_fits : Option ℕ → Bool
clear_value_fits None = false
clear_value_fits (Some value) = nat_le value 65536

-- whether depth is not cleared, or to a value in range
abbrev pub depth_clear_fits : DepthTarget → Bool
depth_clear_fits target = not (is_cleared target.depth_load) || clear_value_fits target.depth_clear

-- the width of a view: that of its first mip level
abbrev pub view_width : ViewInfo → ℕ
view_width view = width (extent view.texture_info view.base_mip)

-- the height of a view: that of its first mip level
abbrev pub view_height : ViewInfo → ℕ
view_height view = height (extent view.texture_info view.base_mip)

-- whether two views have the same width and height
abbrev pub same_extent : ViewInfo → ViewInfo → Bool
same_extent a b = view_width a == view_width b && view_height a == view_height b

-- whether two views are of one extent and one count of samples
abbrev pub are_alike : ViewInfo → ViewInfo → Bool
are_alike a b = same_extent a b && a.texture_info.samples == b.texture_info.samples

-- whether all views are of one extent and one count of samples
abbrev pub all_alike : List ViewInfo → Bool
all_alike [] = true
all_alike (view ∷ views) = list_all (are_alike view) views

-- whether two attachments of one 3D texture may have a slice in common
abbrev pub slices_meet : Option ℕ → Option ℕ → Bool
slices_meet (Some slice) (Some other) = slice == other
slices_meet _ _ = true

-- Whether two attachments have a cell in common: their views have a subresource in common, and of that no two slices.
abbrev pub attached_meet : Attached → Attached → Bool
attached_meet a b = views_meet a.0 b.0 && slices_meet a.1 b.1

-- whether no cell is in two of the attachments
abbrev pub attached_are_apart : List Attached → Bool
attached_are_apart [] = true
attached_are_apart (view ∷ views) = not (list_any (attached_meet view) views) && attached_are_apart views

-- whether a view of 4 samples may be resolved to another: to one of 1 sample that can be drawn to and is 2d or 2d-array, of the
-- same format and extent
abbrev pub resolves_to : ViewInfo → ViewInfo → Bool
resolves_to view target =
    view.texture_info.samples == 4
    && (target.texture_info.samples == 1
    && (color_fits target
    && (is_flat target.dim
    && (same_format view.texture_info.format target.texture_info.format && same_extent view target))))

-- whether a color attachment may be resolved to the view that is given for it, if one is
abbrev pub resolve_fits : ColorTarget → Bool
resolve_fits target = option_map_or (λ (resolve : HandleValue). resolves_to (color_view target) (attachment_of resolve)) target.resolve true

-- the formats of the color attachments of a pass, of which some may be left out
abbrev pub colors_drawn : RenderBegin → List (Option Format)
colors_drawn begin = map (option_map (λ (target : ColorTarget). (color_view target).texture_info.format)) begin.colors

-- how many color attachments there may be
abbrev pub most_colors : ℕ
most_colors = 8

-- beginRenderPass: 300 there are no more color attachments than may be, those left out too; 301 some attachment is given; 302
-- each color view can be drawn to, is 2d, 2d-array or 3d, and has a color format; 308 a slice is given exactly where a color
-- view is 3d, and is below the depth of its mip level; 303 the depth view can be drawn to, is 2d or 2d-array, and has a depth or
-- stencil format and all its aspects; 304 load and store of depth and of stencil are given exactly where the format has it and
-- it is not only read; 418 depth that is cleared is cleared to a value that is given and in range; 305 extents and counts of
-- samples are equal; 306 no cell is attached twice, resolve targets included; 307 what is resolved goes to a view that will do; 411
-- a sample of all colors takes no more bytes than may be, where that limit was asked for.
unfoldable pub begin_rules : CommandLimits → RenderBegin → List Rule
begin_rules limits begin =
    (PASS_COLORS_ARE_WITHIN_LIMIT, nat_le (length begin.colors) most_colors)
    ∷ ((PASS_HAS_ATTACHMENT, list_any (λ (color : Option ColorTarget). is_some color) begin.colors || is_some begin.depth)
    ∷ ((COLOR_VIEWS_ARE_RENDERABLE, list_all (λ (target : ColorTarget). color_fits (color_view target)) (colors_given begin))
    ∷ ((DEPTH_SLICES_FIT_VIEWS, list_all (λ (target : ColorTarget). slice_fits (color_attached target)) (colors_given begin))
    ∷ ((DEPTH_VIEW_IS_RENDERABLE, option_map_or (λ (target : DepthTarget). depth_attachment_fits (depth_view target)) begin.depth true)
    ∷ ((DEPTH_OPERATIONS_FIT_FORMAT, option_map_or depth_ops_fit begin.depth true)
    ∷ ((DEPTH_CLEAR_VALUE_IS_IN_RANGE, option_map_or depth_clear_fits begin.depth true)
    ∷ ((ATTACHMENTS_AGREE_IN_EXTENT_AND_SAMPLES, all_alike (drawn_views begin))
    ∷ ((NOTHING_IS_ATTACHED_TWICE, attached_are_apart (attached_views begin))
    ∷ ((RESOLVE_VIEWS_FIT_COLORS, list_all resolve_fits (colors_given begin))
    ∷ ((SAMPLE_BYTES_ARE_WITHIN_LIMIT, sample_fits limits.max_color_attachment_bytes_per_sample (colors_drawn begin))
    ∷ []))))))))))

-- the begin of a pass with no attachments
abbrev pub no_begin : RenderBegin
no_begin = record { colors = []; depth = None; queries = None; max_draws = None }

-- the attachments with which a command begins a render pass, or none where it begins none
abbrev pub begin_of : Command → RenderBegin
begin_of command = unwrap_or (render_begun command) no_begin

-- the rules of the attachments with which a command begins a render pass, or none where it begins none
abbrev pub begun_rules : CommandLimits → Command → List Rule
begun_rules limits command = option_map_or (begin_rules limits) (render_begun command) []

-- the count of samples to which a pass draws: that of the first view, which all of them have
abbrev pub samples_of : List ViewInfo → ℕ
samples_of [] = 1
samples_of (view ∷ views) = view.texture_info.samples

-- the width and the height of what is attached to a pass: those of the first view, which all of them have
abbrev pub extent_of : List ViewInfo → ℕ × ℕ
extent_of [] = (0, 0)
extent_of (view ∷ views) = (view_width view, view_height view)

-- to what a pass draws: the formats and samples of its attachments, and whether depth and stencil are only read
abbrev pub targets_of : RenderBegin → TargetInfo
targets_of begin = record {
  colors = colors_drawn begin;
  depth = option_map (λ (target : DepthTarget). (depth_view target).texture_info.format) begin.depth;
  samples = samples_of (drawn_views begin);
  depth_read_only = option_map_or (λ (target : DepthTarget). target.depth_read_only) begin.depth false;
  stencil_read_only = option_map_or (λ (target : DepthTarget). target.stencil_read_only) begin.depth false;
}

-- What attachments touch: the cells of their views, or one slice of a 3d view.

-- the usage attachment
abbrev pub attachment_usage : Usages
attachment_usage = record { 0 = 16 }

-- the usage attachment-read
abbrev pub attachment_read_usage : Usages
attachment_read_usage = record { 0 = 32 }

-- the cells of the view of a handle, if it is valid
abbrev pub handle_cells : HandleValue → List Cells
handle_cells handle = option_map_or view_cells (attached_view handle) []

-- one slice of what are slices, if one is given
abbrev pub sliced : Option ℕ → Cells → Cells
sliced (Some slice) (Slices object mip lo hi) = Slices object mip slice (slice + 1)
sliced _ cells = cells

-- the cells of a color attachment: those of its view, or of the one slice that is given
abbrev pub color_cells : ColorTarget → List Cells
color_cells target = map (sliced target.depth_slice) (handle_cells target.view)

-- how an attachment is accessed: read where it is loaded, and left unset where it is discarded
abbrev pub attach_kind : LoadOp → StoreOp → AccessKind
attach_kind Load Store = Both
attach_kind Clear Store = Write
attach_kind Load Discard = ReadDrop
attach_kind Clear Discard = Drop

-- a touch of cells in some way
abbrev pub attached : Usages × AccessKind → Cells → Touch
attached how cells = (cells, how)

-- a resolve target is written
abbrev pub resolve_touches : Option HandleValue → List Touch
resolve_touches None = []
resolve_touches (Some view) = map (attached (attachment_usage, Write)) (handle_cells view)

-- what a color attachment touches, if it is not left out: its cells by load and store, and those to which it is resolved
abbrev pub color_touches : Option ColorTarget → List Touch
color_touches None = []
color_touches (Some target) = map (attached (attachment_usage, attach_kind target.load target.store)) (color_cells target) ++ resolve_touches target.resolve

-- how an aspect is accessed: it is read alone, or as its load and store say, which rule 304 asks for there
abbrev pub aspect_how : Bool → Option LoadOp → Option StoreOp → Usages × AccessKind
aspect_how true load store = (attachment_read_usage, Read)
aspect_how false load store = (attachment_usage, attach_kind (unwrap_or load Load) (unwrap_or store Store))

-- how an aspect of the depth attachment is used and accessed
abbrev pub depth_how : DepthTarget → Aspect → Usages × AccessKind
depth_how target aspect.Color = aspect_how target.depth_read_only target.depth_load target.depth_store
depth_how target aspect.Depth = aspect_how target.depth_read_only target.depth_load target.depth_store
depth_how target aspect.Stencil = aspect_how target.stencil_read_only target.stencil_load target.stencil_store

-- the aspect of some cells, which of all but layers is color
abbrev pub cells_aspect : Cells → Aspect
cells_aspect (Bytes object lo hi) = aspect.Color
cells_aspect (Layers object of mip lo hi) = of
cells_aspect (Slices object mip lo hi) = aspect.Color
cells_aspect (Queries object lo hi) = aspect.Color

-- what the depth attachment touches of some cells, by their aspect
abbrev pub depth_touch : DepthTarget → Cells → Touch
depth_touch target cells = attached (depth_how target (cells_aspect cells)) cells

-- what the depth attachment touches, if there is one
abbrev pub depth_touches : Option DepthTarget → List Touch
depth_touches None = []
depth_touches (Some target) = map (depth_touch target) (handle_cells target.view)

-- what the attachments of a pass touch, the colors first
unfoldable pub targets_touches : RenderBegin → List Touch
targets_touches begin = flat_map color_touches begin.colors ++ depth_touches begin.depth
