-- Render bundles (WebGPU, "Bundles"): the rules of createBundleEncoder, what is known of a bundle, and what one touches that
-- is executed. Also WebGPU, "createRenderBundleEncoder", "executeBundles", "GPURenderBundle".
use Rattle.std.specs.Prelude.{ℕ, ◌==◌, nat_le, Bool, true, not, ◌&&◌, ◌||◌, List, [], ◌∷◌, ◌++◌, map, Option, Some, None, is_some, length, if◌then◌else◌}
use Rattle.std.specs.List.{list_all, list_any, flat_map, filter}
use Rattle.std.specs.Option.{option_map_or}
use Rattle.wg_rules.specs.declared.TheConstants.{BUNDLE_FORMATS_FIT, BUNDLE_HAS_TARGET, BUNDLE_SAMPLES_ARE_ALLOWED, SAMPLE_BYTES_ARE_WITHIN_LIMIT}
use Rattle.wg_types.specs.Handles.{HandleValue}
use Rattle.wg_types.specs.Commands.{Command, named}
use Rattle.wg_types.specs.declared.commands.On.{On}
use Rattle.wg_types.specs.declared.formats.Format.{Format}
use Rattle.wg_types.specs.declared.handles.ObjRef.{ObjRef}
use Rattle.wg_types.specs.declared.handles.Info.{Info}
use Rattle.wg_types.specs.declared.handles.Info.TheVariants as info
use Rattle.wg_types.specs.declared.limits.Limits.{Limits}
use Rattle.wg_types.specs.declared.render.TargetInfo.{TargetInfo}
use Rattle.wg_types.specs.declared.bundles.BundleInfo.{BundleInfo}
use Rattle.wg_types.specs.declared.bundles.BundleTouch.{BundleTouch}
use Rattle.wg_types.specs.declared.bundles.BundleUse.{BundleUse}
use Rattle.wg_types.specs.declared.bundles.BundleUse.TheVariants.{Input, Constant, StorageRead, Storage}
use Rattle.wg_trace.specs.declared.steps.Deed.{Deed}
use Rattle.wg_trace.specs.declared.steps.StepName.TheVariants as name
use Rattle.wg_types.specs.declared.wanted.Wanted.{Wanted}
use Rattle.wg_rows.specs.Runs.{PartRun, BufferPart, LayerParts, QueryPart, Cells, Bytes, Layers, Slices, Queries}
use Rattle.wg_rows.specs.Uses.{Usages, AccessKind, Read, Both, same_kind}
use Rattle.wg_rows.specs.Sets.{UseRow}
use Rattle.wg_model.specs.Rules.{Rule}
use Rattle.wg_model.specs.Formats.{is_color}
use Rattle.wg_model.specs.RenderPipelines.{passes, is_multisampled, samples_fit}
use Rattle.wg_model.specs.SampleBytes.{sample_fits}
use Rattle.wg_model.specs.Touches.{Touch, deed_of, input_usage, constant_usage, storage_usage, storage_read_usage}

-- createBundleEncoder (WebGPU, "createRenderBundleEncoder"): 175 there are no more colors than may be, those left out too, all
-- have color formats, and the depth format has depth or stencil; 176 some color is given, or depth; 177 there are 1 or 4 samples,
-- and with 4 all formats allow that; 411 a sample of all colors takes no more bytes than may be, where that limit was asked for.
abbrev pub bundle_target_rules : Limits → TargetInfo → List Rule
bundle_target_rules limits targets = (
  BUNDLE_FORMATS_FIT,
  nat_le (length targets.colors) limits.max_color_attachments
      && (list_all (passes is_color) targets.colors && option_map_or (λ (format : Format). not (is_color format)) targets.depth true),
)
    ∷ ((BUNDLE_HAS_TARGET, list_any (λ (color : Option Format). is_some color) targets.colors || is_some targets.depth)
    ∷ ((BUNDLE_SAMPLES_ARE_ALLOWED, samples_fit targets.samples targets.colors (option_map_or is_multisampled targets.depth true))
    ∷ ((SAMPLE_BYTES_ARE_WITHIN_LIMIT, sample_fits limits.max_color_attachment_bytes_per_sample targets.colors)
    ∷ [])))

-- what is known of a bundle, if it is one
abbrev pub bundle_in : Info → Option BundleInfo
bundle_in (info.Buffer known) = None
bundle_in (info.Texture known) = None
bundle_in (info.View known) = None
bundle_in (info.Sampler known) = None
bundle_in (info.GroupLayout known) = None
bundle_in (info.PipelineLayout known) = None
bundle_in (info.Group known) = None
bundle_in (info.Compute known) = None
bundle_in (info.Render known) = None
bundle_in (info.Queries known) = None
bundle_in info.Encoder = None
bundle_in (info.BundleEncoder known) = None
bundle_in info.CommandBuffer = None
bundle_in (info.Bundle known) = Some known

-- what a handle knows of a bundle, which of an invalid one is nothing
abbrev pub known_bundle : HandleValue → Option BundleInfo
known_bundle handle = if handle.valid then bundle_in handle.info else None

-- What a bundle touches counts in each pass that executes it, used and accessed as in the bundle itself.
abbrev pub bundle_how : BundleUse → Usages × AccessKind
bundle_how Input = (input_usage, Read)
bundle_how Constant = (constant_usage, Read)
bundle_how StorageRead = (storage_read_usage, Read)
bundle_how Storage = (storage_usage, Both)

-- what a pass touches that executes a bundle, by one of what the bundle touches
abbrev pub bundle_touch : BundleTouch → Touch
bundle_touch touch = (touch.cells, bundle_how touch.used)

-- all that a pass touches by executing a bundle, if it is one
abbrev pub known_touches : Option BundleInfo → List Touch
known_touches None = []
known_touches (Some bundle) = map bundle_touch bundle.touches

-- what bundles touch that are executed
abbrev pub executed_touches : List HandleValue → List Touch
executed_touches bundles = flat_map (λ bundle. known_touches (known_bundle bundle)) bundles

-- What is known of the touches of a bundle: for each way of use those of that way, in printed form. A buffer that is used has a
-- run without bytes, so that it counts as used also where none of them is accessed; of a texture a layer or slice that is used
-- is accessed as well.

-- whether a touch is used and accessed as one of the four ways of use has it
abbrev pub is_used_so : BundleUse → Touch → Bool
is_used_so used touch = touch.1.0.0 == (bundle_how used).0.0 && same_kind touch.1.1 (bundle_how used).1

-- no cell of a run of parts: what is told where a part is used and none of its cells is accessed
abbrev pub no_cells : PartRun → Cells
no_cells (BufferPart object) = Bytes object 0 0
no_cells (LayerParts object aspect mip lo hi) = Layers object aspect mip 0 0
no_cells (QueryPart object) = Queries object 0 0

-- what is told of a run of parts that a bundle uses in one way
abbrev pub part_touched : BundleUse → UseRow → BundleTouch
part_touched used row = record { cells = no_cells row.0; used = used }

-- what is told of a run of cells that a bundle accesses in one way
abbrev pub cells_touched : BundleUse → Cells × AccessKind → BundleTouch
cells_touched used row = record { cells = row.0; used = used }

-- what is told of a deed of one way of use: its parts, without cells, and then its cells
abbrev pub touched_by : BundleUse → Deed → List BundleTouch
touched_by used deed = map (part_touched used) deed.uses ++ map (cells_touched used) deed.accesses

-- what is told of those touches that are of one way of use, in printed form
abbrev pub touched_so : BundleUse → List Touch → List BundleTouch
touched_so used touches = touched_by used (deed_of (name.RenderPass, filter (is_used_so used) touches))

-- what is known of the touches of a bundle: those of each way of use, in printed form
unfoldable pub bundle_touches : List Touch → List BundleTouch
bundle_touches touches = touched_so Input touches ++ (touched_so Constant touches ++ (touched_so StorageRead touches ++ touched_so Storage touches))

-- the objects that recorded commands name, as they come
abbrev pub references_within : List (On × Command) → List ObjRef
references_within commands = flat_map (λ (kept : On × Command). map (λ (object : HandleValue × Wanted). object.0.reference) (named kept.1)) commands

-- the buffer of some cells, if they are of one
abbrev pub buffer_in : Cells → List ℕ
buffer_in (Bytes object lo hi) = object ∷ []
buffer_in (Layers object aspect mip lo hi) = []
buffer_in (Slices object mip lo hi) = []
buffer_in (Queries object lo hi) = []

-- the texture of some cells, if they are of one
abbrev pub texture_in : Cells → List ℕ
texture_in (Bytes object lo hi) = []
texture_in (Layers object aspect mip lo hi) = object ∷ []
texture_in (Slices object mip lo hi) = object ∷ []
texture_in (Queries object lo hi) = []

-- the query set of some cells, if they are of one
abbrev pub query_set_in : Cells → List ℕ
query_set_in (Bytes object lo hi) = []
query_set_in (Layers object aspect mip lo hi) = []
query_set_in (Slices object mip lo hi) = []
query_set_in (Queries object lo hi) = object ∷ []

-- the resources of a sort that a bundle uses, if it is one: those of what it touches
abbrev pub in_bundle : (Cells → List ℕ) → Option BundleInfo → List ℕ
in_bundle which None = []
in_bundle which (Some bundle) = flat_map (λ (touch : BundleTouch). which touch.cells) bundle.touches
