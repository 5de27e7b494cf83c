-- The tests of what is bound, and of infos, tell whether they are equal.
use Rattle.std.proofs.Common.{◌≡◌, ℕ, ◌==◌, Bool, List, [], ◌∷◌, Option, Some, None, refl, ap, ap₂, sym, ◌∙◌, if◌then◌else◌}
use Rattle.std.specs.Prelude.{Decides}
use Rattle.std.proofs.lemmas.Bool.{and_parts, and_from}
use Rattle.std.proofs.lemmas.Bool.Decides.{Decides-and, Decides-like}
use Rattle.wg_types.specs.Formats.{same_format}
use Rattle.wg_types.specs.Textures.{same_view}
use Rattle.wg_types.specs.declared.handles.ObjRef.{ObjRef}
use Rattle.wg_types.specs.declared.formats.Format.{Format}
use Rattle.wg_types.specs.declared.bindings.Stage.{Stage}
use Rattle.wg_types.specs.declared.bindings.Stage.TheVariants as stage
use Rattle.wg_types.specs.declared.bindings.BindingKind.{BindingKind}
use Rattle.wg_types.specs.declared.bindings.LayoutEntry.{LayoutEntry}
use Rattle.wg_types.specs.declared.bindings.IfaceEntry.{IfaceEntry}
use Rattle.wg_types.specs.declared.bindings.BoundResource.{BoundResource}
use Rattle.wg_types.specs.declared.bindings.BoundResource.TheVariants as bound
use Rattle.wg_types.specs.declared.bindings.BoundEntry.{BoundEntry}
use Rattle.wg_types.specs.declared.groups.GroupLayoutInfo.{GroupLayoutInfo}
use Rattle.wg_types.specs.declared.groups.PipelineLayoutInfo.{PipelineLayoutInfo}
use Rattle.wg_types.specs.declared.groups.GroupInfo.{GroupInfo}
use Rattle.wg_types.specs.declared.groups.ComputeInfo.{ComputeInfo}
use Rattle.wg_types.specs.declared.groups.RenderInfo.{RenderInfo}
use Rattle.wg_types.specs.declared.fixed.Target.{Target}
use Rattle.wg_types.specs.declared.fixed.DepthState.{DepthState}
use Rattle.wg_types.specs.declared.fixed.PrimitiveState.{PrimitiveState}
use Rattle.wg_types.specs.declared.render.RenderDesc.{RenderDesc}
use Rattle.wg_types.specs.declared.render.TargetInfo.{TargetInfo}
use Rattle.wg_types.specs.declared.bundles.BundleInfo.{BundleInfo}
use Rattle.wg_types.specs.declared.bundles.BundleTouch.{BundleTouch}
use Rattle.wg_types.specs.declared.bundles.BundleUse.{BundleUse}
use Rattle.wg_types.specs.declared.bundles.BundleUse.TheVariants.{Input, Constant, StorageRead, Storage as StorageUse}
use Rattle.wg_rows.specs.Rows.{list_eq}
use Rattle.wg_rows.specs.Runs.{Cells, cell_line, cell_lo, cell_hi}
use Rattle.wg_rows.proofs.Put.{list_eq_true, list_eq_refl}
use Rattle.wg_rows.proofs.Told.{accesses_tell as cells_tell}
use Rattle.wg_types.specs.declared.vertex.VertexFormat.{VertexFormat}
use Rattle.wg_types.specs.declared.vertex.VertexFormat.TheVariants as vertex_format
use Rattle.wg_types.specs.declared.vertex.VertexStep.{VertexStep}
use Rattle.wg_types.specs.declared.vertex.VertexStep.TheVariants as vertex_step
use Rattle.wg_types.specs.declared.vertex.VertexAttribute.{VertexAttribute}
use Rattle.wg_types.specs.declared.vertex.VertexBuffer.{VertexBuffer}
use Rattle.wg_types.specs.declared.handles.Info.TheVariants.{Buffer, Texture, View, Sampler, GroupLayout, PipelineLayout, Group, Compute, Render, Queries, Encoder, BundleEncoder, CommandBuffer, Bundle}
use Rattle.wg_model.specs.Equality.{same_bool, same_list, same_owner, same_reference, same_buffer, stage_number, same_sampler, same_stage, same_binding_kind, same_layout_entry, same_iface_entry, same_bound_resource, same_bound_entry, same_group_layout, same_pipeline_layout, same_group, same_compute, vertex_format_number, vertex_step_number, same_attribute, same_vertex_buffer, same_option, same_target, same_primitive, same_depth_state, same_render_desc, same_render}
use Rattle.wg_history.specs.Infos.{same_target_info, same_cells, bundle_use_number, same_touch, same_bundle, SameInfoIs}
use Rattle.wg_formats.proofs.BindingKinds.{numbers_tell, words_tell, bools_tell, like_two, like_three, like_four, like_five, formats_tell, samplers_tell, binding_kinds_tell}
use Rattle.wg_history.proofs.Telling.{lists_tell, options_tell}
use Rattle.wg_history.proofs.FixedLaws.{targets_tell, primitives_tell, depth_states_tell}
use Rattle.wg_history.proofs.InfoLaws.{buffers_tell, queries_tell, textures_tell, references_tell, views_tell}

-- Words.
abbrev stage_at : ℕ → Stage
stage_at n = if n == 0 then stage.Vertex else if n == 1 then stage.Fragment else stage.Compute

stage_back : (s : Stage) → stage_at (stage_number s) ≡ s
stage_back stage.Vertex = refl
stage_back stage.Fragment = refl
stage_back stage.Compute = refl

stages_tell : (a b : Stage) → Decides (same_stage a b) (a ≡ b)
stages_tell a b = words_tell stage_number stage_at stage_back a b

-- Entries.
abbrev layout_entry_made : ℕ → ℕ → BindingKind → LayoutEntry
layout_entry_made n visibility kind = record { binding = n; visibility = visibility; kind = kind }

layout_entries_tell : (a b : LayoutEntry) → Decides (same_layout_entry a b) (a ≡ b)
layout_entries_tell a b =
    Decides-like _ (like_three layout_entry_made a.binding b.binding a.visibility b.visibility a.kind b.kind) (λ e. ((ap (λ (x : LayoutEntry). x.binding) e, ap (λ (x : LayoutEntry). x.visibility) e), ap (λ (x : LayoutEntry). x.kind) e))
    (Decides-and _ (same_binding_kind a.kind b.kind) (Decides-and (a.binding == b.binding) (a.visibility == b.visibility) (numbers_tell a.binding b.binding) (numbers_tell a.visibility b.visibility)) (binding_kinds_tell a.kind b.kind))

abbrev iface_entry_made : ℕ → ℕ → Stage → BindingKind → IfaceEntry
iface_entry_made group n stage kind = record { group = group; binding = n; stage = stage; kind = kind }

iface_entries_tell : (a b : IfaceEntry) → Decides (same_iface_entry a b) (a ≡ b)
iface_entries_tell a b =
    Decides-like _ (like_four iface_entry_made a.group b.group a.binding b.binding a.stage b.stage a.kind b.kind)
    (λ e. (((ap (λ (x : IfaceEntry). x.group) e, ap (λ (x : IfaceEntry). x.binding) e), ap (λ (x : IfaceEntry). x.stage) e), ap (λ (x : IfaceEntry). x.kind) e))
    (Decides-and _ (same_binding_kind a.kind b.kind)
    (Decides-and _ (same_stage a.stage b.stage)
    (Decides-and (a.group == b.group) (a.binding == b.binding) (numbers_tell a.group b.group) (numbers_tell a.binding b.binding))
    (stages_tell a.stage b.stage))
    (binding_kinds_tell a.kind b.kind))

resources_tell : (a b : BoundResource) → Decides (same_bound_resource a b) (a ≡ b)
resources_tell (bound.Buffer a info_a at_a size_a) (bound.Buffer b info_b at_b size_b) =
    Decides-like _ (like_four bound.Buffer a b info_a info_b at_a at_b size_a size_b) (λ e. (((cc, cc), cc), cc))
    (Decides-and _ (size_a == size_b)
    (Decides-and _ (at_a == at_b)
    (Decides-and (same_reference a b) (same_buffer info_a info_b) (references_tell a b) (buffers_tell info_a info_b))
    (numbers_tell at_a at_b))
    (numbers_tell size_a size_b))
resources_tell (bound.View a info_a) (bound.View b info_b) =
    Decides-like _ (like_two bound.View a b info_a info_b) (λ e. (cc, cc)) (Decides-and (same_reference a b) (same_view info_a info_b) (references_tell a b) (views_tell info_a info_b))
resources_tell (bound.Sampler a info_a) (bound.Sampler b info_b) =
    Decides-like _ (like_two bound.Sampler a b info_a info_b) (λ e. (cc, cc)) (Decides-and (same_reference a b) (same_sampler info_a info_b) (references_tell a b) (samplers_tell info_a info_b))
resources_tell _ _ = (λ e. absurd (cc), λ e. absurd (cc))

abbrev bound_entry_made : ℕ → BoundResource → BoundEntry
bound_entry_made n resource = record { binding = n; resource = resource }

bound_entries_tell : (a b : BoundEntry) → Decides (same_bound_entry a b) (a ≡ b)
bound_entries_tell a b =
    Decides-like _ (like_two bound_entry_made a.binding b.binding a.resource b.resource) (λ e. (ap (λ (x : BoundEntry). x.binding) e, ap (λ (x : BoundEntry). x.resource) e))
    (Decides-and (a.binding == b.binding) (same_bound_resource a.resource b.resource) (numbers_tell a.binding b.binding) (resources_tell a.resource b.resource))

-- Layouts, groups and pipelines.
owners_tell : (a b : Option ℕ) → Decides (same_owner a b) (a ≡ b)
owners_tell a b = options_tell (λ (m n : ℕ). m == n) numbers_tell a b

abbrev group_layout_made : List LayoutEntry → Option ℕ → Option ObjRef → GroupLayoutInfo
group_layout_made entries exclusive pipeline = record { entries = entries; exclusive = exclusive; pipeline = pipeline }

group_layouts_tell : (a b : GroupLayoutInfo) → Decides (same_group_layout a b) (a ≡ b)
group_layouts_tell a b =
    Decides-like _ (like_three group_layout_made a.entries b.entries a.exclusive b.exclusive a.pipeline b.pipeline)
    (λ e. ((ap (λ (x : GroupLayoutInfo). x.entries) e, ap (λ (x : GroupLayoutInfo). x.exclusive) e), ap (λ (x : GroupLayoutInfo). x.pipeline) e))
    (Decides-and _ (same_option same_reference a.pipeline b.pipeline)
    (Decides-and (same_list same_layout_entry a.entries b.entries) (same_owner a.exclusive b.exclusive) (lists_tell same_layout_entry layout_entries_tell a.entries b.entries) (owners_tell a.exclusive b.exclusive))
    (options_tell same_reference references_tell a.pipeline b.pipeline))

abbrev pipeline_layout_made : List ObjRef → List GroupLayoutInfo → PipelineLayoutInfo
pipeline_layout_made layouts layouts_info = record { layouts = layouts; layouts_info = layouts_info }

pipeline_layouts_tell : (a b : PipelineLayoutInfo) → Decides (same_pipeline_layout a b) (a ≡ b)
pipeline_layouts_tell a b =
    Decides-like _ (like_two pipeline_layout_made a.layouts b.layouts a.layouts_info b.layouts_info) (λ e. (ap (λ (x : PipelineLayoutInfo). x.layouts) e, ap (λ (x : PipelineLayoutInfo). x.layouts_info) e))
    (Decides-and (same_list same_reference a.layouts b.layouts) (same_list same_group_layout a.layouts_info b.layouts_info) (lists_tell same_reference references_tell a.layouts b.layouts) (lists_tell same_group_layout group_layouts_tell a.layouts_info b.layouts_info))

abbrev group_made : ObjRef → GroupLayoutInfo → List BoundEntry → GroupInfo
group_made layout layout_info entries = record { layout = layout; layout_info = layout_info; entries = entries }

groups_tell : (a b : GroupInfo) → Decides (same_group a b) (a ≡ b)
groups_tell a b =
    Decides-like _ (like_three group_made a.layout b.layout a.layout_info b.layout_info a.entries b.entries) (λ e. ((ap (λ (x : GroupInfo). x.layout) e, ap (λ (x : GroupInfo). x.layout_info) e), ap (λ (x : GroupInfo). x.entries) e))
    (Decides-and _ (same_list same_bound_entry a.entries b.entries)
    (Decides-and (same_reference a.layout b.layout) (same_group_layout a.layout_info b.layout_info) (references_tell a.layout b.layout) (group_layouts_tell a.layout_info b.layout_info))
    (lists_tell same_bound_entry bound_entries_tell a.entries b.entries))

abbrev compute_made : Option ObjRef → PipelineLayoutInfo → Bool → List IfaceEntry → ComputeInfo
compute_made layout layout_info auto entries = record { layout = layout; layout_info = layout_info; auto = auto; iface = record { entries = entries } }

computes_tell : (a b : ComputeInfo) → Decides (same_compute a b) (a ≡ b)
computes_tell a b =
    Decides-like _ (like_four compute_made a.layout b.layout a.layout_info b.layout_info a.auto b.auto a.iface.entries b.iface.entries)
    (λ e. (((ap (λ (x : ComputeInfo). x.layout) e, ap (λ (x : ComputeInfo). x.layout_info) e), ap (λ (x : ComputeInfo). x.auto) e), ap (λ (x : ComputeInfo). x.iface.entries) e))
    (Decides-and _ (same_list same_iface_entry a.iface.entries b.iface.entries)
    (Decides-and _ (same_bool a.auto b.auto)
    (Decides-and (same_option same_reference a.layout b.layout) (same_pipeline_layout a.layout_info b.layout_info) (options_tell same_reference references_tell a.layout b.layout) (pipeline_layouts_tell a.layout_info b.layout_info))
    (bools_tell a.auto b.auto))
    (lists_tell same_iface_entry iface_entries_tell a.iface.entries b.iface.entries))

-- Vertex buffers and render pipelines.
abbrev vertex_format_at : ℕ → VertexFormat
vertex_format_at n = if n == 0 then vertex_format.Uint8x2 else if n == 1 then vertex_format.Uint8x4 else if n == 2 then vertex_format.Unorm8x4 else if n == 3 then vertex_format.Uint16x2 else if n == 4 then vertex_format.Float16x2 else if n == 5 then vertex_format.Float32 else if n == 6 then vertex_format.Uint32 else if n == 7 then vertex_format.Sint32 else if n == 8 then vertex_format.Float16x4 else if n == 9 then vertex_format.Float32x2 else if n == 10 then vertex_format.Float32x3 else vertex_format.Float32x4

vertex_format_back : (f : VertexFormat) → vertex_format_at (vertex_format_number f) ≡ f
vertex_format_back vertex_format.Uint8x2 = refl
vertex_format_back vertex_format.Uint8x4 = refl
vertex_format_back vertex_format.Unorm8x4 = refl
vertex_format_back vertex_format.Uint16x2 = refl
vertex_format_back vertex_format.Float16x2 = refl
vertex_format_back vertex_format.Float32 = refl
vertex_format_back vertex_format.Uint32 = refl
vertex_format_back vertex_format.Sint32 = refl
vertex_format_back vertex_format.Float16x4 = refl
vertex_format_back vertex_format.Float32x2 = refl
vertex_format_back vertex_format.Float32x3 = refl
vertex_format_back vertex_format.Float32x4 = refl

abbrev vertex_step_at : ℕ → VertexStep
vertex_step_at n = if n == 0 then vertex_step.Vertex else vertex_step.Instance

vertex_step_back : (s : VertexStep) → vertex_step_at (vertex_step_number s) ≡ s
vertex_step_back vertex_step.Vertex = refl
vertex_step_back vertex_step.Instance = refl

abbrev attribute_made : VertexFormat → ℕ → ℕ → VertexAttribute
attribute_made format offset location = record { format = format; offset = offset; location = location }

attributes_tell : (a b : VertexAttribute) → Decides (same_attribute a b) (a ≡ b)
attributes_tell a b =
    Decides-like _ (like_three attribute_made a.format b.format a.offset b.offset a.location b.location) (λ e. ((ap (λ (x : VertexAttribute). x.format) e, ap (λ (x : VertexAttribute). x.offset) e), ap (λ (x : VertexAttribute). x.location) e))
    (Decides-and _ (a.location == b.location)
    (Decides-and (vertex_format_number a.format == vertex_format_number b.format) (a.offset == b.offset) (words_tell vertex_format_number vertex_format_at vertex_format_back a.format b.format) (numbers_tell a.offset b.offset))
    (numbers_tell a.location b.location))

abbrev vertex_buffer_made : ℕ → VertexStep → List VertexAttribute → VertexBuffer
vertex_buffer_made stride step attributes = record { stride = stride; step = step; attributes = attributes }

vertex_buffers_tell : (a b : VertexBuffer) → Decides (same_vertex_buffer a b) (a ≡ b)
vertex_buffers_tell a b =
    Decides-like _ (like_three vertex_buffer_made a.stride b.stride a.step b.step a.attributes b.attributes) (λ e. ((ap (λ (x : VertexBuffer). x.stride) e, ap (λ (x : VertexBuffer). x.step) e), ap (λ (x : VertexBuffer). x.attributes) e))
    (Decides-and _ (same_list same_attribute a.attributes b.attributes)
    (Decides-and (a.stride == b.stride) (vertex_step_number a.step == vertex_step_number b.step) (numbers_tell a.stride b.stride) (words_tell vertex_step_number vertex_step_at vertex_step_back a.step b.step))
    (lists_tell same_attribute attributes_tell a.attributes b.attributes))

-- a constructor of seven parts
like_seven : {A B C D E F G X : Type 0} (f : A → B → C → D → E → F → G → X) (a p : A) (b q : B) (c r : C) (d s : D) (e t : E) (g u : F) (h v : G)
    → ((((((a ≡ p) × (b ≡ q)) × (c ≡ r)) × (d ≡ s)) × (e ≡ t)) × (g ≡ u)) × (h ≡ v) → f a b c d e g h ≡ f p q r s t u v
like_seven f a p b q c r d s e t g u h v all =
    like_five (λ a b c d e. f a b c d e g h) a p b q c r d s e t all.0.0 ∙ (ap (λ x. f p q r s t x h) all.0.1 ∙ ap (λ x. f p q r s t u x) all.1)

abbrev desc_made : List IfaceEntry → List (Option VertexBuffer) → List (Option Target) → PrimitiveState → Option DepthState → ℕ → Bool → RenderDesc
desc_made iface buffers targets primitive depth samples alpha_to_coverage = record { iface = iface; buffers = buffers; targets = targets; primitive = primitive; depth = depth; samples = samples; alpha_to_coverage = alpha_to_coverage }

descs_tell : (a b : RenderDesc) → Decides (same_render_desc a b) (a ≡ b)
descs_tell a b =
    Decides-like _ (like_seven desc_made a.iface b.iface a.buffers b.buffers a.targets b.targets a.primitive b.primitive a.depth b.depth a.samples b.samples a.alpha_to_coverage b.alpha_to_coverage)
    (λ e. ((((((ap (λ (x : RenderDesc). x.iface) e, ap (λ (x : RenderDesc). x.buffers) e), ap (λ (x : RenderDesc). x.targets) e), ap (λ (x : RenderDesc). x.primitive) e), ap (λ (x : RenderDesc). x.depth) e), ap (λ (x : RenderDesc). x.samples) e), ap (λ (x : RenderDesc). x.alpha_to_coverage) e))
    (Decides-and _ (same_bool a.alpha_to_coverage b.alpha_to_coverage)
    (Decides-and _ (a.samples == b.samples)
    (Decides-and _ (same_option same_depth_state a.depth b.depth)
    (Decides-and _ (same_primitive a.primitive b.primitive)
    (Decides-and _ (same_list (same_option same_target) a.targets b.targets)
    (Decides-and (same_list same_iface_entry a.iface b.iface) (same_list (same_option same_vertex_buffer) a.buffers b.buffers) (lists_tell same_iface_entry iface_entries_tell a.iface b.iface) (lists_tell (same_option same_vertex_buffer) (options_tell same_vertex_buffer vertex_buffers_tell) a.buffers b.buffers))
    (lists_tell (same_option same_target) (options_tell same_target targets_tell) a.targets b.targets))
    (primitives_tell a.primitive b.primitive))
    (options_tell same_depth_state depth_states_tell a.depth b.depth))
    (numbers_tell a.samples b.samples))
    (bools_tell a.alpha_to_coverage b.alpha_to_coverage))

abbrev render_made : Option ObjRef → PipelineLayoutInfo → Bool → RenderDesc → RenderInfo
render_made layout layout_info auto desc = record { layout = layout; layout_info = layout_info; auto = auto; desc = desc }

renders_tell : (a b : RenderInfo) → Decides (same_render a b) (a ≡ b)
renders_tell a b =
    Decides-like _ (like_four render_made a.layout b.layout a.layout_info b.layout_info a.auto b.auto a.desc b.desc)
    (λ e. (((ap (λ (x : RenderInfo). x.layout) e, ap (λ (x : RenderInfo). x.layout_info) e), ap (λ (x : RenderInfo). x.auto) e), ap (λ (x : RenderInfo). x.desc) e))
    (Decides-and _ (same_render_desc a.desc b.desc)
    (Decides-and _ (same_bool a.auto b.auto)
    (Decides-and (same_option same_reference a.layout b.layout) (same_pipeline_layout a.layout_info b.layout_info) (options_tell same_reference references_tell a.layout b.layout) (pipeline_layouts_tell a.layout_info b.layout_info))
    (bools_tell a.auto b.auto))
    (descs_tell a.desc b.desc))

-- Targets and bundles.
abbrev target_info_made : List (Option Format) → Option Format → ℕ → Bool → Bool → TargetInfo
target_info_made colors depth samples depth_read_only stencil_read_only =
    record { colors = colors; depth = depth; samples = samples; depth_read_only = depth_read_only; stencil_read_only = stencil_read_only }

target_infos_tell : (a b : TargetInfo) → Decides (same_target_info a b) (a ≡ b)
target_infos_tell a b =
    Decides-like _ (like_five target_info_made a.colors b.colors a.depth b.depth a.samples b.samples a.depth_read_only b.depth_read_only a.stencil_read_only b.stencil_read_only)
    (λ e. ((((ap (λ (x : TargetInfo). x.colors) e, ap (λ (x : TargetInfo). x.depth) e), ap (λ (x : TargetInfo). x.samples) e), ap (λ (x : TargetInfo). x.depth_read_only) e), ap (λ (x : TargetInfo). x.stencil_read_only) e))
    (Decides-and _ (same_bool a.stencil_read_only b.stencil_read_only)
    (Decides-and _ (same_bool a.depth_read_only b.depth_read_only)
    (Decides-and _ (a.samples == b.samples)
    (Decides-and (same_list (same_option same_format) a.colors b.colors) (same_option same_format a.depth b.depth) (lists_tell (same_option same_format) (options_tell same_format formats_tell) a.colors b.colors) (options_tell same_format formats_tell a.depth b.depth))
    (numbers_tell a.samples b.samples))
    (bools_tell a.depth_read_only b.depth_read_only))
    (bools_tell a.stencil_read_only b.stencil_read_only))

lines_tell : (xs ys : List ℕ) → Decides (list_eq xs ys) (xs ≡ ys)
lines_tell xs ys = (list_eq_true xs ys, λ e. ap (list_eq xs) (sym e) ∙ list_eq_refl xs)

runs_tell : (a b : Cells) → Decides (same_cells a b) (a ≡ b)
runs_tell a b =
    Decides-like _ (λ h. cells_tell.run a b h.0.0 h.0.1 h.1) (λ e. ((ap cell_line e, ap cell_lo e), ap cell_hi e))
    (Decides-and _ (cell_hi a == cell_hi b)
    (Decides-and (list_eq (cell_line a) (cell_line b)) (cell_lo a == cell_lo b) (lines_tell (cell_line a) (cell_line b)) (numbers_tell (cell_lo a) (cell_lo b)))
    (numbers_tell (cell_hi a) (cell_hi b)))

abbrev bundle_use_at : ℕ → BundleUse
bundle_use_at n = if n == 0 then Input else if n == 1 then Constant else if n == 2 then StorageRead else StorageUse

bundle_use_back : (u : BundleUse) → bundle_use_at (bundle_use_number u) ≡ u
bundle_use_back Input = refl
bundle_use_back Constant = refl
bundle_use_back StorageRead = refl
bundle_use_back StorageUse = refl

abbrev touch_made : Cells → BundleUse → BundleTouch
touch_made cells used = record { cells = cells; used = used }

touches_tell : (a b : BundleTouch) → Decides (same_touch a b) (a ≡ b)
touches_tell a b =
    Decides-like _ (like_two touch_made a.cells b.cells a.used b.used) (λ e. (ap (λ (x : BundleTouch). x.cells) e, ap (λ (x : BundleTouch). x.used) e))
    (Decides-and (same_cells a.cells b.cells) (bundle_use_number a.used == bundle_use_number b.used) (runs_tell a.cells b.cells) (words_tell bundle_use_number bundle_use_at bundle_use_back a.used b.used))

abbrev bundle_made : TargetInfo → List ObjRef → List BundleTouch → ℕ → BundleInfo
bundle_made targets named touches draws = record { targets = targets; named = named; touches = touches; draws = draws }

bundles_tell : (a b : BundleInfo) → Decides (same_bundle a b) (a ≡ b)
bundles_tell a b =
    Decides-like _ (like_four bundle_made a.targets b.targets a.named b.named a.touches b.touches a.draws b.draws)
    (λ e. (((ap (λ (x : BundleInfo). x.targets) e, ap (λ (x : BundleInfo). x.named) e), ap (λ (x : BundleInfo). x.touches) e), ap (λ (x : BundleInfo). x.draws) e))
    (Decides-and _ (a.draws == b.draws)
    (Decides-and _ (same_list same_touch a.touches b.touches)
    (Decides-and (same_target_info a.targets b.targets) (same_list same_reference a.named b.named) (target_infos_tell a.targets b.targets) (lists_tell same_reference references_tell a.named b.named))
    (lists_tell same_touch touches_tell a.touches b.touches))
    (numbers_tell a.draws b.draws))

-- Infos.
pub infos_tell : SameInfoIs
infos_tell (Buffer a) (Buffer b) = let d = buffers_tell a b in (λ e. ap Buffer (d.0 e), λ e. d.1 (cc))
infos_tell (Texture a) (Texture b) = let d = textures_tell a b in (λ e. ap Texture (d.0 e), λ e. d.1 (cc))
infos_tell (View a) (View b) = let d = views_tell a b in (λ e. ap View (d.0 e), λ e. d.1 (cc))
infos_tell (Sampler a) (Sampler b) = let d = samplers_tell a b in (λ e. ap Sampler (d.0 e), λ e. d.1 (cc))
infos_tell (GroupLayout a) (GroupLayout b) = let d = group_layouts_tell a b in (λ e. ap GroupLayout (d.0 e), λ e. d.1 (cc))
infos_tell (PipelineLayout a) (PipelineLayout b) = let d = pipeline_layouts_tell a b in (λ e. ap PipelineLayout (d.0 e), λ e. d.1 (cc))
infos_tell (Group a) (Group b) = let d = groups_tell a b in (λ e. ap Group (d.0 e), λ e. d.1 (cc))
infos_tell (Compute a) (Compute b) = let d = computes_tell a b in (λ e. ap Compute (d.0 e), λ e. d.1 (cc))
infos_tell (Render a) (Render b) = let d = renders_tell a b in (λ e. ap Render (d.0 e), λ e. d.1 (cc))
infos_tell (Queries a) (Queries b) = let d = queries_tell a b in (λ e. ap Queries (d.0 e), λ e. d.1 (cc))
infos_tell Encoder Encoder = (λ e. refl, λ e. refl)
infos_tell (BundleEncoder a) (BundleEncoder b) = let d = target_infos_tell a b in (λ e. ap BundleEncoder (d.0 e), λ e. d.1 (cc))
infos_tell CommandBuffer CommandBuffer = (λ e. refl, λ e. refl)
infos_tell (Bundle a) (Bundle b) = let d = bundles_tell a b in (λ e. ap Bundle (d.0 e), λ e. d.1 (cc))
infos_tell _ _ = (λ e. absurd (cc), λ e. absurd (cc))
