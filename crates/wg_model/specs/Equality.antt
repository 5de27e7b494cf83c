-- When what is bound is the same, which is to say equal (WebGPU, "group-equivalent").
use Rattle.std.specs.Prelude.{ℕ, Bool, true, false, not, ◌&&◌, ◌==◌, List, [], ◌∷◌, Option, Some, None, length, if◌then◌else◌}
use Rattle.std.specs.List.{list_all}
use Rattle.wg_types.specs.Formats.{same_format}
use Rattle.wg_types.specs.Textures.{view_dim_number, same_view}
use Rattle.wg_types.specs.declared.handles.ObjRef.{ObjRef}
use Rattle.wg_types.specs.declared.handles.BufferInfo.{BufferInfo}
use Rattle.wg_types.specs.declared.textures.ViewDim.{ViewDim}
use Rattle.wg_types.specs.declared.formats.SampleType.{SampleType}
use Rattle.wg_types.specs.declared.formats.SampleType.TheVariants as sample_type
use Rattle.wg_types.specs.declared.bindings.BufferBinding.{BufferBinding}
use Rattle.wg_types.specs.declared.bindings.BufferBinding.TheVariants.{Uniform, Storage, ReadOnlyStorage}
use Rattle.wg_types.specs.declared.bindings.SamplerKind.{SamplerKind}
use Rattle.wg_types.specs.declared.bindings.SamplerKind.TheVariants.{Filtering, NonFiltering, Comparison}
use Rattle.wg_types.specs.declared.bindings.StorageAccess.{StorageAccess}
use Rattle.wg_types.specs.declared.bindings.StorageAccess.TheVariants.{ReadOnly, WriteOnly, ReadWrite}
use Rattle.wg_types.specs.declared.bindings.Stage.{Stage}
use Rattle.wg_types.specs.declared.bindings.Stage.TheVariants.{Vertex, Fragment, Compute}
use Rattle.wg_types.specs.declared.bindings.BindingKind.{BindingKind}
use Rattle.wg_types.specs.declared.bindings.BindingKind.TheVariants.{Buffer, Sampler, Texture, StorageTexture}
use Rattle.wg_types.specs.declared.bindings.LayoutEntry.{LayoutEntry}
use Rattle.wg_types.specs.declared.bindings.IfaceEntry.{IfaceEntry}
use Rattle.wg_types.specs.declared.bindings.BoundResource.{BoundResource}
use Rattle.wg_types.specs.declared.bindings.BoundResource.TheVariants.{Buffer as BoundBuffer, View as BoundView, Sampler as BoundSampler}
use Rattle.wg_types.specs.declared.bindings.BoundEntry.{BoundEntry}
use Rattle.wg_types.specs.declared.groups.GroupLayoutInfo.{GroupLayoutInfo}
use Rattle.wg_types.specs.declared.groups.PipelineLayoutInfo.{PipelineLayoutInfo}
use Rattle.wg_types.specs.declared.groups.GroupInfo.{GroupInfo}
use Rattle.wg_types.specs.declared.groups.ComputeInfo.{ComputeInfo}
use Rattle.wg_types.specs.declared.groups.RenderInfo.{RenderInfo}
use Rattle.wg_types.specs.declared.samplers.Compare.{Compare}
use Rattle.wg_types.specs.declared.samplers.Compare.TheVariants as compare
use Rattle.wg_types.specs.declared.fixed.BlendOperation.{BlendOperation}
use Rattle.wg_types.specs.declared.fixed.BlendOperation.TheVariants as operation
use Rattle.wg_types.specs.declared.fixed.BlendFactor.{BlendFactor}
use Rattle.wg_types.specs.declared.fixed.BlendFactor.TheVariants as factor
use Rattle.wg_types.specs.declared.fixed.BlendComponent.{BlendComponent}
use Rattle.wg_types.specs.declared.fixed.BlendState.{BlendState}
use Rattle.wg_types.specs.declared.fixed.Target.{Target}
use Rattle.wg_types.specs.declared.fixed.StencilOperation.{StencilOperation}
use Rattle.wg_types.specs.declared.fixed.StencilOperation.TheVariants as stencil
use Rattle.wg_types.specs.declared.fixed.StencilFace.{StencilFace}
use Rattle.wg_types.specs.declared.fixed.StencilState.{StencilState}
use Rattle.wg_types.specs.declared.fixed.StencilState.TheVariants.{Written, Faces}
use Rattle.wg_types.specs.declared.fixed.DepthState.{DepthState}
use Rattle.wg_types.specs.declared.fixed.Topology.{Topology}
use Rattle.wg_types.specs.declared.fixed.Topology.TheVariants as topology
use Rattle.wg_types.specs.declared.fixed.CullMode.{CullMode}
use Rattle.wg_types.specs.declared.fixed.CullMode.TheVariants as cull
use Rattle.wg_types.specs.declared.fixed.PrimitiveState.{PrimitiveState}
use Rattle.wg_types.specs.declared.render.RenderDesc.{RenderDesc}
use Rattle.wg_types.specs.declared.vertex.VertexFormat.{VertexFormat}
use Rattle.wg_types.specs.declared.vertex.VertexFormat.TheVariants as vertex_format
use Rattle.wg_types.specs.declared.vertex.VertexStep.{VertexStep}
use Rattle.wg_types.specs.declared.vertex.VertexStep.TheVariants as vertex_step
use Rattle.wg_types.specs.declared.vertex.VertexAttribute.{VertexAttribute}
use Rattle.wg_types.specs.declared.vertex.VertexBuffer.{VertexBuffer}
use Rattle.wg_types.specs.declared.vertex.IndexFormat.{IndexFormat}
use Rattle.wg_types.specs.declared.vertex.IndexFormat.TheVariants as index

-- whether two truths are the same
abbrev pub same_bool : Bool → Bool → Bool
same_bool a b = if a then b else not b

-- whether two lists are of equal length, and the same place by place
abbrev pub same_list : {X : Type 0} → (X → X → Bool) → List X → List X → Bool
same_list same [] [] = true
same_list same [] (y ∷ ys) = false
same_list same (x ∷ xs) [] = false
same_list same (x ∷ xs) (y ∷ ys) = same x y && same_list same xs ys

-- whether two are left out, or are the same
abbrev pub same_option : {X : Type 0} → (X → X → Bool) → Option X → Option X → Bool
same_option same None None = true
same_option same None (Some b) = false
same_option same (Some a) None = false
same_option same (Some a) (Some b) = same a b

-- whether two references are of one object
abbrev pub same_reference : ObjRef → ObjRef → Bool
same_reference a b = a.device == b.device && a.number == b.number

-- whether the same is known of two buffers
abbrev pub same_buffer : BufferInfo → BufferInfo → Bool
same_buffer a b = a.size == b.size && a.usage == b.usage && same_bool a.mapped b.mapped

-- the place of a word among those of its sort
abbrev pub sample_number : SampleType → ℕ
sample_number sample_type.Float = 0
sample_number sample_type.UnfilterableFloat = 1
sample_number sample_type.Depth = 2
sample_number sample_type.Sint = 3
sample_number sample_type.Uint = 4

-- the place of a sort of buffer binding among all
abbrev pub buffer_binding_number : BufferBinding → ℕ
buffer_binding_number Uniform = 0
buffer_binding_number Storage = 1
buffer_binding_number ReadOnlyStorage = 2

-- the place of a kind of sampler among all
abbrev pub sampler_number : SamplerKind → ℕ
sampler_number Filtering = 0
sampler_number NonFiltering = 1
sampler_number Comparison = 2

-- the place of a storage access among all
abbrev pub access_number : StorageAccess → ℕ
access_number ReadOnly = 0
access_number WriteOnly = 1
access_number ReadWrite = 2

-- the place of a stage among all
abbrev pub stage_number : Stage → ℕ
stage_number Vertex = 0
stage_number Fragment = 1
stage_number Compute = 2

-- whether two dimensions of views are the same
abbrev pub same_view_dim : ViewDim → ViewDim → Bool
same_view_dim a b = view_dim_number a == view_dim_number b

-- whether two sample types are the same
abbrev pub same_sample : SampleType → SampleType → Bool
same_sample a b = sample_number a == sample_number b

-- whether two sorts of buffer bindings are the same
abbrev pub same_buffer_binding : BufferBinding → BufferBinding → Bool
same_buffer_binding a b = buffer_binding_number a == buffer_binding_number b

-- whether two kinds of samplers are the same
abbrev pub same_sampler : SamplerKind → SamplerKind → Bool
same_sampler a b = sampler_number a == sampler_number b

-- whether two storage accesses are the same
abbrev pub same_access : StorageAccess → StorageAccess → Bool
same_access a b = access_number a == access_number b

-- whether two stages are the same
abbrev pub same_stage : Stage → Stage → Bool
same_stage a b = stage_number a == stage_number b

-- whether two kinds of bindings are the same, in all that they say
abbrev pub same_binding_kind : BindingKind → BindingKind → Bool
same_binding_kind (Buffer a moves_a least_a) (Buffer b moves_b least_b) = same_buffer_binding a b && same_bool moves_a moves_b && least_a == least_b
same_binding_kind (Sampler a) (Sampler b) = same_sampler a b
same_binding_kind (Texture a dim_a multi_a) (Texture b dim_b multi_b) = same_sample a b && same_view_dim dim_a dim_b && same_bool multi_a multi_b
same_binding_kind (StorageTexture a format_a dim_a) (StorageTexture b format_b dim_b) = same_access a b && same_format format_a format_b && same_view_dim dim_a dim_b
same_binding_kind _ _ = false

-- whether two entries of layouts are the same
abbrev pub same_layout_entry : LayoutEntry → LayoutEntry → Bool
same_layout_entry a b = a.binding == b.binding && a.visibility == b.visibility && same_binding_kind a.kind b.kind

-- whether two entries of interfaces are the same
abbrev pub same_iface_entry : IfaceEntry → IfaceEntry → Bool
same_iface_entry a b = a.group == b.group && a.binding == b.binding && same_stage a.stage b.stage && same_binding_kind a.kind b.kind

-- whether two entries bind the same: the same object, of which the same is known, and of a buffer the same range
abbrev pub same_bound_resource : BoundResource → BoundResource → Bool
same_bound_resource (BoundBuffer a info_a at_a size_a) (BoundBuffer b info_b at_b size_b) = same_reference a b && same_buffer info_a info_b && at_a == at_b && size_a == size_b
same_bound_resource (BoundView a info_a) (BoundView b info_b) = same_reference a b && same_view info_a info_b
same_bound_resource (BoundSampler a info_a) (BoundSampler b info_b) = same_reference a b && same_sampler info_a info_b
same_bound_resource _ _ = false

-- whether two entries of groups are the same
abbrev pub same_bound_entry : BoundEntry → BoundEntry → Bool
same_bound_entry a b = a.binding == b.binding && same_bound_resource a.resource b.resource

-- whether two are exclusive to the same pipeline, by its number, or neither is
abbrev pub same_owner : Option ℕ → Option ℕ → Bool
same_owner a b = same_option (λ (m n : ℕ). m == n) a b

-- whether the same is known of two bind group layouts, in the order of their entries
abbrev pub same_group_layout : GroupLayoutInfo → GroupLayoutInfo → Bool
same_group_layout a b = same_list same_layout_entry a.entries b.entries && same_owner a.exclusive b.exclusive && same_option same_reference a.pipeline b.pipeline

-- whether the same is known of two pipeline layouts
abbrev pub same_pipeline_layout : PipelineLayoutInfo → PipelineLayoutInfo → Bool
same_pipeline_layout a b = same_list same_reference a.layouts b.layouts && same_list same_group_layout a.layouts_info b.layouts_info

-- whether the same is known of two bind groups
abbrev pub same_group : GroupInfo → GroupInfo → Bool
same_group a b = same_reference a.layout b.layout && same_group_layout a.layout_info b.layout_info && same_list same_bound_entry a.entries b.entries

-- whether the same is known of two compute pipelines
abbrev pub same_compute : ComputeInfo → ComputeInfo → Bool
same_compute a b = same_option same_reference a.layout b.layout && same_pipeline_layout a.layout_info b.layout_info && same_bool a.auto b.auto && same_list same_iface_entry a.iface.entries b.iface.entries

-- the place of a vertex format among those that there are
abbrev pub vertex_format_number : VertexFormat → ℕ
vertex_format_number vertex_format.Uint8x2 = 0
vertex_format_number vertex_format.Uint8x4 = 1
vertex_format_number vertex_format.Unorm8x4 = 2
vertex_format_number vertex_format.Uint16x2 = 3
vertex_format_number vertex_format.Float16x2 = 4
vertex_format_number vertex_format.Float32 = 5
vertex_format_number vertex_format.Uint32 = 6
vertex_format_number vertex_format.Sint32 = 7
vertex_format_number vertex_format.Float16x4 = 8
vertex_format_number vertex_format.Float32x2 = 9
vertex_format_number vertex_format.Float32x3 = 10
vertex_format_number vertex_format.Float32x4 = 11

-- the place of a step of vertex buffers among both
abbrev pub vertex_step_number : VertexStep → ℕ
vertex_step_number vertex_step.Vertex = 0
vertex_step_number vertex_step.Instance = 1

-- whether two attributes are the same
abbrev pub same_attribute : VertexAttribute → VertexAttribute → Bool
same_attribute a b = vertex_format_number a.format == vertex_format_number b.format && a.offset == b.offset && a.location == b.location

-- whether two vertex buffers of pipelines are the same
abbrev pub same_vertex_buffer : VertexBuffer → VertexBuffer → Bool
same_vertex_buffer a b = a.stride == b.stride && vertex_step_number a.step == vertex_step_number b.step && same_list same_attribute a.attributes b.attributes

-- the place of a format of indexes among both
abbrev pub index_format_number : IndexFormat → ℕ
index_format_number index.Uint16 = 0
index_format_number index.Uint32 = 1

-- whether two formats of indexes are the same
abbrev pub same_index_format : IndexFormat → IndexFormat → Bool
same_index_format a b = index_format_number a == index_format_number b

-- the place of a comparison among all
abbrev pub compare_number : Compare → ℕ
compare_number compare.Never = 0
compare_number compare.Less = 1
compare_number compare.Equal = 2
compare_number compare.LessEqual = 3
compare_number compare.Greater = 4
compare_number compare.NotEqual = 5
compare_number compare.GreaterEqual = 6
compare_number compare.Always = 7

-- whether two comparisons are the same
abbrev pub same_compare : Compare → Compare → Bool
same_compare a b = compare_number a == compare_number b

-- the place of a blend operation among all
abbrev pub blend_operation_number : BlendOperation → ℕ
blend_operation_number operation.Add = 0
blend_operation_number operation.Subtract = 1
blend_operation_number operation.ReverseSubtract = 2
blend_operation_number operation.Min = 3
blend_operation_number operation.Max = 4

-- the place of a blend factor among all
abbrev pub blend_factor_number : BlendFactor → ℕ
blend_factor_number factor.Zero = 0
blend_factor_number factor.One = 1
blend_factor_number factor.Src = 2
blend_factor_number factor.OneMinusSrc = 3
blend_factor_number factor.SrcAlpha = 4
blend_factor_number factor.OneMinusSrcAlpha = 5
blend_factor_number factor.Dst = 6
blend_factor_number factor.OneMinusDst = 7
blend_factor_number factor.DstAlpha = 8
blend_factor_number factor.OneMinusDstAlpha = 9
blend_factor_number factor.SrcAlphaSaturated = 10
blend_factor_number factor.Constant = 11
blend_factor_number factor.OneMinusConstant = 12

-- whether two blend operations are the same
abbrev pub same_blend_operation : BlendOperation → BlendOperation → Bool
same_blend_operation a b = blend_operation_number a == blend_operation_number b

-- whether two blend factors are the same
abbrev pub same_blend_factor : BlendFactor → BlendFactor → Bool
same_blend_factor a b = blend_factor_number a == blend_factor_number b

-- whether colors, or alphas, are blended alike
abbrev pub same_blend_component : BlendComponent → BlendComponent → Bool
same_blend_component a b = same_blend_operation a.operation b.operation && same_blend_factor a.src_factor b.src_factor && same_blend_factor a.dst_factor b.dst_factor

-- whether two targets are blended alike
abbrev pub same_blend : BlendState → BlendState → Bool
same_blend a b = same_blend_component a.color b.color && same_blend_component a.alpha b.alpha

-- whether two color targets are the same
abbrev pub same_target : Target → Target → Bool
same_target a b = same_format a.format b.format && same_option same_blend a.blend b.blend && a.write_mask == b.write_mask

-- the place of a stencil operation among all
abbrev pub stencil_operation_number : StencilOperation → ℕ
stencil_operation_number stencil.Keep = 0
stencil_operation_number stencil.Zero = 1
stencil_operation_number stencil.Replace = 2
stencil_operation_number stencil.Invert = 3
stencil_operation_number stencil.IncrementClamp = 4
stencil_operation_number stencil.DecrementClamp = 5
stencil_operation_number stencil.IncrementWrap = 6
stencil_operation_number stencil.DecrementWrap = 7

-- whether two stencil operations are the same
abbrev pub same_stencil_operation : StencilOperation → StencilOperation → Bool
same_stencil_operation a b = stencil_operation_number a == stencil_operation_number b

-- whether the same is done with the stencil of two faces
abbrev pub same_face : StencilFace → StencilFace → Bool
same_face a b =
    same_compare a.compare b.compare
    && same_stencil_operation a.fail_op b.fail_op
    && same_stencil_operation a.depth_fail_op b.depth_fail_op
    && same_stencil_operation a.pass_op b.pass_op

-- whether two pipelines do the same with the stencil, as they tell it
abbrev pub same_stencil : StencilState → StencilState → Bool
same_stencil (Written a) (Written b) = same_bool a b
same_stencil (Faces front_a back_a mask_a) (Faces front_b back_b mask_b) = same_face front_a front_b && same_face back_a back_b && mask_a == mask_b
same_stencil _ _ = false

-- whether two pipelines do the same with depth and stencil
abbrev pub same_depth_state : DepthState → DepthState → Bool
same_depth_state a b =
    same_format a.format b.format
    && same_option same_bool a.depth_write b.depth_write
    && same_option same_compare a.depth_compare b.depth_compare
    && same_stencil a.stencil b.stencil
    && same_bool a.bias b.bias

-- the place of a topology among all
abbrev pub topology_number : Topology → ℕ
topology_number topology.PointList = 0
topology_number topology.LineList = 1
topology_number topology.LineStrip = 2
topology_number topology.TriangleList = 3
topology_number topology.TriangleStrip = 4

-- the place of a word for which faces are not drawn
abbrev pub cull_number : CullMode → ℕ
cull_number cull.None = 0
cull_number cull.Front = 1
cull_number cull.Back = 2

-- whether the vertices of two pipelines make the same
abbrev pub same_primitive : PrimitiveState → PrimitiveState → Bool
same_primitive a b =
    topology_number a.topology == topology_number b.topology
    && same_option same_index_format a.strip_index_format b.strip_index_format
    && cull_number a.cull_mode == cull_number b.cull_mode

-- whether two descriptions of render pipelines are the same
abbrev pub same_render_desc : RenderDesc → RenderDesc → Bool
same_render_desc a b =
    same_list same_iface_entry a.iface b.iface
    && same_list (same_option same_vertex_buffer) a.buffers b.buffers
    && same_list (same_option same_target) a.targets b.targets
    && same_primitive a.primitive b.primitive
    && same_option same_depth_state a.depth b.depth
    && a.samples == b.samples
    && same_bool a.alpha_to_coverage b.alpha_to_coverage

-- whether the same is known of two render pipelines
abbrev pub same_render : RenderInfo → RenderInfo → Bool
same_render a b = same_option same_reference a.layout b.layout && same_pipeline_layout a.layout_info b.layout_info && same_bool a.auto b.auto && same_render_desc a.desc b.desc

-- the entries of one binding
abbrev pub of_binding : ℕ → List LayoutEntry → List LayoutEntry
of_binding n [] = []
of_binding n (entry ∷ entries) = if entry.binding == n then entry ∷ of_binding n entries else of_binding n entries

-- whether two layouts have the same entries, sorted by their bindings: as many, and of each binding the same
abbrev pub equivalent : List LayoutEntry → List LayoutEntry → Bool
equivalent a b = length a == length b && list_all (λ (entry : LayoutEntry). same_list same_layout_entry (of_binding entry.binding a) (of_binding entry.binding b)) a

-- whether a layout of a pipeline in use and that of a group are equivalent for an owner: their entries are, and the group's is
-- exclusive to just that owner, a pipeline that has derived its layouts, or none; to whom the other is exclusive, inside what
-- is known of the pipeline, is not looked at
abbrev pub equivalent_for : Option ℕ → GroupLayoutInfo → GroupLayoutInfo → Bool
equivalent_for owner layout set = same_owner owner set.exclusive && equivalent layout.entries set.entries

-- whether two bind group layouts are equivalent: their entries are, and both are exclusive to the same pipeline or neither to
-- any; of which pipeline a layout was got makes no difference
abbrev pub equivalent_layouts : GroupLayoutInfo → GroupLayoutInfo → Bool
equivalent_layouts a b = equivalent_for a.exclusive a b
