-- Which value each number of the header stands for: the first of a list for 1, the next for 2, and so on. 0 stands for a value that
-- is left out, where it may be, or for the one that is then taken.
use Rattle.std.specs.Prelude.{ℕ, zero, suc, ◌^◌, nat_eq, nat_lt, Bool, true, false, List, [], ◌∷◌, slice_get, Option, Some, None, option_map, if◌then◌else◌}
use Rattle.wg_types.specs.declared.formats.Format.{Format}
use Rattle.wg_types.specs.declared.formats.Format.TheVariants.{R8Unorm, Rg8Unorm, Rgba8Unorm, Rgba8UnormSrgb, Bgra8Unorm, R32Uint, R32Float, Rgba16Float, Rgba32Float, Depth16Unorm, Depth24Plus, Depth24PlusStencil8, Depth32Float, Stencil8}
use Rattle.wg_types.specs.declared.formats.SampleType.{SampleType}
use Rattle.wg_types.specs.declared.formats.SampleType.TheVariants as sample
use Rattle.wg_types.specs.declared.textures.TextureDim.{TextureDim}
use Rattle.wg_types.specs.declared.textures.TextureDim.TheVariants as dim
use Rattle.wg_types.specs.declared.textures.ViewDim.{ViewDim}
use Rattle.wg_types.specs.declared.textures.ViewDim.TheVariants as view_dim
use Rattle.wg_types.specs.declared.textures.AspectWord.{AspectWord}
use Rattle.wg_types.specs.declared.textures.AspectWord.TheVariants.{All, DepthOnly, StencilOnly}
use Rattle.wg_types.specs.declared.bindings.BufferBinding.{BufferBinding}
use Rattle.wg_types.specs.declared.bindings.BufferBinding.TheVariants.{Uniform, Storage, ReadOnlyStorage}
use Rattle.wg_types.specs.declared.bindings.SamplerKind.{SamplerKind}
use Rattle.wg_types.specs.declared.bindings.SamplerKind.TheVariants.{Filtering, NonFiltering, Comparison}
use Rattle.wg_types.specs.declared.samplers.FilterMode.{FilterMode}
use Rattle.wg_types.specs.declared.samplers.FilterMode.TheVariants as filter_mode
use Rattle.wg_types.specs.declared.samplers.Compare.{Compare}
use Rattle.wg_types.specs.declared.samplers.Compare.TheVariants as compare
use Rattle.wg_types.specs.declared.bindings.StorageAccess.{StorageAccess}
use Rattle.wg_types.specs.declared.bindings.StorageAccess.TheVariants.{ReadOnly, WriteOnly, ReadWrite}
use Rattle.wg_types.specs.declared.bindings.Stage.{Stage}
use Rattle.wg_types.specs.declared.bindings.Stage.TheVariants as stage
use Rattle.wg_types.specs.declared.vertex.VertexStep.{VertexStep}
use Rattle.wg_types.specs.declared.vertex.VertexStep.TheVariants as step
use Rattle.wg_types.specs.declared.vertex.VertexFormat.{VertexFormat}
use Rattle.wg_types.specs.declared.vertex.VertexFormat.TheVariants as vertex
use Rattle.wg_types.specs.declared.vertex.IndexFormat.{IndexFormat}
use Rattle.wg_types.specs.declared.vertex.IndexFormat.TheVariants as index
use Rattle.wg_types.specs.declared.fixed.Topology.{Topology}
use Rattle.wg_types.specs.declared.fixed.Topology.TheVariants as topology
use Rattle.wg_types.specs.declared.fixed.CullMode.{CullMode}
use Rattle.wg_types.specs.declared.fixed.CullMode.TheVariants as cull
use Rattle.wg_types.specs.declared.fixed.BlendOperation.{BlendOperation}
use Rattle.wg_types.specs.declared.fixed.BlendOperation.TheVariants as operation
use Rattle.wg_types.specs.declared.fixed.BlendFactor.{BlendFactor}
use Rattle.wg_types.specs.declared.fixed.BlendFactor.TheVariants as factor
use Rattle.wg_types.specs.declared.fixed.StencilOperation.{StencilOperation}
use Rattle.wg_types.specs.declared.fixed.StencilOperation.TheVariants as stencil
use Rattle.wg_types.specs.declared.render.LoadOp.{LoadOp}
use Rattle.wg_types.specs.declared.render.LoadOp.TheVariants.{Load, Clear}
use Rattle.wg_types.specs.declared.render.StoreOp.{StoreOp}
use Rattle.wg_types.specs.declared.render.StoreOp.TheVariants.{Store, Discard}
use Rattle.wg_trace.specs.declared.replies.Filter.{Filter}
use Rattle.wg_trace.specs.declared.replies.Filter.TheVariants as filter

-- the value of a number, if it has one
abbrev pub nth : {T : Type 0} → List T → ℕ → Option T
nth table zero = None
nth table (suc n) = slice_get table n

-- the value of a number, of which 0 is the one that is usual, if the number is one
abbrev pub nth_or : {T : Type 0} → List T → T → ℕ → Option T
nth_or table usual zero = Some usual
nth_or table usual (suc n) = slice_get table n

-- the value of a number, of which 0 is a value that is left out, if the number is one
abbrev pub maybe_nth : {T : Type 0} → List T → ℕ → Option (Option T)
maybe_nth table zero = Some None
maybe_nth table (suc n) = option_map Some (slice_get table n)

-- a flag is 0 or 1
abbrev pub flag_of : ℕ → Option Bool
flag_of n = slice_get (false ∷ true ∷ []) n

-- a flag that may be left out is 0, 1, or left out by 2
abbrev pub maybe_flag_of : ℕ → Option (Option Bool)
maybe_flag_of n = slice_get (Some false ∷ Some true ∷ None ∷ []) n

-- stands for a number or an object that is left out
abbrev pub left_out : ℕ
left_out = 0xFFFF_FFFF_FFFF_FFFF

-- a number of 64 bits, or an object, that may be left out
abbrev pub wide_of : ℕ → Option ℕ
wide_of n = if nat_eq n left_out then None else Some n

-- a number of 32 bits that may be left out, if it is one
abbrev pub narrow_of : ℕ → Option (Option ℕ)
narrow_of n = if nat_eq n left_out then Some None else if nat_lt n (2 ^ 32) then Some (Some n) else None

-- the formats of textures, in the order of their numbers
abbrev pub formats : List Format
formats = R8Unorm ∷ Rg8Unorm ∷ Rgba8Unorm ∷ Rgba8UnormSrgb ∷ Bgra8Unorm ∷ R32Uint ∷ R32Float ∷ Rgba16Float ∷ Rgba32Float ∷ Depth16Unorm ∷ Depth24Plus ∷ Depth24PlusStencil8 ∷ Depth32Float ∷ Stencil8 ∷ []

-- the sample types, in the order of their numbers
abbrev pub sample_types : List SampleType
sample_types = sample.Float ∷ sample.UnfilterableFloat ∷ sample.Depth ∷ sample.Sint ∷ sample.Uint ∷ []

-- the dimensions of textures, in the order of their numbers
abbrev pub texture_dims : List TextureDim
texture_dims = dim.One ∷ dim.Two ∷ dim.Three ∷ []

-- the dimensions of views, in the order of their numbers
abbrev pub view_dims : List ViewDim
view_dims = view_dim.One ∷ view_dim.Two ∷ view_dim.TwoArray ∷ view_dim.Cube ∷ view_dim.CubeArray ∷ view_dim.Three ∷ []

-- the words for aspects, in the order of their numbers
abbrev pub aspects : List AspectWord
aspects = All ∷ DepthOnly ∷ StencilOnly ∷ []

-- the sorts of buffer bindings, in the order of their numbers
abbrev pub buffer_bindings : List BufferBinding
buffer_bindings = Uniform ∷ Storage ∷ ReadOnlyStorage ∷ []

-- the kinds of samplers, in the order of their numbers
abbrev pub sampler_kinds : List SamplerKind
sampler_kinds = Filtering ∷ NonFiltering ∷ Comparison ∷ []

-- how texels or mip levels are sampled, in the order of their numbers
abbrev pub filter_modes : List FilterMode
filter_modes = filter_mode.Nearest ∷ filter_mode.Linear ∷ []

-- the comparisons, in the order of their numbers
abbrev pub compares : List Compare
compares = compare.Never ∷ compare.Less ∷ compare.Equal ∷ compare.LessEqual ∷ compare.Greater ∷ compare.NotEqual ∷ compare.GreaterEqual ∷ compare.Always ∷ []

-- the accesses of storage textures, in the order of their numbers
abbrev pub storage_accesses : List StorageAccess
storage_accesses = ReadOnly ∷ WriteOnly ∷ ReadWrite ∷ []

-- the stages of a render pipeline, in the order of their numbers
abbrev pub render_stages : List Stage
render_stages = stage.Vertex ∷ stage.Fragment ∷ []

-- the steps of vertex buffers, in the order of their numbers
abbrev pub vertex_steps : List VertexStep
vertex_steps = step.Vertex ∷ step.Instance ∷ []

-- the formats of attributes, in the order of their numbers
abbrev pub vertex_formats : List VertexFormat
vertex_formats = vertex.Uint8x2 ∷ vertex.Uint8x4 ∷ vertex.Unorm8x4 ∷ vertex.Uint16x2 ∷ vertex.Float16x2 ∷ vertex.Float32 ∷ vertex.Uint32 ∷ vertex.Sint32 ∷ vertex.Float16x4 ∷ vertex.Float32x2 ∷ vertex.Float32x3 ∷ vertex.Float32x4 ∷ []

-- the formats of indexes, in the order of their numbers
abbrev pub index_formats : List IndexFormat
index_formats = index.Uint16 ∷ index.Uint32 ∷ []

-- what vertices make, in the order of the numbers
abbrev pub topologies : List Topology
topologies = topology.PointList ∷ topology.LineList ∷ topology.LineStrip ∷ topology.TriangleList ∷ topology.TriangleStrip ∷ []

-- which faces are not drawn, in the order of the numbers
abbrev pub cull_modes : List CullMode
cull_modes = cull.None ∷ cull.Front ∷ cull.Back ∷ []

-- the operations of blends, in the order of their numbers
abbrev pub blend_operations : List BlendOperation
blend_operations = operation.Add ∷ operation.Subtract ∷ operation.ReverseSubtract ∷ operation.Min ∷ operation.Max ∷ []

-- the factors of blends, in the order of their numbers
abbrev pub blend_factors : List BlendFactor
blend_factors = factor.Zero ∷ factor.One ∷ factor.Src ∷ factor.OneMinusSrc ∷ factor.SrcAlpha ∷ factor.OneMinusSrcAlpha ∷ factor.Dst ∷ factor.OneMinusDst ∷ factor.DstAlpha ∷ factor.OneMinusDstAlpha ∷ factor.SrcAlphaSaturated ∷ factor.Constant ∷ factor.OneMinusConstant ∷ []

-- the operations on the stencil, in the order of their numbers
abbrev pub stencil_operations : List StencilOperation
stencil_operations = stencil.Keep ∷ stencil.Zero ∷ stencil.Replace ∷ stencil.Invert ∷ stencil.IncrementClamp ∷ stencil.DecrementClamp ∷ stencil.IncrementWrap ∷ stencil.DecrementWrap ∷ []

-- the loads of attachments, in the order of their numbers
abbrev pub load_ops : List LoadOp
load_ops = Load ∷ Clear ∷ []

-- the stores of attachments, in the order of their numbers
abbrev pub store_ops : List StoreOp
store_ops = Store ∷ Discard ∷ []

-- the filters of error scopes, in the order of their numbers
abbrev pub filters : List Filter
filters = filter.Validation ∷ filter.OutOfMemory ∷ filter.Internal ∷ []
