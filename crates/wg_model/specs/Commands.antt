-- The objects that commands name, and the rules of each command (WebGPU, "Command Encoding"). Also WebGPU, "Buffer Copy
-- Commands", "resolveQuerySet", "Debug Markers".
use Rattle.std.specs.Prelude.{ℕ, ◌+◌, ◌*◌, ◌%◌, Bool, true, false, not, ◌&&◌, ◌==◌, nat_lt, nat_le, List, [], ◌∷◌, ◌++◌, ◌-◌, Option, unwrap_or, if◌then◌else◌}
use Rattle.wg_rules.specs.declared.TheConstants.{OBJECT_IS_OF_DEVICE, OBJECT_IS_VALID, BUFFER_COPY_SOURCE_HAS_COPY_SRC, BUFFER_COPY_TARGET_HAS_COPY_DST, BUFFER_COPY_RANGES_ARE_ALIGNED, BUFFER_COPY_RANGES_FIT_BUFFERS, BUFFER_COPY_HAS_TWO_BUFFERS, CLEARED_BUFFER_HAS_COPY_DST, CLEARED_RANGE_IS_ALIGNED, CLEARED_RANGE_FITS_BUFFER, RESOLVED_BUFFER_HAS_QUERY_RESOLVE, RESOLVED_QUERIES_ARE_IN_SET, RESOLVED_OFFSET_IS_ALIGNED, RESOLVED_RANGE_FITS_BUFFER, DEBUG_GROUP_IS_OPEN}
use Rattle.wg_types.specs.Handles.{HandleValue}
use Rattle.wg_types.specs.declared.handles.BufferInfo.{BufferInfo}
use Rattle.wg_types.specs.declared.handles.Info.{Info}
use Rattle.wg_types.specs.declared.handles.QueriesInfo.{QueriesInfo}
use Rattle.wg_types.specs.declared.handles.Info.TheVariants.{Buffer, Texture, Queries}
use Rattle.wg_types.specs.declared.formats.Format.TheVariants.{R8Unorm}
use Rattle.wg_types.specs.declared.textures.TextureDim.TheVariants.{Two}
use Rattle.wg_types.specs.declared.textures.TextureInfo.{TextureInfo}
use Rattle.wg_types.specs.Wanted.{admits}
use Rattle.wg_types.specs.Kinds.{kind_of}
use Rattle.wg_types.specs.declared.wanted.Wanted.{Wanted}
pub use Rattle.wg_types.specs.Commands.{Command, named}
use Rattle.wg_types.specs.Commands.{bracket}
use Rattle.wg_types.specs.declared.commands.Bracket.{Bracket}
use Rattle.wg_types.specs.declared.commands.Bracket.TheVariants as brackets
use Rattle.wg_types.specs.declared.commands.CommandOf.TheVariants.{BeginComputePass, BeginRenderPass, CopyBufferToBuffer, CopyBufferToTexture, CopyTextureToBuffer, CopyTextureToTexture, ClearBuffer, ResolveQuerySet, PushDebugGroup, PopDebugGroup, InsertDebugMarker, End, SetPipeline, SetBindGroup, Dispatch, DispatchIndirect, SetVertexBuffer, SetIndexBuffer, Draw, DrawIndexed, DrawIndirect, DrawIndexedIndirect, BeginOcclusionQuery, EndOcclusionQuery, ExecuteBundles, SetViewport, SetScissorRect, SetBlendConstant, SetStencilReference}
use Rattle.wg_model.specs.Rules.{Rule}
use Rattle.wg_model.specs.Equality.{same_reference}
use Rattle.wg_model.specs.Buffers.{copy_src, copy_dst, query_resolve, has_usage}
use Rattle.wg_model.specs.TexelCopies.{buffer_to_texture_rules, texture_to_buffer_rules, texture_to_texture_rules, whole_spot}

-- whether an info knows of a buffer
abbrev pub is_buffer : Info → Bool
is_buffer (Buffer info) = true
is_buffer _ = false

-- stands for what is known of a buffer where a handle is of another kind, which rule 10 refuses before it counts
abbrev pub no_buffer : BufferInfo
no_buffer = record { size = 0; usage = 0; mapped = false }

-- what is known of a buffer, or a buffer of nothing where the info is of something else
abbrev pub buffer_or_none : Info → BufferInfo
buffer_or_none (Buffer info) = info
buffer_or_none _ = no_buffer

-- what a handle of a buffer knows of it
abbrev pub buffer_of : HandleValue → BufferInfo
buffer_of handle = buffer_or_none handle.info

-- what remains of a buffer from an offset on, which of an invalid one is nothing
abbrev pub rest_of : HandleValue → ℕ → ℕ
rest_of buffer offset = if buffer.valid then (buffer_of buffer).size - offset else 0

-- a size, or what remains where none is given
abbrev pub size_or_rest : HandleValue → ℕ → Option ℕ → ℕ
size_or_rest buffer offset size = unwrap_or size (rest_of buffer offset)

-- whether an info knows of a texture
abbrev pub is_texture_info : Info → Bool
is_texture_info (Texture info) = true
is_texture_info _ = false

-- what is known of a texture of nothing, which stands for what is none
abbrev pub no_texture : TextureInfo
no_texture = record { size = 0 ∷ (0 ∷ (0 ∷ [])); usage = 0; format = R8Unorm; dim = Two; mips = 0; samples = 0 }

-- what is known of a texture, or a texture of nothing where the info is of something else
abbrev pub texture_or_none : Info → TextureInfo
texture_or_none (Texture info) = info
texture_or_none _ = no_texture

-- what a handle of a texture knows of it
abbrev pub texture_of : HandleValue → TextureInfo
texture_of handle = texture_or_none handle.info

-- whether an info knows of a query set
abbrev pub is_queries : Info → Bool
is_queries (Queries info) = true
is_queries _ = false

-- what is known of a set of no queries, which stands for what is none
abbrev pub no_queries : QueriesInfo
no_queries = record { count = 0 }

-- what is known of a query set, or a set of no queries where the info is of something else
abbrev pub queries_or_none : Info → QueriesInfo
queries_or_none (Queries info) = info
queries_or_none _ = no_queries

-- what a handle of a query set knows of it
abbrev pub queries_of : HandleValue → QueriesInfo
queries_of handle = queries_or_none handle.info

-- The rules that go before the others of a command, of one object after another (WebGPU, "Device Timeline" and "Invalid
-- Internal Objects & Contagious Invalidity"): 10 it is of the recorder's device and of the kind that is asked for, as far as its handle tells; 12 it is
-- valid.
abbrev pub object_rules : ℕ → HandleValue × Wanted → List Rule
object_rules device object =
    (OBJECT_IS_OF_DEVICE, object.0.reference.device == device && admits object.1 (kind_of object.0.info))
    ∷ ((OBJECT_IS_VALID, object.0.valid)
    ∷ [])

-- the rules on each object that a command names, one object after another: 10 it is of the recorder's device and of the kind
-- that is asked for; 12 it is valid
abbrev pub common_rules : ℕ → List (HandleValue × Wanted) → List Rule
common_rules device [] = []
common_rules device (object ∷ objects) = object_rules device object ++ common_rules device objects

-- copyBufferToBuffer (WebGPU, "copyBufferToBuffer"): 250 the source has COPY_SRC; 251 the target has COPY_DST; 252 the
-- offsets and the size are multiples of 4; 253 both ranges fit their buffers; 254 source and target differ.
abbrev pub copy_buffer_rules : HandleValue → ℕ → HandleValue → ℕ → ℕ → List Rule
copy_buffer_rules source source_offset target target_offset size =
    (BUFFER_COPY_SOURCE_HAS_COPY_SRC, has_usage (buffer_of source).usage copy_src)
    ∷ ((BUFFER_COPY_TARGET_HAS_COPY_DST, has_usage (buffer_of target).usage copy_dst)
    ∷ ((BUFFER_COPY_RANGES_ARE_ALIGNED, source_offset % 4 == 0 && target_offset % 4 == 0 && size % 4 == 0)
    ∷ ((BUFFER_COPY_RANGES_FIT_BUFFERS, nat_le (source_offset + size) (buffer_of source).size && nat_le (target_offset + size) (buffer_of target).size)
    ∷ ((BUFFER_COPY_HAS_TWO_BUFFERS, not (same_reference source.reference target.reference))
    ∷ []))))

-- clearBuffer (WebGPU, "clearBuffer"): 275 the buffer has COPY_DST; 276 offset and size are multiples of 4; 277 they fit
-- the buffer.
abbrev pub clear_buffer_rules : HandleValue → ℕ → ℕ → List Rule
clear_buffer_rules buffer offset size =
    (CLEARED_BUFFER_HAS_COPY_DST, has_usage (buffer_of buffer).usage copy_dst)
    ∷ ((CLEARED_RANGE_IS_ALIGNED, offset % 4 == 0 && size % 4 == 0)
    ∷ ((CLEARED_RANGE_FITS_BUFFER, nat_le (offset + size) (buffer_of buffer).size)
    ∷ []))

-- the bytes that a query takes where it is resolved
abbrev pub query_bytes : ℕ
query_bytes = 8

-- resolveQuerySet (WebGPU, "resolveQuerySet"): 280 the buffer has QUERY_RESOLVE; 281 the first query is one of the set, and
-- so are all; 282 the offset is a multiple of 256; 283 the results fit the buffer.
abbrev pub resolve_set_rules : HandleValue → ℕ → ℕ → HandleValue → ℕ → List Rule
resolve_set_rules queries first count buffer offset =
    (RESOLVED_BUFFER_HAS_QUERY_RESOLVE, has_usage (buffer_of buffer).usage query_resolve)
    ∷ ((RESOLVED_QUERIES_ARE_IN_SET, nat_lt first (queries_of queries).count && nat_le (first + count) (queries_of queries).count)
    ∷ ((RESOLVED_OFFSET_IS_ALIGNED, offset % 256 == 0)
    ∷ ((RESOLVED_RANGE_FITS_BUFFER, nat_le (offset + query_bytes * count) (buffer_of buffer).size)
    ∷ [])))

-- the rules of a command that look at it alone, and not at the commands before it
abbrev pub own_rules : Command → List Rule
own_rules BeginComputePass = []
own_rules (BeginRenderPass begin) = []
own_rules (CopyBufferToBuffer source source_offset target target_offset size) = copy_buffer_rules source source_offset target target_offset size
own_rules (CopyBufferToTexture buffer layout texture spot size) = buffer_to_texture_rules (buffer_of buffer) layout (texture_of texture) spot size
own_rules (CopyTextureToBuffer buffer layout texture spot size) = texture_to_buffer_rules (buffer_of buffer) layout (texture_of texture) spot size
own_rules (CopyTextureToTexture source source_mip source_origin target target_mip target_origin size) = texture_to_texture_rules (same_reference source.reference target.reference) (texture_of source) (whole_spot source_mip source_origin) (texture_of target) (whole_spot target_mip target_origin) size
own_rules (ClearBuffer buffer offset size) = clear_buffer_rules buffer offset (size_or_rest buffer offset size)
own_rules (ResolveQuerySet queries first count buffer offset) = resolve_set_rules queries first count buffer offset
own_rules PushDebugGroup = []
own_rules PopDebugGroup = []
own_rules InsertDebugMarker = []
own_rules End = []
own_rules (SetPipeline pipeline) = []
own_rules (SetBindGroup index group offsets) = []
own_rules (Dispatch x y z) = []
own_rules (DispatchIndirect buffer offset) = []
own_rules (SetVertexBuffer slot buffer offset size) = []
own_rules (SetIndexBuffer buffer format offset size) = []
own_rules (Draw vertices instances first_vertex first_instance) = []
own_rules (DrawIndexed indices instances first_index first_instance) = []
own_rules (DrawIndirect buffer offset) = []
own_rules (DrawIndexedIndirect buffer offset) = []
own_rules (BeginOcclusionQuery index) = []
own_rules EndOcclusionQuery = []
own_rules (ExecuteBundles bundles) = []
own_rules (SetViewport viewport) = []
own_rules (SetScissorRect x y width height) = []
own_rules SetBlendConstant = []
own_rules SetStencilReference = []

-- popDebugGroup (WebGPU, "Debug Markers"), by how many groups of its place are open: 285 one is.
abbrev pub debug_rules_by : ℕ → Bracket → List Rule
debug_rules_by depth brackets.BeginComputePass = []
debug_rules_by depth brackets.BeginRenderPass = []
debug_rules_by depth brackets.EndPass = []
debug_rules_by depth brackets.PushGroup = []
debug_rules_by depth brackets.PopGroup = (DEBUG_GROUP_IS_OPEN, nat_lt 0 depth) ∷ []
debug_rules_by depth brackets.Neither = []

-- the rules of a debug group that a command closes, where so many are open: 285 there is one
abbrev pub debug_rules : ℕ → Command → List Rule
debug_rules depth command = debug_rules_by depth (bracket command)

-- The rules of a command on an encoder that is not locked, where this many debug groups of the encoder are open.
abbrev pub command_rules : ℕ → ℕ → Command → List Rule
command_rules device depth command = common_rules device (named command) ++ (own_rules command ++ debug_rules depth command)
