-- What steps touch: the cells that they access and the parts that they use (WebGPU, "Resource Usages").
use Rattle.std.specs.Prelude.{ℕ, ◌+◌, ◌*◌, ◌==◌, nat_lt, Bool, true, false, List, [], ◌∷◌, ◌++◌, map, Option, Some, None, unwrap_or, if◌then◌else◌}
use Rattle.std.specs.List.{filter}
use Rattle.wg_trace.specs.declared.steps.StepName.{StepName}
use Rattle.wg_trace.specs.declared.steps.StepName.TheVariants as name
use Rattle.wg_trace.specs.declared.steps.Deed.{Deed}
use Rattle.wg_types.specs.Handles.{HandleValue}
use Rattle.wg_types.specs.Commands.{Command}
use Rattle.wg_types.specs.declared.commands.CommandOf.TheVariants.{BeginComputePass, BeginRenderPass, CopyBufferToBuffer, CopyBufferToTexture, CopyTextureToBuffer, CopyTextureToTexture, ClearBuffer, ResolveQuerySet, PushDebugGroup, PopDebugGroup, InsertDebugMarker, End, SetPipeline, SetBindGroup, Dispatch, DispatchIndirect, SetVertexBuffer, SetIndexBuffer, Draw, DrawIndexed, DrawIndirect, DrawIndexedIndirect, BeginOcclusionQuery, EndOcclusionQuery, ExecuteBundles, SetViewport, SetScissorRect, SetBlendConstant, SetStencilReference}
use Rattle.wg_types.specs.declared.textures.TextureInfo.{TextureInfo}
use Rattle.wg_types.specs.declared.textures.TextureSpot.{TextureSpot}
use Rattle.wg_types.specs.declared.textures.DataLayout.{DataLayout}
use Rattle.wg_types.specs.Textures.{width, height, depth}
use Rattle.wg_rows.specs.Runs.{PartRun, Cells, Bytes, Layers, Slices, Queries, cell_lo, cell_hi, run_part}
use Rattle.wg_rows.specs.Uses.{Usages, AccessKind, Read, Write, Both, printed_accesses}
use Rattle.wg_rows.specs.Sets.{UseRow, sets}
use Rattle.wg_orders.specs.Steps.{Step, StepPlace}
pub use Rattle.wg_orders.specs.Steps.{placed}
use Rattle.wg_model.specs.Formats.{texel_from, texel_to}
use Rattle.wg_model.specs.Subresources.{copied_cells, has_no_texel}
use Rattle.wg_model.specs.TexelCopies.{required, covers_all, bytes_in, whole_spot}
use Rattle.wg_model.specs.Commands.{texture_of, size_or_rest, query_bytes}

-- Usages of parts, a bit each.
abbrev pub input_usage : Usages
input_usage = record { 0 = 1 }

-- the usage constant
abbrev pub constant_usage : Usages
constant_usage = record { 0 = 2 }

-- the usage storage
abbrev pub storage_usage : Usages
storage_usage = record { 0 = 4 }

-- the usage storage-read
abbrev pub storage_read_usage : Usages
storage_read_usage = record { 0 = 8 }

-- the usage copy-src
abbrev pub copy_src_usage : Usages
copy_src_usage = record { 0 = 64 }

-- the usage copy-dst
abbrev pub copy_dst_usage : Usages
copy_dst_usage = record { 0 = 128 }

-- the usage query-write
abbrev pub query_write_usage : Usages
query_write_usage = record { 0 = 256 }

-- the usage query-read
abbrev pub query_read_usage : Usages
query_read_usage = record { 0 = 512 }

-- What a step does with some cells: how it uses the parts that they lie in, and how it accesses them.
abbrev pub Touch : Type 0
Touch = Cells × (Usages × AccessKind)

-- how a touch uses the parts of its cells
abbrev pub use_of : Touch → PartRun × Usages
use_of touch = (run_part touch.0, touch.1.0)

-- how a touch accesses its cells
abbrev pub access_of : Touch → Cells × AccessKind
access_of touch = (touch.0, touch.1.1)

-- whether a run has a cell
abbrev pub has_cells : Cells × AccessKind → Bool
has_cells row = nat_lt (cell_lo row.0) (cell_hi row.0)

-- What is done in one step: its name, and what it touches.
abbrev pub Doing : Type 0
Doing = StepName × List Touch

-- the uses of what is done in a step, as they come
abbrev pub uses_in : Doing → List UseRow
uses_in doing = map use_of doing.1

-- whether cells are of a part that usage scopes have, which query sets are not
abbrev pub is_scoped : Cells → Bool
is_scoped (Bytes object lo hi) = true
is_scoped (Layers object aspect mip lo hi) = true
is_scoped (Slices object mip lo hi) = true
is_scoped (Queries object lo hi) = false

-- whether a touch is one of a usage scope
abbrev pub in_scope : Touch → Bool
in_scope touch = is_scoped touch.0

-- the usage scope of a step that has one
abbrev pub scope_in : Doing → List UseRow
scope_in doing = map use_of (filter in_scope doing.1)

-- What is done in a step as it is printed: it uses each part by the union of what its touches use it as, one row for the parts
-- that are used alike; where a touch has no cell its part is used and nothing is accessed.
unfoldable pub deed_of : Doing → Deed
deed_of doing =
    record {
      name = doing.0;
      uses = sets (uses_in doing);
      accesses = printed_accesses (filter has_cells (map access_of doing.1));
    }

-- the step at a place, of what is done
abbrev pub step_of : StepPlace → Doing → Step
step_of place doing = placed place (deed_of doing)

-- the step at a place of a name, by what it touches
abbrev pub touching : StepPlace → StepName → List Touch → Step
touching place name touches = step_of place (name, touches)

-- cells that a copy is from, used as copy-src and read
abbrev pub read_cells : Cells → Touch
read_cells cells = (cells, (copy_src_usage, Read))

-- cells that a copy is to, used as copy-dst
abbrev pub written_cells : AccessKind → Cells → Touch
written_cells kind cells = (cells, (copy_dst_usage, kind))

-- the bytes from an offset on
abbrev pub bytes_at : ℕ → ℕ → ℕ → Cells
bytes_at object offset size = Bytes object offset (offset + size)

-- how a copy accesses the cells of the texture that it is to: it writes them where it covers all of each, and else reads and
-- writes them, since what it leaves stays
abbrev pub target_kind : TextureInfo → TextureSpot → List ℕ → AccessKind
target_kind info spot size = if covers_all info spot size then Write else Both

-- what a copy touches of the texture that it is to
abbrev pub copied_to : ℕ → TextureInfo → TextureSpot → List ℕ → List Touch
copied_to object info spot size = map (written_cells (target_kind info spot size)) (copied_cells object info spot size)

-- what a copy touches of the texture that it is from
abbrev pub copied_from : ℕ → TextureInfo → TextureSpot → List ℕ → List Touch
copied_from object info spot size = map read_cells (copied_cells object info spot size)

-- the range that a copy takes of a buffer: its offset and the bytes that its layout requires
abbrev pub layout_bytes : DataLayout → Option ℕ → List ℕ → ℕ
layout_bytes layout bytes size = unwrap_or (required layout (bytes_in bytes) size) 0

-- Bytes between rows or images stay as they are: then a range is read and written, and else it is written.
abbrev pub range_kind : ℕ → ℕ → List ℕ → AccessKind
range_kind taken bytes size = if nat_lt (width size * height size * depth size * bytes) taken then Both else Write

-- What writeBuffer and clearBuffer touch: the range is written.
abbrev pub range_touches : ℕ → ℕ → ℕ → List Touch
range_touches object offset size = written_cells Write (bytes_at object offset size) ∷ []

-- What copyBufferToBuffer touches: the range of the source is read, that of the target is written.
abbrev pub buffer_to_buffer_touches : ℕ → ℕ → ℕ → ℕ → ℕ → List Touch
buffer_to_buffer_touches source source_offset target target_offset size =
    read_cells (bytes_at source source_offset size) ∷ range_touches target target_offset size

-- What copyBufferToTexture touches: the range is read, and the cells are copied to.
abbrev pub buffer_to_texture_touches : ℕ → DataLayout → ℕ → TextureInfo → TextureSpot → List ℕ → List Touch
buffer_to_texture_touches buffer layout texture info spot size =
    read_cells (bytes_at buffer layout.offset (layout_bytes layout (texel_to spot.aspect info.format) size)) ∷ copied_to texture info spot size

-- a range of a buffer that is copied to: it is written, or, where rows or images leave bytes between them, read and written
abbrev pub range_written : ℕ → ℕ → ℕ → ℕ → List ℕ → Touch
range_written buffer offset taken bytes size = written_cells (range_kind taken bytes size) (bytes_at buffer offset taken)

-- what a copy touches of the buffer that it is to
abbrev pub range_copied_to : ℕ → DataLayout → Option ℕ → List ℕ → Touch
range_copied_to buffer layout bytes size = range_written buffer layout.offset (layout_bytes layout bytes size) (bytes_in bytes) size

-- what a copy from a texture to a buffer touches: the range, and then the cells
abbrev pub texture_to_buffer_touches : ℕ → DataLayout → ℕ → TextureInfo → TextureSpot → List ℕ → List Touch
texture_to_buffer_touches buffer layout texture info spot size =
    range_copied_to buffer layout (texel_from spot.aspect info.format) size ∷ copied_from texture info spot size

-- What copyTextureToTexture touches: the cells of the source are read, those of the target are copied to.
abbrev pub texture_to_texture_touches : ℕ → TextureInfo → TextureSpot → ℕ → TextureInfo → TextureSpot → List ℕ → List Touch
texture_to_texture_touches source from_info from target to_info to size = copied_from source from_info from size ++ copied_to target to_info to size

-- the queries that a resolve reads, used as query-read
abbrev pub queries_read : ℕ → ℕ → ℕ → Touch
queries_read queries first count = (Queries queries first (first + count), (query_read_usage, Read))

-- what a resolve of a query set touches: the queries, and 8 bytes for each
abbrev pub resolve_set_touches : ℕ → ℕ → ℕ → ℕ → ℕ → List Touch
resolve_set_touches queries first count buffer offset = queries_read queries first count ∷ range_touches buffer offset (query_bytes * count)

-- what is done, but for nothing where that is said
abbrev pub unless : Bool → Doing → Option Doing
unless nothing doing = if nothing then None else Some doing

-- what a copyBufferToBuffer does, which of no byte is nothing
abbrev pub buffer_to_buffer_does : HandleValue → ℕ → HandleValue → ℕ → ℕ → Option Doing
buffer_to_buffer_does source source_offset target target_offset size =
    unless (size == 0) (name.CopyBufferToBuffer, buffer_to_buffer_touches source.reference.number source_offset target.reference.number target_offset size)

-- what a copyBufferToTexture does, which of no texel is nothing
abbrev pub buffer_to_texture_does : HandleValue → DataLayout → HandleValue → TextureSpot → List ℕ → Option Doing
buffer_to_texture_does buffer layout texture spot size =
    unless (has_no_texel size)
    (name.CopyBufferToTexture, buffer_to_texture_touches buffer.reference.number layout texture.reference.number (texture_of texture) spot size)

-- what a copyTextureToBuffer does, which of no texel is nothing
abbrev pub texture_to_buffer_does : HandleValue → DataLayout → HandleValue → TextureSpot → List ℕ → Option Doing
texture_to_buffer_does buffer layout texture spot size =
    unless (has_no_texel size)
    (name.CopyTextureToBuffer, texture_to_buffer_touches buffer.reference.number layout texture.reference.number (texture_of texture) spot size)

-- what a copyTextureToTexture does, which of no texel is nothing
abbrev pub texture_to_texture_does : HandleValue → TextureSpot → HandleValue → TextureSpot → List ℕ → Option Doing
texture_to_texture_does source from target to size =
    unless (has_no_texel size)
    (name.CopyTextureToTexture, texture_to_texture_touches source.reference.number (texture_of source) from target.reference.number (texture_of target) to size)

-- what a clearBuffer does, which of no byte is nothing
abbrev pub clear_does : HandleValue → ℕ → ℕ → Option Doing
clear_does buffer offset size = unless (size == 0) (name.ClearBuffer, range_touches buffer.reference.number offset size)

-- what a resolveQuerySet does, which of no query is nothing
abbrev pub resolve_set_does : HandleValue → ℕ → ℕ → HandleValue → ℕ → Option Doing
resolve_set_does queries first count buffer offset =
    unless (count == 0) (name.ResolveQuerySet, resolve_set_touches queries.reference.number first count buffer.reference.number offset)

-- what a command on an encoder does, if it makes a step
unfoldable pub encoder_does : Command → Option Doing
encoder_does BeginComputePass = None
encoder_does (BeginRenderPass begin) = None
encoder_does (CopyBufferToBuffer source source_offset target target_offset size) = buffer_to_buffer_does source source_offset target target_offset size
encoder_does (CopyBufferToTexture buffer layout texture spot size) = buffer_to_texture_does buffer layout texture spot size
encoder_does (CopyTextureToBuffer buffer layout texture spot size) = texture_to_buffer_does buffer layout texture spot size
encoder_does (CopyTextureToTexture source source_mip source_origin target target_mip target_origin size) =
    texture_to_texture_does source (whole_spot source_mip source_origin) target (whole_spot target_mip target_origin) size
encoder_does (ClearBuffer buffer offset size) = clear_does buffer offset (size_or_rest buffer offset size)
encoder_does (ResolveQuerySet queries first count buffer offset) = resolve_set_does queries first count buffer offset
encoder_does PushDebugGroup = None
encoder_does PopDebugGroup = None
encoder_does InsertDebugMarker = None
encoder_does End = None
encoder_does (SetPipeline pipeline) = None
encoder_does (SetBindGroup index group offsets) = None
encoder_does (Dispatch x y z) = None
encoder_does (DispatchIndirect buffer offset) = None
encoder_does (SetVertexBuffer slot buffer offset size) = None
encoder_does (SetIndexBuffer buffer format offset size) = None
encoder_does (Draw vertices instances first_vertex first_instance) = None
encoder_does (DrawIndexed indices instances first_index first_instance) = None
encoder_does (DrawIndirect buffer offset) = None
encoder_does (DrawIndexedIndirect buffer offset) = None
encoder_does (BeginOcclusionQuery index) = None
encoder_does EndOcclusionQuery = None
encoder_does (ExecuteBundles bundles) = None
encoder_does (SetViewport viewport) = None
encoder_does (SetScissorRect x y width height) = None
encoder_does SetBlendConstant = None
encoder_does SetStencilReference = None
