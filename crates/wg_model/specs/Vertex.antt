-- Vertex buffers: their layouts in render pipelines, and what draws ask of those that are set (WebGPU, "Vertex State" and
-- "valid to draw").
use Rattle.std.specs.Prelude.{ℕ, ◌+◌, ◌-◌, ◌*◌, ◌%◌, ◌==◌, nat_le, nat_lt, min, max, Bool, true, not, ◌&&◌, ◌||◌, List, [], ◌∷◌, Option, Some, None, unwrap_or, length, slice_index_or, if◌then◌else◌}
use Rattle.std.specs.List.{list_all, list_any, flat_map}
use Rattle.std.specs.Option.{option_map_or}
use Rattle.wg_rules.specs.declared.TheConstants.{VERTEX_BUFFERS_ARE_WITHIN_LIMITS, VERTEX_ATTRIBUTES_FIT}
use Rattle.wg_types.specs.Vertex.{vertex_bytes}
use Rattle.wg_types.specs.declared.limits.Limits.{Limits}
use Rattle.wg_types.specs.declared.vertex.VertexStep.{VertexStep}
use Rattle.wg_types.specs.declared.vertex.VertexStep.TheVariants.{Vertex, Instance}
use Rattle.wg_types.specs.declared.vertex.VertexAttribute.{VertexAttribute}
use Rattle.wg_types.specs.declared.vertex.VertexBuffer.{VertexBuffer}
use Rattle.wg_model.specs.Rules.{Rule}

-- the attributes of a vertex buffer, or none where it is left out
abbrev pub attributes_of : Option VertexBuffer → List VertexAttribute
attributes_of buffer = option_map_or (λ (given : VertexBuffer). given.attributes) buffer []

-- the attributes of all vertex buffers that are not left out
abbrev pub all_attributes : List (Option VertexBuffer) → List VertexAttribute
all_attributes buffers = flat_map attributes_of buffers

-- whether each vertex buffer that is not left out passes a test
abbrev pub each_buffer : (VertexBuffer → Bool) → List (Option VertexBuffer) → Bool
each_buffer test buffers = list_all (λ (buffer : Option VertexBuffer). option_map_or test buffer true) buffers

-- whether a stride is a multiple of 4 within the limit
abbrev pub stride_fits : Limits → VertexBuffer → Bool
stride_fits limits buffer = buffer.stride % 4 == 0 && nat_le buffer.stride limits.max_vertex_buffer_array_stride

-- whether locations are distinct
abbrev pub locations_are_distinct : List VertexAttribute → Bool
locations_are_distinct [] = true
locations_are_distinct (attribute ∷ attributes) = not (list_any (λ (other : VertexAttribute). other.location == attribute.location) attributes) && locations_are_distinct attributes

-- where an attribute ends
abbrev pub attribute_end : VertexAttribute → ℕ
attribute_end attribute = attribute.offset + vertex_bytes attribute.format

-- where the attributes of a buffer may end: at the stride, or where that is 0 at the limit of strides
abbrev pub attribute_room : Limits → VertexBuffer → ℕ
attribute_room limits buffer = if buffer.stride == 0 then limits.max_vertex_buffer_array_stride else buffer.stride

-- whether an attribute ends within the room of its buffer, and has an offset that is a multiple of the lesser of 4 and its
-- bytes
abbrev pub attribute_fits : ℕ → VertexAttribute → Bool
attribute_fits room attribute = nat_le (attribute_end attribute) room && attribute.offset % min 4 (vertex_bytes attribute.format) == 0

-- whether each attribute of a vertex buffer fits it
abbrev pub attributes_fit : Limits → VertexBuffer → Bool
attributes_fit limits buffer = list_all (attribute_fits (attribute_room limits buffer)) buffer.attributes

-- createRenderPipeline: 161 there are no more vertex buffers than may be, those left out too, and no more attributes in all of them
-- together; strides are multiples of 4 within the limit. 162 locations are below the limit of attributes, and distinct in all buffers
-- together; each attribute fits its buffer.
unfoldable pub layout_rules : Limits → List (Option VertexBuffer) → List Rule
layout_rules limits buffers = (
  VERTEX_BUFFERS_ARE_WITHIN_LIMITS,
  nat_le (length buffers) limits.max_vertex_buffers
      && (nat_le (length (all_attributes buffers)) limits.max_vertex_attributes && each_buffer (stride_fits limits) buffers),
)
    ∷ ((
      VERTEX_ATTRIBUTES_FIT,
      list_all (λ (attribute : VertexAttribute). nat_lt attribute.location limits.max_vertex_attributes) (all_attributes buffers)
          && (locations_are_distinct (all_attributes buffers) && each_buffer (attributes_fit limits) buffers),
    )
    ∷ [])

-- the greatest end of an attribute, or 0 where there is none
abbrev pub last_end : List VertexAttribute → ℕ
last_end [] = 0
last_end (attribute ∷ attributes) = max (attribute_end attribute) (last_end attributes)

-- over how many vertices or instances a draw goes in a buffer: up to and with the last, counted from the first of the buffer;
-- none where it is not told, as of the vertices of an indexed draw
abbrev pub counted_by_step : VertexStep → Option ℕ → ℕ → Option ℕ
counted_by_step Vertex vertices instances = vertices
counted_by_step Instance vertices instances = Some instances

-- whether so many bytes will do: each but the last takes the stride, and the last what its attributes take
abbrev pub bytes_serve : VertexBuffer → ℕ → Option ℕ → Bool
bytes_serve buffer bytes None = true
bytes_serve buffer bytes (Some count) = (count == 0) || nat_le ((count - 1) * buffer.stride + last_end buffer.attributes) bytes

-- whether the range at each slot serves the vertex buffer of that slot, the first of which is given; where no range is set
-- there are no bytes, and one that is left out asks for none
abbrev pub ranges_serve : List (Option VertexBuffer) → List (Option ℕ) → ℕ → Option ℕ → ℕ → Bool
ranges_serve [] ranges slot vertices instances = true
ranges_serve (None ∷ buffers) ranges slot vertices instances = ranges_serve buffers ranges (slot + 1) vertices instances
ranges_serve (Some buffer ∷ buffers) ranges slot vertices instances = bytes_serve buffer (unwrap_or (slice_index_or ranges slot None) 0) (counted_by_step buffer.step vertices instances) && ranges_serve buffers ranges (slot + 1) vertices instances

-- whether the ranges that are set at the slots of vertex buffers serve a draw
unfoldable pub draw_fits : List (Option VertexBuffer) → List (Option ℕ) → Option ℕ → ℕ → Bool
draw_fits buffers ranges vertices instances = ranges_serve buffers ranges 0 vertices instances
