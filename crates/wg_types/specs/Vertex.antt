-- How many bytes vertex attributes and indexes take (WebGPU, "GPUVertexFormat" and "GPUIndexFormat").
use Rattle.std.specs.Prelude.{ℕ}
use Rattle.wg_types.specs.declared.vertex.VertexFormat.{VertexFormat}
use Rattle.wg_types.specs.declared.vertex.VertexFormat.TheVariants.{Uint8x2, Uint8x4, Unorm8x4, Uint16x2, Float16x2, Float32, Uint32, Sint32, Float16x4, Float32x2, Float32x3, Float32x4}
use Rattle.wg_types.specs.declared.vertex.IndexFormat.{IndexFormat}
use Rattle.wg_types.specs.declared.vertex.IndexFormat.TheVariants as index

-- the bytes of an attribute of a format
abbrev pub vertex_bytes : VertexFormat → ℕ
vertex_bytes Uint8x2 = 2
vertex_bytes Uint8x4 = 4
vertex_bytes Unorm8x4 = 4
vertex_bytes Uint16x2 = 4
vertex_bytes Float16x2 = 4
vertex_bytes Float32 = 4
vertex_bytes Uint32 = 4
vertex_bytes Sint32 = 4
vertex_bytes Float16x4 = 8
vertex_bytes Float32x2 = 8
vertex_bytes Float32x3 = 12
vertex_bytes Float32x4 = 16

-- the bytes of an index of a format
abbrev pub index_bytes : IndexFormat → ℕ
index_bytes index.Uint16 = 2
index_bytes index.Uint32 = 4
