-- Each format takes bytes.
use Rattle.std.proofs.Common.{◌<◌, lit<}
use Rattle.wg_types.specs.Vertex.{vertex_bytes}
use Rattle.wg_types.specs.declared.vertex.VertexFormat.{VertexFormat}
use Rattle.wg_types.specs.declared.vertex.VertexFormat.TheVariants.{Uint8x2, Uint8x4, Unorm8x4, Uint16x2, Float16x2, Float32, Uint32, Sint32, Float16x4, Float32x2, Float32x3, Float32x4}

pub takes_bytes : (format : VertexFormat) → 0 < vertex_bytes format
takes_bytes Uint8x2 = lit< tt
takes_bytes Uint8x4 = lit< tt
takes_bytes Unorm8x4 = lit< tt
takes_bytes Uint16x2 = lit< tt
takes_bytes Float16x2 = lit< tt
takes_bytes Float32 = lit< tt
takes_bytes Uint32 = lit< tt
takes_bytes Sint32 = lit< tt
takes_bytes Float16x4 = lit< tt
takes_bytes Float32x2 = lit< tt
takes_bytes Float32x3 = lit< tt
takes_bytes Float32x4 = lit< tt
