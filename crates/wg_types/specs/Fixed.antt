-- What vertices make (WebGPU, "Primitive State").
use Rattle.std.specs.Prelude.{Bool, true, false, Option, Some, None, if◌then◌else◌}
use Rattle.wg_types.specs.declared.vertex.IndexFormat.{IndexFormat}
use Rattle.wg_types.specs.declared.fixed.Topology.{Topology}
use Rattle.wg_types.specs.declared.fixed.Topology.TheVariants.{PointList, LineList, LineStrip, TriangleList, TriangleStrip}
use Rattle.wg_types.specs.declared.fixed.PrimitiveState.{PrimitiveState}

-- whether vertices go on with what those before them made
abbrev pub is_strip : Topology → Bool
is_strip PointList = false
is_strip LineList = false
is_strip LineStrip = true
is_strip TriangleList = false
is_strip TriangleStrip = true

-- of what format the indexes of strips are, if that is told, where strips are made
abbrev pub strip_of : PrimitiveState → Option (Option IndexFormat)
strip_of primitive = if is_strip primitive.topology then Some primitive.strip_index_format else None
