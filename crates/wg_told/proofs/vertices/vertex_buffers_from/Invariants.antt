use Rattle.std.proofs.Common.{◌≡◌, drop}
use Rattle.wg_told.specs.Flats.{vertex_buffers_from}
use Rattle.wg_told.proofs.Lists.{joined}
use Rattle.wg_told.proofs.vertices.vertex_buffers_from.Given as goal

abbrev pub invariant-loop-index : goal.invariant-loop-index
invariant-loop-index l = joined l.found (vertex_buffers_from l.attributes l.index (drop l.index l.buffers)) ≡ vertex_buffers_from l.attributes 0 l.buffers
