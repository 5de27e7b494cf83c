use Rattle.std.proofs.Common.{◌≡◌, drop, ◌==◌}
use Rattle.std.specs.List.{list_any}
use Rattle.wg_types.specs.declared.vertex.VertexAttribute.{VertexAttribute}
use Rattle.wg_model.specs.Vertex.{all_attributes}
use Rattle.wg_vertex.proofs.locations.buffers_have.Given as goal

abbrev pub invariant-loop-buffer : goal.invariant-loop-buffer
invariant-loop-buffer l = list_any (λ (other : VertexAttribute). other.location == l.location) (all_attributes (drop l.buffer-index l.buffers)) ≡ list_any (λ (other : VertexAttribute). other.location == l.location) (all_attributes l.buffers)
