use Rattle.std.proofs.Common.{◌≡◌, drop, nat_lt}
use Rattle.std.specs.List.{list_all}
use Rattle.wg_types.specs.declared.vertex.VertexAttribute.{VertexAttribute}
use Rattle.wg_model.specs.Vertex.{all_attributes}
use Rattle.wg_vertex.proofs.locations.are_below.Given as goal

abbrev pub invariant-loop-buffer : goal.invariant-loop-buffer
invariant-loop-buffer l = list_all (λ (attribute : VertexAttribute). nat_lt attribute.location l.most) (all_attributes (drop l.buffer-index l.buffers)) ≡ list_all (λ (attribute : VertexAttribute). nat_lt attribute.location l.most) (all_attributes l.buffers)
