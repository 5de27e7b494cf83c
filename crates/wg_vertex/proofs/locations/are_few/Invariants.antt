use Rattle.std.proofs.Common.{◌≡◌, drop, length, nat_le}
use Rattle.wg_model.specs.Vertex.{all_attributes}
use Rattle.wg_vertex.proofs.locations.are_few.Given as goal

abbrev pub invariant-loop-buffer : goal.invariant-loop-buffer
invariant-loop-buffer l = nat_le (length (all_attributes (drop l.buffer-index l.buffers))) l.left ≡ nat_le (length (all_attributes l.buffers)) l.most
