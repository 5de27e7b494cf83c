use Rattle.std.proofs.Common.{◌≡◌, drop}
use Rattle.wg_model.specs.Vertex.{all_attributes, locations_are_distinct}
use Rattle.wg_vertex.proofs.locations.are_apart.Given as goal

abbrev pub invariant-loop-i : goal.invariant-loop-i
invariant-loop-i l = locations_are_distinct (all_attributes (drop l.i l.buffers)) ≡ locations_are_distinct (all_attributes l.buffers)
