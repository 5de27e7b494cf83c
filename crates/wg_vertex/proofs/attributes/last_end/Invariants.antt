use Rattle.std.proofs.Common.{◌≡◌, drop, max}
use Rattle.wg_model.specs.Vertex.{last_end}
use Rattle.wg_vertex.proofs.attributes.last_end.Given as goal

abbrev pub invariant-loop-attribute : goal.invariant-loop-attribute
invariant-loop-attribute l = max l.last (last_end (drop l.attribute-index l.attributes)) ≡ last_end l.attributes
