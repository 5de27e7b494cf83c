use Rattle.std.proofs.Common.{◌≡◌, drop}
use Rattle.wg_model.specs.Vertex.{all_attributes}
use Rattle.wg_vertex.specs.Apart.{apart_from}
use Rattle.wg_vertex.proofs.locations.are_apart_from.Given as goal

abbrev pub invariant-loop-i : goal.invariant-loop-i
invariant-loop-i l = apart_from (drop l.i l.attributes) (all_attributes l.further) ≡ apart_from l.attributes (all_attributes l.further)
