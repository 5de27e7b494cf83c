use Rattle.std.proofs.Common.{◌≡◌, drop}
use Rattle.wg_told.specs.Flats.{attributes_at}
use Rattle.wg_told.proofs.Lists.{joined}
use Rattle.wg_told.proofs.vertices.attributes_at.Given as goal

abbrev pub invariant-loop-attribute : goal.invariant-loop-attribute
invariant-loop-attribute l = joined l.found (attributes_at (drop l.attribute-index l.attributes) l.index) ≡ attributes_at l.attributes l.index
