use Rattle.std.proofs.Common.{◌≡◌, drop}
use Rattle.wg_model.specs.Vertex.{ranges_serve}
use Rattle.wg_vertex.proofs.draws.fits.Given as goal

abbrev pub invariant-loop-slot : goal.invariant-loop-slot
invariant-loop-slot l = ranges_serve (drop l.slot l.buffers) l.ranges l.slot l.vertices l.instances ≡ ranges_serve l.buffers l.ranges 0 l.vertices l.instances
