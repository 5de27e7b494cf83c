use Rattle.std.proofs.Common.{◌≡◌, drop}
use Rattle.wg_model.specs.Render.{are_set}
use Rattle.wg_render.proofs.draws.are_set.Given as goal

abbrev pub invariant-loop-slot : goal.invariant-loop-slot
invariant-loop-slot l = are_set (drop l.slot l.buffers) l.ranges l.slot ≡ are_set l.buffers l.ranges 0
