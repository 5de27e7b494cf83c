use Rattle.std.proofs.Common.{◌≡◌}
use Rattle.wg_model.specs.Bound.{are_clear}
use Rattle.wg_layouts.specs.Places.{places_from}
use Rattle.wg_layouts.proofs.overlaps.are_clear.Given as goal

abbrev pub invariant-loop-i : goal.invariant-loop-i
invariant-loop-i l = are_clear (places_from l.layouts l.groups l.i) ≡ are_clear (places_from l.layouts l.groups 0)
