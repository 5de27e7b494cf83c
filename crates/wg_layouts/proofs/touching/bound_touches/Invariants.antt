use Rattle.std.proofs.Common.{◌≡◌, ◌++◌}
use Rattle.std.specs.List.{flat_map}
use Rattle.wg_model.specs.Bound.{place_touches}
use Rattle.wg_layouts.specs.Places.{places_from}
use Rattle.wg_layouts.proofs.touching.bound_touches.Given as goal

abbrev pub invariant-loop-i : goal.invariant-loop-i
invariant-loop-i l = l.touches ++ flat_map place_touches (places_from l.layouts l.groups l.i) ≡ flat_map place_touches (places_from l.layouts l.groups 0)
