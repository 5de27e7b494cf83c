use Rattle.std.proofs.Common.{◌≡◌, ◌++◌}
use Rattle.std.specs.List.{flat_map}
use Rattle.wg_model.specs.Bound.{place_touches}
use Rattle.wg_layouts.specs.Places.{set_places_from}
use Rattle.wg_layouts.proofs.touching.touch_entries.Given as goal

abbrev pub invariant-loop-i : goal.invariant-loop-i
invariant-loop-i l = l.touches ++ flat_map place_touches (set_places_from l.set l.i) ≡ l.initial.touches ++ flat_map place_touches (set_places_from l.set 0)
