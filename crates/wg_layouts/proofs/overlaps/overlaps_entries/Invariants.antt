use Rattle.std.proofs.Common.{◌≡◌}
use Rattle.std.specs.List.{list_any}
use Rattle.wg_model.specs.Bound.{overlap}
use Rattle.wg_layouts.specs.Places.{set_places_from}
use Rattle.wg_layouts.proofs.overlaps.overlaps_entries.Given as goal

abbrev pub invariant-loop-i : goal.invariant-loop-i
invariant-loop-i l = list_any (overlap l.place) (set_places_from l.set l.i) ≡ list_any (overlap l.place) (set_places_from l.set l.from)
