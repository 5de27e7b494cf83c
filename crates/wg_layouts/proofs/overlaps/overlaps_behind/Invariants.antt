use Rattle.std.proofs.Common.{◌≡◌}
use Rattle.std.specs.List.{list_any}
use Rattle.wg_model.specs.Bound.{overlap}
use Rattle.wg_layouts.specs.Places.{places_from, places_behind}
use Rattle.wg_layouts.proofs.overlaps.overlaps_behind.Given as goal

abbrev pub invariant-loop-i : goal.invariant-loop-i
invariant-loop-i l = list_any (overlap l.place) (places_from l.behind.layouts.now l.behind.groups.now l.i) ≡ list_any (overlap l.place) (places_behind l.behind)
