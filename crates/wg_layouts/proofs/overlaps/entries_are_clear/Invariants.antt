use Rattle.std.proofs.Common.{◌≡◌, ◌++◌}
use Rattle.wg_model.specs.Bound.{are_clear}
use Rattle.wg_layouts.specs.Places.{set_places_from, places_behind}
use Rattle.wg_layouts.proofs.overlaps.entries_are_clear.Given as goal

abbrev pub invariant-loop-i : goal.invariant-loop-i
invariant-loop-i l = are_clear (set_places_from l.set l.i ++ places_behind l.behind) ≡ are_clear (set_places_from l.set 0 ++ places_behind l.behind)
