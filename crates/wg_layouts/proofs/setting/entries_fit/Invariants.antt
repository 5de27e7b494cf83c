use Rattle.std.proofs.Common.{◌≡◌, drop}
use Rattle.std.specs.List.{list_all}
use Rattle.wg_model.specs.Bound.{place_fits}
use Rattle.wg_layouts.specs.Places.{entries_places}
use Rattle.wg_layouts.proofs.setting.entries_fit.Given as goal

abbrev pub invariant-loop-i : goal.invariant-loop-i
invariant-loop-i l = list_all place_fits (entries_places l.layout l.offsets (drop l.i l.entries)) ≡ list_all place_fits (entries_places l.layout l.offsets l.entries)
