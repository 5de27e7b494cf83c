use Rattle.std.proofs.Common.{◌≡◌, map, take}
use Rattle.wg_types.specs.Bindings.{map_entry}
use Rattle.wg_types.proofs.bindings.map_entries.Given as goal

abbrev pub invariant-loop-entry : goal.invariant-loop-entry
invariant-loop-entry g l = l.found ≡ map (map_entry (g.F.Find.finds l.find)) (take l.entry-index l.entries)
