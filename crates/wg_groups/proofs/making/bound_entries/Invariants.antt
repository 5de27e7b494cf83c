use Rattle.std.proofs.Common.{◌≡◌, map, take}
use Rattle.wg_model.specs.Making.{bound_entry}
use Rattle.wg_groups.proofs.making.bound_entries.Given as goal

abbrev pub invariant-loop-entry : goal.invariant-loop-entry
invariant-loop-entry g l = l.found ≡ map (bound_entry (g.F.Find.finds l.find) (g.K.Known.knows l.known)) (take l.entry-index l.entries)
