use Rattle.std.proofs.Common.{◌≡◌, map, take}
use Rattle.std.specs.Prelude.{option_map}
use Rattle.wg_types.proofs.refs.map_maybes.Given as goal

abbrev pub invariant-loop-object : goal.invariant-loop-object
invariant-loop-object g l = l.found ≡ map (option_map (g.F.Find.finds l.find)) (take l.object-index l.objects)
