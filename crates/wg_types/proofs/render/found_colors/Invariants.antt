use Rattle.std.proofs.Common.{◌≡◌, map, take}
use Rattle.std.specs.Prelude.{option_map}
use Rattle.wg_types.specs.Render.{map_color}
use Rattle.wg_types.proofs.render.found_colors.Given as goal

abbrev pub invariant-loop-color : goal.invariant-loop-color
invariant-loop-color g l = l.found ≡ map (option_map (map_color (g.F.Find.finds l.find))) (take l.color-index l.colors)
