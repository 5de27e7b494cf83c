use Rattle.std.proofs.Common.{◌≡◌, ◌++◌, drop}
use Rattle.std.specs.List.{flat_map}
use Rattle.wg_model.specs.Attachments.{color_touches}
use Rattle.wg_render.proofs.targets.push_colors.Given as goal

abbrev pub invariant-loop-color : goal.invariant-loop-color
invariant-loop-color l = l.touches ++ flat_map color_touches (drop l.color-index l.colors) ≡ l.initial.touches ++ flat_map color_touches l.colors
