use Rattle.std.proofs.Common.{◌≡◌, ◌++◌, drop}
use Rattle.wg_render.specs.Attached.{formats_in}
use Rattle.wg_render.proofs.targets.color_formats.Given as goal

abbrev pub invariant-loop-color : goal.invariant-loop-color
invariant-loop-color l = l.formats ++ formats_in (drop l.color-index l.colors) ≡ formats_in l.colors
