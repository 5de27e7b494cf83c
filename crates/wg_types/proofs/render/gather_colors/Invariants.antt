use Rattle.std.proofs.Common.{◌≡◌, ◌++◌, take}
use Rattle.std.specs.List.{flat_map}
use Rattle.wg_trace.specs.Added.{BeginsWith}
use Rattle.wg_types.specs.Render.{color_named}
use Rattle.wg_types.proofs.render.gather_colors.Given as goal

abbrev pub invariant-loop-color : goal.invariant-loop-color
invariant-loop-color g l =
    (l.found.items ≡ l.initial.found.items ++ flat_map (g.G.Gather.gathers l.gather) (flat_map color_named (take l.color-index l.colors)))
    × BeginsWith l.found.items l.initial.found.items
