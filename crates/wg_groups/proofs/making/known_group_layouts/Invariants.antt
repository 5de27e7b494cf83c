use Rattle.std.proofs.Common.{◌≡◌, map, take, option_and_then}
use Rattle.wg_model.specs.Making.{known_group_layout}
use Rattle.wg_groups.proofs.making.known_group_layouts.Given as goal

abbrev pub invariant-loop-layout : goal.invariant-loop-layout
invariant-loop-layout g l = l.found ≡ map (λ layout. known_group_layout (option_and_then (g.K.Known.knows l.known) layout)) (take l.layout-index l.layouts)
