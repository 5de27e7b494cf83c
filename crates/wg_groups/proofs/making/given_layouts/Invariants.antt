use Rattle.std.proofs.Common.{◌≡◌, ◌++◌, drop}
use Rattle.wg_model.specs.Making.{given_layouts}
use Rattle.wg_groups.proofs.making.given_layouts.Given as goal

abbrev pub invariant-loop-layout : goal.invariant-loop-layout
invariant-loop-layout g l = l.found ++ given_layouts (g.F.Find.finds l.find) (drop l.layout-index l.layouts) ≡ given_layouts (g.F.Find.finds l.find) l.layouts
