use Rattle.std.proofs.Common.{◌≡◌, drop}
use Rattle.std.specs.List.{list_all}
use Rattle.wg_types.specs.declared.groups.GroupLayoutInfo.{GroupLayoutInfo}
use Rattle.wg_model.specs.Automatic.{entries_meet}
use Rattle.wg_auto.proofs.checks.all_meet.Given as goal

abbrev pub invariant-loop-layout : goal.invariant-loop-layout
invariant-loop-layout l =
    list_all (λ (layout : GroupLayoutInfo). entries_meet l.limits layout.entries) (drop l.layout-index l.layouts)
    ≡ list_all (λ (layout : GroupLayoutInfo). entries_meet l.limits layout.entries) l.layouts
