use Rattle.std.proofs.Common.{◌≡◌, drop, nat_le}
use Rattle.wg_model.specs.Layouts.{all_entries}
use Rattle.wg_layouts.specs.Counted.{counted}
use Rattle.wg_layouts.proofs.counts.all_fit.Given as goal

abbrev pub invariant-loop-layout : goal.invariant-loop-layout
invariant-loop-layout l = nat_le (counted l.which l.sort (all_entries (drop l.layout-index l.layouts))) l.left
    ≡ nat_le (counted l.which l.sort (all_entries l.layouts)) l.most
