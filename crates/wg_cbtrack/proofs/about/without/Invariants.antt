use Rattle.std.proofs.Common.{◌≡◌, [], ◌∷◌, take}
use Rattle.std.specs.List.{flat_map}
use Rattle.wg_rows.specs.Cut.{gaps}
use Rattle.wg_rows.specs.Runs.{PartRun, part_sort}
use Rattle.wg_rows.specs.Uses.{Usages}
use Rattle.wg_cbtrack.proofs.about.without.Given as goal

abbrev pub invariant-loop-row : goal.invariant-loop-row
invariant-loop-row l = l.out.items ≡ flat_map (λ (u : PartRun × Usages). gaps part_sort (u ∷ []) l.uses) (take l.row-index l.rows)
