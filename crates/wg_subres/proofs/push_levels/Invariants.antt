use Rattle.std.proofs.Common.{◌≡◌, ◌++◌, ◌-◌}
use Rattle.wg_rows.specs.Rows.{numbers}
use Rattle.wg_model.specs.Subresources.{level_runs}
use Rattle.wg_subres.proofs.push_levels.Given as goal

abbrev pub invariant-loop-mip : goal.invariant-loop-mip
invariant-loop-mip l = l.runs ++ level_runs l.object l.layers.0 l.layers.1 (numbers l.mip l.mips.1) l.aspect ≡ l.fn.runs ++ level_runs l.object l.layers.0 l.layers.1 (numbers l.mips.0 l.mips.1) l.aspect

abbrev pub decreases-loop-mip : goal.decreases-loop-mip
decreases-loop-mip l = l.mips.1 - l.mip
