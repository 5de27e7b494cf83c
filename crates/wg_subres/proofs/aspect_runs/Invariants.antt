use Rattle.std.proofs.Common.{◌≡◌, ◌++◌, drop}
use Rattle.wg_rows.specs.Rows.{numbers}
use Rattle.wg_model.specs.Subresources.{aspect_runs}
use Rattle.wg_subres.proofs.aspect_runs.Given as goal

abbrev pub invariant-loop-aspect : goal.invariant-loop-aspect
invariant-loop-aspect l = l.runs ++ aspect_runs l.object l.layers.0 l.layers.1 (numbers l.mips.0 l.mips.1) (drop l.aspect-index l.aspects) ≡ aspect_runs l.object l.layers.0 l.layers.1 (numbers l.mips.0 l.mips.1) l.aspects
