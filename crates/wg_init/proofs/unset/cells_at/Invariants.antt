use Rattle.std.proofs.Common.{◌≡◌, ◌++◌, drop}
use Rattle.wg_init.specs.Unset.{cells_at}
use Rattle.wg_init.proofs.unset.cells_at.Given as goal

abbrev pub invariant-loop-part : goal.invariant-loop-part
invariant-loop-part l = l.out.items ++ cells_at l.run (drop l.part-index l.runs) ≡ cells_at l.run l.runs
