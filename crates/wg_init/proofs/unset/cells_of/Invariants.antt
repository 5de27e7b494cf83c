use Rattle.std.proofs.Common.{◌≡◌, ◌++◌, drop, map}
use Rattle.wg_init.proofs.unset.cells_of.Given as goal

abbrev pub invariant-loop-row : goal.invariant-loop-row
invariant-loop-row l = l.out.items ++ map (λ row. row.0) (drop l.row-index l.rows) ≡ map (λ row. row.0) l.rows
