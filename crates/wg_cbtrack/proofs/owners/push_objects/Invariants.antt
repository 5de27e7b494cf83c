use Rattle.std.proofs.Common.{◌≡◌, ◌++◌, map, drop}
use Rattle.wg_cbtrack.proofs.owners.push_objects.Given as goal

abbrev pub invariant-loop-row : goal.invariant-loop-row
invariant-loop-row g l = l.out.items ++ map g.T.Owned.object (drop l.row-index l.rows) ≡ l.fn.out.items ++ map g.T.Owned.object l.rows
