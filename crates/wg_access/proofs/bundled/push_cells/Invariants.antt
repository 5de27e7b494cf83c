use Rattle.std.proofs.Common.{◌≡◌, ◌++◌, drop, map}
use Rattle.wg_model.specs.Bundles.{cells_touched}
use Rattle.wg_access.proofs.bundled.push_cells.Given as goal

abbrev pub invariant-loop-row : goal.invariant-loop-row
invariant-loop-row l = l.found ++ map (cells_touched l.used) (drop l.row-index l.accesses) ≡ l.fn.found ++ map (cells_touched l.used) l.accesses
