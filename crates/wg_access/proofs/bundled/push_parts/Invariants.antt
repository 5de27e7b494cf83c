use Rattle.std.proofs.Common.{◌≡◌, ◌++◌, drop, map}
use Rattle.wg_model.specs.Bundles.{part_touched}
use Rattle.wg_access.proofs.bundled.push_parts.Given as goal

abbrev pub invariant-loop-row : goal.invariant-loop-row
invariant-loop-row l = l.found ++ map (part_touched l.used) (drop l.row-index l.uses) ≡ l.fn.found ++ map (part_touched l.used) l.uses
