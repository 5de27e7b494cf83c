use Rattle.std.proofs.Common.{◌≡◌, ◌≤◌, drop}
use Rattle.wg_check.specs.Cells.{cell_from}
use Rattle.wg_check.proofs.clashes.cell_of.Given as goal

abbrev pub invariant-loop-item : goal.invariant-loop-item
invariant-loop-item l = (cell_from l.place l.step l.key (drop l.item-index l.items) ≡ cell_from 0 l.step l.key l.items) × (l.place ≤ l.item-index)
