use Rattle.std.proofs.Common.{◌≡◌, take}
use Rattle.wg_told.specs.Drains.{items_told, over}
use Rattle.wg_told.proofs.drains.put_items.Given as goal

abbrev pub invariant-loop-index : goal.invariant-loop-index
invariant-loop-index l = l.out ≡ over (items_told (take l.index l.items)) l.initial.out
