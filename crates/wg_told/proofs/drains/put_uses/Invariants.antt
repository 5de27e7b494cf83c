use Rattle.std.proofs.Common.{◌≡◌, take, length}
use Rattle.wg_told.specs.Drains.{uses_told, over}
use Rattle.wg_told.proofs.drains.put_uses.Given as goal

abbrev pub invariant-loop-item : goal.invariant-loop-item
invariant-loop-item l =
    (l.out ≡ over (uses_told (take l.item-index l.items)) l.initial.out) × (l.count ≡ length (uses_told (take l.item-index l.items)))
