use Rattle.std.proofs.Common.{◌≡◌, take, length}
use Rattle.wg_told.specs.Drains.{accesses_told, over}
use Rattle.wg_told.proofs.drains.put_accesses.Given as goal

abbrev pub invariant-loop-item : goal.invariant-loop-item
invariant-loop-item l =
    (l.out ≡ over (accesses_told (take l.item-index l.items)) l.initial.out) × (l.count ≡ length (accesses_told (take l.item-index l.items)))
