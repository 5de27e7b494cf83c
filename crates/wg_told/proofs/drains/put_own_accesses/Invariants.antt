use Rattle.std.proofs.Common.{◌≡◌, map, take}
use Rattle.wg_told.specs.Items.{access_told}
use Rattle.wg_told.specs.Drains.{over}
use Rattle.wg_told.proofs.drains.put_own_accesses.Given as goal

abbrev pub invariant-loop-index : goal.invariant-loop-index
invariant-loop-index l = l.out ≡ over (map access_told (take l.index l.accesses)) l.initial.out
