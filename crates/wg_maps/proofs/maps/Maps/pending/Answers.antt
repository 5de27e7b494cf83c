use Rattle.std.proofs.Common.{◌≡◌, rules}
use Rattle.wg_maps.specs.Mappings.{promises}
use Rattle.wg_maps.proofs.PendingLemmas.{promises_in_order}
use Rattle.wg_maps.proofs.maps.Maps.pending.Goals as goal

pub returns-clause-in_order : goal.returns-clause-in_order
returns-clause-in_order c =
    let items : c.in_ok-list.list.items ≡ promises c.in_ok-waits.waits.items = search rules in
    rw items (promises_in_order c.in_ok-waits.waits.items c.in_ok-waits.ensures.in_order)
