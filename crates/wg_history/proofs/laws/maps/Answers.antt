use Rattle.wg_history.proofs.laws.maps.Goals as goal
use Rattle.wg_history.proofs.MapLaws.{maps_are_single, pending_is_unmapped, maps_wait_for_last}

pub returns : goal.returns
returns _ = record { single = maps_are_single; unmapped = pending_is_unmapped; last = maps_wait_for_last }
