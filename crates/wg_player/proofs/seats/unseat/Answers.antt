use Rattle.std.proofs.Common.{◌≡◌, true, rules}
use Rattle.wg_player.proofs.Seating.{map_back, flat_back, all_back}
use Rattle.wg_player.proofs.seats.unseat.Goals as goal

pub loop-body-preserved : goal.loop-body-preserved
loop-body-preserved g c = let inv = c.loop-body.invariant in let is = c.in-Some.ensures.items in (
  map_back _ _ _ _ _ _ _ inv.0 is c.push_reserved.ensures.items,
  flat_back _ _ _ _ _ _ _ inv.1 is c.in_ok-append.ensures.items,
  all_back (λ b. b.through ≡ true) _ _ _ c.in-Some.body inv.2 is (search rules),
  search rules,
)
