use Rattle.std.proofs.Common.{◌≡◌, drop}
use Rattle.wg_play.specs.Play.{most_lanes}
use Rattle.wg_player.proofs.whole.lanes_of.Given as goal

abbrev pub invariant-loop-lanes : goal.invariant-loop-lanes
invariant-loop-lanes l = most_lanes 1 l.phases ≡ most_lanes l.most (drop l.lanes-index l.phases)
