use Rattle.wg_turn.specs.Passes.{IsPassOf}
use Rattle.wg_device.specs.Fronts.{setup_of}
use Rattle.wg_play.specs.Sights.{SeesSame, sight_of}
use Rattle.wg_player.specs.Moves.{PassMoves, lane_at}
use Rattle.wg_player.proofs.lane.play_lane.Given as goal

abbrev pub invariant-loop-index : goal.invariant-loop-index
invariant-loop-index g l = record {
  of : IsPassOf l.device.lock l.pass;
  same : SeesSame l.initial.seen l.seen;
  moves : PassMoves (setup_of l.device.lock) l.device.lock (lane_at (sight_of l.initial.seen) l.calls 0) (lane_at (sight_of l.seen) l.calls l.index) l.initial.pass l.pass;
}
