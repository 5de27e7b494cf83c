use Rattle.std.proofs.Common.{rules, ◌∙◌}
use Rattle.wg_player.proofs.Going.{moves_at}
use Rattle.wg_player.proofs.lane.play_lane.Goals as goal

pub loop-index-preserved : goal.loop-index-preserved
loop-index-preserved g c = record {
  of = c.play_call.ensures.called.of;
  same = (c.play_call.ensures.same.0 ∙ c.loop-index.invariant.same.0, c.play_call.ensures.same.1 ∙ c.loop-index.invariant.same.1);
  moves = moves_at _ _ _ _ _ c.args.calls.now c.loop-index.index _ _ _ _ c.loop-index.invariant.moves c.in_ok-play_call.ensures.played c.play_call.ensures.called (search rules) (search rules);
}
