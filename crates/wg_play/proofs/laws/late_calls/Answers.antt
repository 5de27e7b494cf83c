use Rattle.wg_play.proofs.LateLaw.{late_is_finished}
use Rattle.wg_play.proofs.laws.late_calls.Goals as goal

pub returns : goal.returns
returns c = late_is_finished
