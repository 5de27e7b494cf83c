use Rattle.wg_play.proofs.Passage.{lanes_go_through}
use Rattle.wg_play.proofs.laws.lanes_through.Goals as goal

pub returns : goal.returns
returns c = lanes_go_through
