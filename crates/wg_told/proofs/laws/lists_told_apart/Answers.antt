use Rattle.wg_told.proofs.Drained.{lists_told_apart}
use Rattle.wg_told.proofs.laws.lists_told_apart.Goals as goal

pub returns : goal.returns
returns c = lists_told_apart
