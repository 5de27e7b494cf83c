use Rattle.wg_told.proofs.Telling.{replies_told_apart}
use Rattle.wg_told.proofs.laws.replies_told_apart.Goals as goal

pub returns : goal.returns
returns c = replies_told_apart
