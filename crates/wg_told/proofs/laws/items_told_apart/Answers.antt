use Rattle.wg_told.proofs.Telling.{items_told_apart}
use Rattle.wg_told.proofs.laws.items_told_apart.Goals as goal

pub returns : goal.returns
returns c = items_told_apart
