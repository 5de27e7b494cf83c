use Rattle.wg_told.proofs.Telling.{settlements_told_apart}
use Rattle.wg_told.proofs.laws.settlements_told_apart.Goals as goal

pub returns : goal.returns
returns c = settlements_told_apart
