use Rattle.wg_told.proofs.Drained.{as_many_fit}
use Rattle.wg_told.proofs.laws.as_many_fit.Goals as goal

pub returns : goal.returns
returns c = as_many_fit
