use Rattle.wg_told.proofs.Fitting.{all_fit}
use Rattle.wg_told.proofs.limits.limits_fit.Goals as goal

pub returns : goal.returns
returns c = all_fit
