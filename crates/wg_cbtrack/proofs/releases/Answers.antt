use Rattle.wg_cbtrack.proofs.Adding.{frees_keep}
use Rattle.wg_cbtrack.proofs.releases.Goals as goal

pub returns : goal.returns
returns c = frees_keep
