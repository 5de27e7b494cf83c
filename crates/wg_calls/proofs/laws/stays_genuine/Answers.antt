use Rattle.wg_calls.proofs.Genuine.{stays_genuine}
use Rattle.wg_calls.proofs.laws.stays_genuine.Goals as goal

pub returns : goal.returns
returns c = stays_genuine
