use Rattle.wg_calls.proofs.Infos.{info_is_made}
use Rattle.wg_calls.proofs.laws.made_infos.Goals as goal

pub returns : goal.returns
returns c = info_is_made
