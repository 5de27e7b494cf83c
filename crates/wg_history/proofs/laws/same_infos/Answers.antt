use Rattle.wg_history.proofs.BindingLaws.{infos_tell}
use Rattle.wg_history.proofs.laws.same_infos.Goals as goal

pub returns : goal.returns
returns _ a b = infos_tell a b
