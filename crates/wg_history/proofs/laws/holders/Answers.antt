use Rattle.wg_history.proofs.Least.{held_is_least}
use Rattle.wg_history.proofs.laws.holders.Goals as goal

pub returns : goal.returns
returns _ setup history n run = held_is_least setup history n run
