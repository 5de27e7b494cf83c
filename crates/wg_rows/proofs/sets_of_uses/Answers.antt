use Rattle.wg_rows.proofs.sets_of_uses.Goals as goal
use Rattle.wg_rows.proofs.Sets.{sets_join, sets_of, sets_tell}

pub returns : goal.returns
returns _ = record { are = sets_of; tell = sets_tell; join = sets_join }
