use Rattle.wg_rows.proofs.cells_lie.Goals as goal
use Rattle.wg_rows.proofs.Lying.{cells_lie}

pub returns : goal.returns
returns _ = cells_lie
