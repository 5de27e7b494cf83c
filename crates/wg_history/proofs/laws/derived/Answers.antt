use Rattle.wg_history.proofs.laws.derived.Goals as goal
use Rattle.wg_history.proofs.Derived.{kind_serves, stencil_serves}

pub returns : goal.returns
returns _ = record { kind = kind_serves; stencil = stencil_serves }
