use Rattle.wg_pipes.proofs.StencilChanges.{stencil_changes}
use Rattle.wg_pipes.proofs.laws.stencil_changes.Goals as goal

pub returns : goal.returns
returns _ culled front back write_mask fits = stencil_changes culled front back write_mask fits
