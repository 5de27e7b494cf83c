use Rattle.wg_cbtrack.proofs.Nearing.{cells_apart}
use Rattle.wg_cbtrack.proofs.about.near_cells.Goals as goal

pub returns-clause-apart : goal.returns-clause-apart
returns-clause-apart c = cells_apart c.args.run c.args.rows.now c.near_run.result.now c.near_run.ensures c.requires.apart
