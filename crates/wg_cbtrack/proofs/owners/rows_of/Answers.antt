use Rattle.wg_cbtrack.proofs.Owning.{middle_is}
use Rattle.wg_cbtrack.proofs.owners.rows_of.Goals as goal

pub returns : goal.returns
returns g c = middle_is g.T.Owned.object c.args.object c.args.rows.now c.start_of.result c.end_of.result c.requires c.start_of.ensures.place c.end_of.ensures.place
