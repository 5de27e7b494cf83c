use Rattle.std.proofs.Common.{◌∙◌, ap}
use Rattle.wg_scopes.specs.OfObject.{taken}
use Rattle.wg_scopes.proofs.OfObject.{whole, rows_are}
use Rattle.wg_scopes.proofs.rows_of.Goals as goal

pub returns : goal.returns
returns c = c.count_of-count.ensures.those ∙ (ap (taken c.args.object) (whole c.count_before-lo.result c.args.rows.now ∙ c.count_before-lo.ensures.rest) ∙ rows_are c.args.object c.args.rows.now c.requires)
