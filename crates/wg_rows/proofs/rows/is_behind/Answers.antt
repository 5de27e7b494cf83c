use Rattle.std.proofs.Common.{◌∙◌, sym}
use Rattle.wg_rows.proofs.Chained.{followed}
use Rattle.wg_rows.proofs.rows.is_behind.Goals as goal

pub returns-in-Some : goal.returns-in-Some
returns-in-Some g c holds chained = followed g.R.Run.sort c.args.rows.now c.in-Some.field-0-1.now c.in-Some.last.now c.args.row c.in-Some.ensures.cases.0 (sym c.ends_before.ensures ∙ holds) chained
