use Rattle.wg_cbtrack.proofs.Standing.{begins}
use Rattle.wg_cbtrack.proofs.alone.begins_at.Goals as goal

pub returns-then-is_behind-clause-place : goal.returns-then-is_behind-clause-place
returns-then-is_behind-clause-place g c = λ e. begins g.T.Owned.object c.args.object c.args.rows.now c.args.at c.requires c.if-at-rows.false (c.is_behind.ensures c.if-is_behind.true) (c.is_before.ensures e)
