use Rattle.std.proofs.Common.{◌≤◌, ◌+◌, take, length, vec_len, vec_capacity}
use Rattle.wg_cbtrack.specs.Owners.{AreExchanged}
use Rattle.wg_cbtrack.proofs.owners.exchange.Given as goal

abbrev pub invariant-loop-object : goal.invariant-loop-object
invariant-loop-object g l = AreExchanged g.T.Owned.object (take l.object-index l.objects) l.mine l.fn.rows.items l.rows.items × (vec_len l.fn.rows + length l.mine ≤ vec_capacity l.rows)
