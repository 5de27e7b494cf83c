use Rattle.wg_maps.specs.Waits.{waiting}
use Rattle.wg_maps.proofs.PendingLemmas.{found_settled}
use Rattle.wg_maps.proofs.ListedLemmas.{settled_pending}
use Rattle.wg_maps.proofs.waits.Waits.settle.Goals as goal

pub returns-clause-found : goal.returns-clause-found
returns-clause-found c =
    rw (← c.self.view_is) (rw (settled_pending _ _ _ _ _ _ c.settle_due.ensures.settling c.settle_due.ensures.later)
    (found_settled c.args.completed (waiting c.self.inside.promises.entries c.self.inside.listed.items) c.self.invariant.kept.once))
