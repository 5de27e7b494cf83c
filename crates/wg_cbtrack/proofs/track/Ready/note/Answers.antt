use Rattle.std.proofs.Common.{sym, subst}
use Rattle.wg_cbtrack.specs.Items.{noted}
use Rattle.wg_cbtrack.specs.Track.{Holds}
use Rattle.wg_cbtrack.specs.Near.{AreAllExchanged}
use Rattle.wg_cbtrack.proofs.Nearby.{holds_ordered}
use Rattle.wg_cbtrack.proofs.track.Ready.note.Goals as goal

pub exchange_all-requires-clause-ordered : goal.exchange_all-requires-clause-ordered
exchange_all-requires-clause-ordered c = holds_ordered (noted c.self.inside.kept.items) c.self.inside.kept.items c.self.inside.rows c.self.invariant.0

pub invariant_of-result : goal.invariant_of-result
invariant_of-result c = subst (λ xs. Holds (noted xs) xs c.exchange_all.new.rows) (sym c.append_reserved.ensures) (c.self.invariant.1 c.exchange_all.new.rows (subst (λ os. AreAllExchanged os c.self.inside.near c.self.inside.rows c.exchange_all.new.rows) c.as_slice.ensures.value c.exchange_all.ensures))
