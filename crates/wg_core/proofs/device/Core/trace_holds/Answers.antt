use Rattle.std.proofs.Common.{refl}
use Rattle.wg_history.specs.Traces.{Trace}
use Rattle.wg_core.proofs.Tracing.{orders_agree, released_as, released_by_then}
use Rattle.wg_core.proofs.device.Core.trace_holds.Goals as goal

pub returns-clause-orders : goal.returns-clause-orders
returns-clause-orders c = orders_agree c.args.self.now.setup c.args.self.now.history (Trace c.args.self.now.setup c.args.self.now.history) refl

pub returns-clause-releases : goal.returns-clause-releases
returns-clause-releases c n = released_as c.args.self.now.setup c.args.self.now.history (Trace c.args.self.now.setup c.args.self.now.history) n refl c.args.self.now.run

pub returns-clause-by_then : goal.returns-clause-by_then
returns-clause-by_then c before later n parts = released_by_then c.args.self.now.setup c.args.self.now.history (Trace c.args.self.now.setup c.args.self.now.history) before later n refl parts
