use Rattle.std.proofs.Common.{subst}
use Rattle.wg_orders.specs.Trace.{steps_of}
use Rattle.wg_history.specs.Traces.{Trace}
use Rattle.wg_core.specs.Cores.{FadingCoreValue, FindsUnset}
use Rattle.wg_core.proofs.device.FadingCore.first_unset.Goals as goal

pub returns : goal.returns
returns c =
    subst (λ (v : FadingCoreValue). FindsUnset v.setup v.history c.args.buffer c.args.lo c.args.hi c.first_unset.result) c.self.view_is
    (c.first_unset.ensures (steps_of (Trace c.self.inside.state.setup c.self.inside.state.history)) c.self.invariant.tracked)
