use Rattle.std.proofs.Common.{refl, ap, sym}
use Rattle.wg_history.specs.declared.events.Setup.{Setup}
use Rattle.wg_c.proofs.Inside.{none_waits}
use Rattle.wg_c.proofs.inner.Inner.open.Goals as goal

pub invariant_of-result : goal.invariant_of-result
invariant_of-result c = record {
  waiting = none_waits c.open.result.setup c.open.result.history c.new.result.items 0 c.open.ensures.history c.new.ensures.items refl;
  limits_are = ap (λ (setup : Setup). setup.limits) (sym c.open.ensures.setup);
}
