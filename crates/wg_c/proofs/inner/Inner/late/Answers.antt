use Rattle.std.proofs.Common.{ap, sym, ◌∙◌}
use Rattle.wg_history.specs.declared.events.Setup.{Setup}
use Rattle.wg_history.specs.declared.events.Event.TheVariants.{Late}
use Rattle.wg_desk.specs.Desks.{encoder_on}
use Rattle.wg_c.proofs.Inside.{waits_after_some}
use Rattle.wg_c.proofs.inner.Inner.late.Goals as goal

pub invariant_of-self-in-Ok : goal.invariant_of-self-in-Ok
invariant_of-self-in-Ok c = record {
  waiting =
      waits_after_some c.self.inside.desk c.late.new.self 0 (encoder_on c.self.inside.desk c.args.recorder.now) (λ encoder. Late encoder) c.in-Ok.reply c.self.inside.items.items c.late.new.items.items c.self.inside.told
      c.in-Ok.ensures.setup c.in-Ok.ensures.done c.in-Ok.ensures.items c.self.invariant.waiting;
  limits_are = c.self.invariant.limits_are ∙ ap (λ (setup : Setup). setup.limits) (sym c.in-Ok.ensures.setup);
}
