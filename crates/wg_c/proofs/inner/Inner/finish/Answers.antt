use Rattle.std.proofs.Common.{ap, sym, ◌∙◌}
use Rattle.wg_history.specs.declared.events.Setup.{Setup}
use Rattle.wg_calls.specs.Calls.{finish_of}
use Rattle.wg_desk.specs.Desks.{encoder_on}
use Rattle.wg_c.proofs.Inside.{waits_after_some}
use Rattle.wg_c.proofs.inner.Inner.finish.Goals as goal

pub invariant_of-self-in-Ok : goal.invariant_of-self-in-Ok
invariant_of-self-in-Ok c = record {
  waiting =
      waits_after_some c.self.inside.desk c.finish.new.self 0 (encoder_on c.self.inside.desk c.args.recorder.now) (λ encoder. finish_of encoder c.args.recorder.now) c.in-Ok.reply c.self.inside.items.items c.finish.new.items.items c.self.inside.told
      c.in-Ok.ensures.setup c.in-Ok.ensures.done c.in-Ok.ensures.items c.self.invariant.waiting;
  limits_are = c.self.invariant.limits_are ∙ ap (λ (setup : Setup). setup.limits) (sym c.in-Ok.ensures.setup);
}
