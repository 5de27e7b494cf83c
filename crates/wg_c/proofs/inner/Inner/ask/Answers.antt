use Rattle.std.proofs.Common.{ap, sym, ◌∙◌}
use Rattle.wg_history.specs.declared.events.Setup.{Setup}
use Rattle.wg_desk.specs.Sent.{event_sent}
use Rattle.wg_c.proofs.Inside.{waits_after}
use Rattle.wg_c.proofs.inner.Inner.ask.Goals as goal

pub invariant_of-self-in-Ok : goal.invariant_of-self-in-Ok
invariant_of-self-in-Ok c = record {
  waiting =
      waits_after c.self.inside.desk c.ask.new.self 0 (event_sent c.self.inside.desk.seats c.args.request.now) c.in-Ok.reply c.self.inside.items.items c.ask.new.items.items c.self.inside.told
      c.in-Ok.ensures.setup c.in-Ok.ensures.done c.in-Ok.ensures.items c.self.invariant.waiting;
  limits_are = c.self.invariant.limits_are ∙ ap (λ (setup : Setup). setup.limits) (sym c.in-Ok.ensures.setup);
}
