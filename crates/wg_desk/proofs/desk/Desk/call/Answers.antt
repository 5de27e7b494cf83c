use Rattle.std.proofs.Common.{ap, ap₂, length, reverse, ◌∙◌, ◌++◌, Option, option_to_list}
use Rattle.wg_types.specs.declared.handles.Info.{Info}
use Rattle.wg_history.specs.declared.events.Event.{Event}
use Rattle.wg_state.specs.Gone.{named_by}
use Rattle.wg_desk.specs.Seats.{seat_made}
use Rattle.wg_desk.specs.Sent.{left_after, recorder_made}
use Rattle.wg_desk.specs.Desks.{any_dropped}
use Rattle.wg_desk.proofs.Sending.{asked_so, asked_names}
use Rattle.wg_desk.proofs.desk.Desk.call.Goals as goal

pub send-requires-clause-makes : goal.send-requires-clause-makes
send-requires-clause-makes c = asked_so c.args.self.now.setup c.args.self.now.history c.args.request.now c.in_ok-event.event c.in_ok-info.info c.in_ok-event.ensures c.in_ok-info.ensures c.requires.genuine

pub send-requires-clause-undropped : goal.send-requires-clause-undropped
send-requires-clause-undropped c =
    ap (λ (event : Event). any_dropped c.args.self.now.setup (reverse c.args.self.now.history) (named_by event)) c.in_ok-event.ensures
    ∙ (asked_names c.args.self.now.setup (reverse c.args.self.now.history) c.args.request.now ∙ c.requires.undropped)

pub returns-in-Ok-clause-seats : goal.returns-in-Ok-clause-seats
returns-in-Ok-clause-seats c =
    c.in-Ok.ensures.seats
    ∙ ap₂ (λ (event : Event) (known : Option Info). left_after event (c.args.self.now.seats ++ option_to_list (seat_made c.args.self.now.setup known c.in-Ok.reply.answer))) c.in_ok-event.ensures c.in_ok-info.ensures

pub returns-in-Ok-clause-recorder : goal.returns-in-Ok-clause-recorder
returns-in-Ok-clause-recorder c =
    c.in_ok-recorder.ensures ∙ ap (λ (known : Option Info). recorder_made c.args.self.now.setup (length c.args.self.now.seats) known) c.in_ok-info.ensures
