use Rattle.std.proofs.Common.{◌≡◌, ap, subst, reverse, ◌∙◌, ◌++◌, Option, Some, option_to_list, unwrap_or}
use Rattle.wg_types.specs.declared.handles.Info.{Info}
use Rattle.wg_encoder.specs.Recorders.{RecordingValue}
use Rattle.wg_history.specs.declared.events.Event.{Event}
use Rattle.wg_state.specs.Gone.{named_by}
use Rattle.wg_desk.specs.Seats.{seat_made, AreSeated}
use Rattle.wg_desk.specs.Sent.{handed_over}
use Rattle.wg_desk.specs.Desks.{DeskValue, any_dropped}
use Rattle.wg_desk.proofs.Seating.{next_number}
use Rattle.wg_desk.proofs.Sending.{finished_so, finish_names, finish_leaves, hands_over, is_handed_over}
use Rattle.wg_desk.proofs.desk.Desk.hand_over.Goals as goal

pub send-requires-clause-makes : goal.send-requires-clause-makes
send-requires-clause-makes c = finished_so c.args.self.now.setup c.args.self.now.history c.args.recording.targets c.args.encoder c.args.recording c.finish_event.result c.in-Ok.info c.finish_event.ensures c.in-Ok.ensures

pub send-requires-clause-undropped : goal.send-requires-clause-undropped
send-requires-clause-undropped c =
    ap (λ (event : Event). any_dropped c.args.self.now.setup (reverse c.args.self.now.history) (named_by event)) c.finish_event.ensures
    ∙ finish_names c.args.self.now.setup (reverse c.args.self.now.history) c.args.recording.targets c.args.encoder c.args.recording c.requires

pub recording_in-requires : goal.recording_in-requires
recording_in-requires c = hands_over c.args.recording.targets c.args.encoder c.args.recording c.in-Err.refused.call (c.in-Err.ensures.back ∙ c.finish_event.ensures)

pub returns-in-Ok-send-clause-seats : goal.returns-in-Ok-send-clause-seats
returns-in-Ok-send-clause-seats c =
    c.in-Ok-send.ensures.seats
    ∙ (finish_leaves c.args.recording.targets c.args.encoder c.args.recording c.finish_event.result _ c.finish_event.ensures
    ∙ ap (λ (info : Info). c.args.self.now.seats ++ option_to_list (seat_made c.args.self.now.setup (Some info) c.in-Ok-send.reply.answer)) c.in-Ok.ensures)

pub returns-in-Ok-send-clause-number : goal.returns-in-Ok-send-clause-number
returns-in-Ok-send-clause-number c =
    let seated : AreSeated c.args.self.now.setup c.args.self.now.history c.args.self.now.seats
    = subst (λ (v : DeskValue). AreSeated v.setup v.history v.seats) c.self.view_is c.self.invariant.seated in
    next_number c.args.self.now.setup c.args.self.now.history c.args.self.now.seats c.finish_event.result c.in-Ok-send.reply seated c.in-Ok-send.ensures.done.replied

pub returns-in-Err-clause-back : goal.returns-in-Err-clause-back
returns-in-Err-clause-back c =
    let same : Some c.recording_in.result ≡ Some c.args.recording = c.recording_in.ensures ∙ (ap handed_over (c.in-Err.ensures.back ∙ c.finish_event.ensures) ∙ is_handed_over c.args.recording.targets c.args.encoder c.args.recording) in
    ap (λ (o : Option RecordingValue). unwrap_or o c.args.recording) same
