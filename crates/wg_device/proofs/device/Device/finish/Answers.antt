use Rattle.std.proofs.Common.{◌≡◌, true, Option, None, is_some, sym, ap, ◌∙◌, subst, true≢false}
use Rattle.std.specs.Arc.{arc_value}
use Rattle.wg_types.specs.Handles.{HandleValue}
use Rattle.wg_encoder.specs.Recorders.{RecorderValue, RecordingValue}
use Rattle.wg_history.specs.declared.events.Event.{Event}
use Rattle.wg_calls.specs.Calls.{finish_event, finished_info, finish_of, known_of_finish, handle_of}
use Rattle.wg_device.specs.Fronts.{Lock, setup_of, IsAct}
use Rattle.wg_device.proofs.Calling.{finished_gives}
use Rattle.wg_device.proofs.device.Device.finish.Goals as goal

-- A finish makes an object, and so there is a handle of it.
pub unreachable-requires : goal.unreachable-requires
unreachable-requires g c =
    let lock : Lock = c.args.self.now.lock in
    let recorder : RecorderValue = c.args.recorder.now in
    let is : c.finish_event.result ≡ finish_of c.unwrap-encoder.result recorder
    = c.finish_event.ensures ∙ ap (λ (r : RecordingValue). finish_event r.targets c.unwrap-encoder.result r) c.take-recording.ensures.recording in
    let known : arc_value c.in-Ok.info ≡ known_of_finish recorder
    = c.in-Ok.ensures ∙ ap (λ (r : RecordingValue). finished_info r.targets r) c.take-recording.ensures.recording in
    let act : IsAct lock c.args.pass.now c.act.new.pass c.finish_event.result c.in-Ok-act.reply
    = record { calls = c.act.ensures.pass.2; sound = c.act.ensures.sound; ends = c.in-Ok-act.ensures.done.0; own = c.in-Ok-act.ensures.done.1 } in
    let gives : is_some (handle_of (setup_of lock).serial (arc_value c.in-Ok.info) c.in-Ok-act.reply.answer) ≡ true
    = finished_gives lock c.args.pass.now c.act.new.pass c.unwrap-encoder.result recorder (arc_value c.in-Ok.info) c.in-Ok-act.reply
    (subst (λ (event : Event). IsAct lock c.args.pass.now c.act.new.pass event c.in-Ok-act.reply) is act) known in
    let none : handle_of (setup_of lock).serial (arc_value c.in-Ok.info) c.in-Ok-act.reply.answer ≡ None
    = ap (λ serial. handle_of serial (arc_value c.in-Ok.info) c.in-Ok-act.reply.answer) (sym c.args.self.now.same) ∙ (sym c.handle_of.ensures ∙ c.in-None.is) in
    true≢false (sym gives ∙ ap (λ (o : Option HandleValue). is_some o) none)
