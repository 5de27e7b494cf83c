-- Recorders of a device are judged by its number and its limits.
use Rattle.std.proofs.Common.{◌≡◌, ℕ, true, Option, Some, None, option_and_then, refl, ap, ◌∙◌}
use Rattle.std.specs.Option.{option_or}
use Rattle.std.proofs.lemmas.Bool.{and_parts, eqb-true}
use Rattle.wg_types.specs.Handles.{HandleValue}
use Rattle.wg_types.specs.declared.handles.ObjRef.{ObjRef}
use Rattle.wg_types.specs.declared.handles.Info.{Info}
use Rattle.wg_types.specs.declared.handles.Info.TheVariants.{Encoder, BundleEncoder}
use Rattle.wg_types.specs.declared.limits.Limits.{Limits}
use Rattle.wg_types.specs.declared.limits.Maker.{Maker}
use Rattle.wg_types.specs.declared.render.TargetInfo.{TargetInfo}
use Rattle.wg_trace.specs.declared.replies.Answer.{Answer}
use Rattle.wg_trace.specs.declared.replies.Answer.TheVariants.{Made, Queued, Promised, Plain, BadCompletion}
use Rattle.wg_model.specs.Rules.{first_unmet}
use Rattle.wg_model.specs.Walk.{Verdict}
use Rattle.wg_encoder.specs.Recorders.{RecorderValue, RecordingValue}
use Rattle.wg_history.specs.declared.events.Setup.{Setup}
use Rattle.wg_history.specs.Entries.{Past}
use Rattle.wg_history.specs.Rules.{encoder_rules, kept_rules, recording_rules, finish_rule, finish_bundle_rule}
use Rattle.wg_history.specs.FirstRules.{first_rule}
use Rattle.wg_calls.specs.Calls.{finish_event, recording_of, handle_of, maker_with, opened_for, opened_with}
use Rattle.wg_calls.specs.Encoders.{recorder_of}
use Rattle.wg_calls.specs.Judged.{maker_of, IsRecorderOf, IsJudgedBy, kind_ended, OpensForDevice, JudgesByDevice}

-- A recorder has the number and the limits with which it was opened.
pub opened_by : (limits : Limits) (encoder : ObjRef) (info : Info) (recorder : RecorderValue) → recorder_of limits encoder info ≡ Some recorder
    → recorder.maker ≡ maker_with encoder.device limits
opened_by limits encoder Encoder recorder is = let same : recorder ≡ opened_for limits encoder = cc (is) in ap (λ (r : RecorderValue). r.maker) same
opened_by limits encoder (BundleEncoder targets) recorder is = let same : recorder ≡ opened_with limits targets encoder = cc (is) in ap (λ (r : RecorderValue). r.maker) same
opened_by limits encoder _ recorder is = absurd (cc (is))

-- the same for an object of a device, which it opens with its own limits
pub opened_own : (setup : Setup) (encoder : ObjRef) (info : Info) (recorder : RecorderValue) → encoder.device ≡ setup.serial → recorder_of setup.limits encoder info ≡ Some recorder
    → IsRecorderOf setup recorder
opened_own setup encoder info recorder own is =
    opened_by setup.limits encoder info recorder is ∙ ap (λ (device : ℕ). maker_with device setup.limits) own

pub opens_for_device : OpensForDevice
opens_for_device setup past handle recorder genuine is =
    opened_own setup handle.reference handle.info recorder (eqb-true handle.reference.device setup.serial (and_parts _ _ (and_parts _ _ (and_parts _ _ genuine).0).0).0) is

-- The handle of what a device made is of that device.

handle_device : (serial : ℕ) (known : Info) (answer : Answer) (handle : HandleValue) → handle_of serial known answer ≡ Some handle → handle.reference.device ≡ serial
handle_device serial known (Made number valid) handle made =
    let same : handle ≡ record { reference = record { device = serial; number = number }; valid = valid; info = known } = cc (made) in
    ap (λ (h : HandleValue). h.reference.device) same
handle_device serial known (Queued op) handle made = absurd (cc (made))
handle_device serial known Promised handle made = absurd (cc (made))
handle_device serial known Plain handle made = absurd (cc (made))
handle_device serial known BadCompletion handle made = absurd (cc (made))

pub made_device : (serial : ℕ) (known : Option Info) (answer : Answer) (handle : HandleValue) → option_and_then (λ known. handle_of serial known answer) known ≡ Some handle
    → handle.reference.device ≡ serial
made_device serial None answer handle made = absurd (cc (made))
made_device serial (Some known) answer handle made = handle_device serial known answer handle made

-- What ends an encoder goes by the verdict, where the encoder may be ended.
refused_by : (setup : Setup) (past : Past) (encoder : ObjRef) (targets : Option TargetInfo) (recording : RecordingValue) (rule : ℕ)
    → first_unmet (encoder_rules setup past (kind_ended targets) encoder) ≡ None
    → Verdict recording.maker recording.targets recording.commands ≡ Some rule → first_rule setup past (finish_event targets encoder recording) ≡ Some rule
unfolding finish_rule finish_bundle_rule
refused_by setup past encoder None recording rule fit is =
    ap (λ (o : Option ℕ). option_or o (option_or (Verdict recording.maker recording.targets recording.commands) (first_unmet (recording_rules setup past encoder.number recording)))) fit
    ∙ ap (λ (o : Option ℕ). option_or o (first_unmet (recording_rules setup past encoder.number recording))) is
refused_by setup past encoder (Some targets) recording rule fit is =
    ap (λ (o : Option ℕ). option_or o (option_or (Verdict recording.maker recording.targets recording.commands) (first_unmet (kept_rules setup past encoder.number recording)))) fit
    ∙ ap (λ (o : Option ℕ). option_or o (first_unmet (kept_rules setup past encoder.number recording))) is

pub is_judged : (setup : Setup) (targets : Option TargetInfo) (encoder : ObjRef) (recording : RecordingValue) → recording.maker ≡ maker_of setup → IsJudgedBy setup (finish_event targets encoder recording)
is_judged setup None encoder recording own = own
is_judged setup (Some targets) encoder recording own = own

pub judges_by_device : JudgesByDevice
judges_by_device setup past encoder recorder own = record {
  judged = is_judged setup recorder.targets encoder (recording_of recorder) own;
  refused = λ rule fit is. refused_by setup past encoder recorder.targets (recording_of recorder) rule fit
      (ap (λ (maker : Maker). Verdict maker recorder.targets recorder.commands) own ∙ is);
}
