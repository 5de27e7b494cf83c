-- By whose limits commands are judged: by those of the device that made the encoder of their recorder.
use Rattle.std.specs.Prelude.{◌≡◌, ℕ, Bool, true, Option, Some, None}
use Rattle.wg_types.specs.Handles.{HandleValue}
use Rattle.wg_types.specs.declared.handles.ObjRef.{ObjRef}
use Rattle.wg_types.specs.declared.handles.Info.{Info}
use Rattle.wg_types.specs.declared.limits.Maker.{Maker}
use Rattle.wg_types.specs.declared.render.TargetInfo.{TargetInfo}
use Rattle.wg_model.specs.Rules.{first_unmet}
use Rattle.wg_model.specs.Walk.{Verdict}
use Rattle.wg_encoder.specs.Recorders.{RecorderValue}
use Rattle.wg_history.specs.declared.events.Setup.{Setup}
use Rattle.wg_history.specs.declared.events.Event.{Event}
use Rattle.wg_history.specs.declared.events.Event.TheVariants.{Finish, FinishBundle}
use Rattle.wg_history.specs.Entries.{Past}
use Rattle.wg_history.specs.Objects.{is_encoder, is_bundle_encoder}
use Rattle.wg_history.specs.Rules.{is_genuine, encoder_rules}
use Rattle.wg_history.specs.FirstRules.{first_rule}
use Rattle.wg_calls.specs.Calls.{finish_of, maker_with}
use Rattle.wg_calls.specs.Encoders.{recorder_of}

-- a device as its recorders have it
abbrev pub maker_of : Setup → Maker
maker_of setup = maker_with setup.serial setup.limits

-- A recorder is of a device: its commands are judged by the number and the limits of that.
abbrev pub IsRecorderOf : Setup → RecorderValue → Type 0
IsRecorderOf setup recorder = recorder.maker ≡ maker_of setup

-- An event that ends an encoder or a bundle encoder hands over what a recorder of the device has kept; of other events nothing is said.
abbrev pub IsJudgedBy : Setup → Event → Type 0
IsJudgedBy setup (Finish encoder recording) = recording.maker ≡ maker_of setup
IsJudgedBy setup (FinishBundle encoder recording) = recording.maker ≡ maker_of setup
IsJudgedBy setup _ = Unit {0}

-- of which kind an encoder is, where its recorder has these targets
abbrev pub kind_ended : Option TargetInfo → Info → Bool
kind_ended None info = is_encoder info
kind_ended (Some targets) info = is_bundle_encoder info

-- A recorder that is opened for a genuine handle, with the limits of the device, is of that device.
abbrev pub OpensForDevice : Type 0
OpensForDevice = (setup : Setup) (past : Past) (handle : HandleValue) (recorder : RecorderValue)
    → is_genuine setup past handle ≡ true → recorder_of setup.limits handle.reference handle.info ≡ Some recorder → IsRecorderOf setup recorder

-- What ends the encoder of a recorder of the device hands over what that has kept. Where the encoder may be ended, it is refused by the
-- rule that its commands break first, as they are judged by the number and the limits of the device.
pub record EndsByLimits (setup : Setup) (past : Past) (encoder : ObjRef) (recorder : RecorderValue) : Type 0 where
  pub judged : IsJudgedBy setup (finish_of encoder recorder)
  pub refused : (rule : ℕ) → first_unmet (encoder_rules setup past (kind_ended recorder.targets) encoder) ≡ None
      → Verdict (maker_of setup) recorder.targets recorder.commands ≡ Some rule → first_rule setup past (finish_of encoder recorder) ≡ Some rule

-- So it is whenever a recorder of the device is ended.
abbrev pub JudgesByDevice : Type 0
JudgesByDevice = (setup : Setup) (past : Past) (encoder : ObjRef) (recorder : RecorderValue)
    → IsRecorderOf setup recorder → EndsByLimits setup past encoder recorder
