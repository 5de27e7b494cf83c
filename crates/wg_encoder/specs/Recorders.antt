-- What contracts see of recorders and their recordings, and what calls of a recorder do (WebGPU, "Command Encoding").
use Rattle.std.specs.Prelude.{◌≡◌, ℕ, ◌+◌, ◌-◌, ◌<◌, nat_lt, ◌++◌, Bool, true, false, ◌||◌, List, [], ◌∷◌, Option, Some, None, is_some, reverse, if◌then◌else◌}
use Rattle.wg_types.specs.declared.handles.ObjRef.{ObjRef}
use Rattle.wg_types.specs.declared.commands.On.{On}
use Rattle.wg_types.specs.declared.commands.On.TheVariants.{Encoder, Pass}
use Rattle.wg_types.specs.Commands.{Command}
use Rattle.wg_types.specs.declared.render.TargetInfo.{TargetInfo}
use Rattle.wg_types.specs.declared.limits.Maker.{Maker}
use Rattle.wg_model.specs.Walk.{begins, begins_pass, has_ended, open_pass, no_targets}
use Rattle.wg_encoder.specs.declared.recorder.Noted.{Noted}
use Rattle.wg_encoder.specs.declared.recorder.Noted.TheVariants.{Kept, Late}

-- A recording: the device of its recorder, by number and limits, to what it draws, if it is that of a bundle encoder, and the commands in
-- order, each with what it stands on.
pub record RecordingValue : Type 0 where
  pub maker : Maker
  pub targets : Option TargetInfo
  pub commands : List (On × Command)

-- A recorder: its device, by number and limits, to what it draws, if it is that of a bundle encoder, the encoder that it was opened
-- with, the kept commands in order, how often it was taken, and how many passes were begun on it, late ones too.
pub record RecorderValue : Type 0 where
  pub maker : Maker
  pub targets : Option TargetInfo
  pub encoder : Option ObjRef
  pub commands : List (On × Command)
  pub takes : ℕ
  pub passes : ℕ

-- whether a recorder's encoder has ended
abbrev pub has_taken : RecorderValue → Bool
has_taken recorder = nat_lt 0 recorder.takes

-- Passes of a recording. A bundle encoder is one place, and has none.

-- whether a pass of a recording is open; a bundle encoder has no passes
abbrev pub has_open_pass : Option TargetInfo → List (On × Command) → Bool
has_open_pass None commands = is_some (open_pass (reverse commands))
has_open_pass (Some targets) commands = false

-- whether a pass of a recording has ended; a bundle encoder has no passes
abbrev pub pass_ended : Option TargetInfo → List (On × Command) → ℕ → Bool
pass_ended None commands pass = has_ended (reverse commands) pass
pass_ended (Some targets) commands pass = false

-- whether the pass that a command stands on has ended
abbrev pub on_ended : On → Option TargetInfo → List (On × Command) → Bool
on_ended Encoder targets commands = false
on_ended (Pass pass) targets commands = pass_ended targets commands pass

-- A command is late where its encoder or its pass has ended.
abbrev pub is_late : RecorderValue → On → Bool
is_late recorder on = has_taken recorder || on_ended on recorder.targets recorder.commands

-- how a recorder noted a command: kept, or late
abbrev pub noted : Bool → Noted
noted true = Late
noted false = Kept

-- a recorder after a command was noted: one that is late is not kept, but a late begin of a pass is counted
abbrev pub recorded : RecorderValue → On → Command → RecorderValue
recorded recorder on command = record recorder {
  commands = (if is_late recorder on then recorder.commands else recorder.commands ++ (on, command) ∷ []);
  passes = (if begins_pass on command then recorder.passes + 1 else recorder.passes);
}

-- The pass that a command stands on was begun.
abbrev pub IsBegunOn : On → ℕ → Type 0
IsBegunOn Encoder passes = Unit {0}
IsBegunOn (Pass pass) passes = pass < passes

-- how often a recorder was taken is counted up to this number
abbrev pub most_takes : ℕ
most_takes = 18446744073709551615

-- the count of takes after one more
abbrev pub after_take : ℕ → ℕ
after_take takes = if nat_lt takes most_takes then takes + 1 else takes

-- to what a recorder draws after a take: that of a bundle encoder to nothing more
abbrev pub targets_left : Option TargetInfo → Option TargetInfo
targets_left None = None
targets_left (Some targets) = Some no_targets

-- What the last of so many takes of a recorder gave: the first gave the commands, which begin as many passes as the
-- recorder has; a later one gave none, and the targets that are left.
pub record IsTakenAt (takes passes : ℕ) (targets : Option TargetInfo) (commands : List (On × Command)) : Type 0 where
  pub was_taken : nat_lt 0 takes ≡ true
  pub first : takes ≡ 1 → passes ≡ begins (reverse commands)
  pub later : nat_lt 1 takes ≡ true → commands ≡ []
  pub later_left : nat_lt 1 takes ≡ true → targets ≡ targets_left targets

-- A recording is what the last take of a recorder gave, and nothing came since that could count: of the first take the
-- commands, which begin as many passes as the recorder has, of a later one none, and the targets that are left.
abbrev pub IsTakenFrom : RecordingValue → RecorderValue → Type 0
IsTakenFrom recording recorder =
    (recording.maker ≡ recorder.maker) × IsTakenAt recorder.takes recorder.passes recording.targets recording.commands

-- a recorder before the take that gave this
abbrev pub restored : RecordingValue → RecorderValue → RecorderValue
restored recording recorder = record recorder { targets = recording.targets; commands = recording.commands; takes = recorder.takes - 1 }
