-- What holds of the fields of a recorder and of a recording.
use Rattle.std.specs.Prelude.{◌≡◌, ℕ, nat_lt, true, List, [], Option, Some, None, reverse}
use Rattle.std.specs.Global.{Global}
use Rattle.std.specs.declared.boxed.Box.{Box}
use Rattle.wg_types.specs.declared.commands.On.{On}
use Rattle.wg_types.specs.Commands.{Command}
use Rattle.wg_types.specs.declared.render.TargetInfo.{TargetInfo}
use Rattle.wg_types.specs.declared.limits.Maker.{Maker}
use Rattle.wg_model.specs.Walk.{begins}
use Rattle.wg_encoder.specs.Recorders.{targets_left}
use Rattle.wg_encoder.specs.Walked.{IsKnownOf}
use Rattle.wg_encoder.specs.Naming.{AreNamedOnce}
use Rattle.wg_encoder.specs.declared.kept.KeptCommands.{KeptCommands}

-- the kept commands, in order: none as long as there is no place for them
abbrev pub commands_of : Option (Box KeptCommands Global) → List (On × Command)
commands_of None = []
commands_of (Some kept) = kept.value.commands.items

-- What is known of the kept commands is what the walk over them finds.
abbrev pub IsKeptOf : Maker → Option TargetInfo → Option (Box KeptCommands Global) → Type 0
IsKeptOf maker targets None = Unit {0}
IsKeptOf maker targets (Some kept) = IsKnownOf maker targets (reverse kept.value.commands.items) kept.value.known

-- What is kept of what these name is each of it once.
abbrev pub IsNaming : Option (Box KeptCommands Global) → Type 0
IsNaming None = Unit {0}
IsNaming (Some kept) = AreNamedOnce kept.value.commands.items kept.value.naming

-- How often a recorder was taken, and how many passes were begun on it, fit its targets and its commands.
pub record IsRecorder (targets : Option TargetInfo) (commands : List (On × Command)) (takes passes : ℕ) : Type 0 where
  pub passes_are : takes ≡ 0 → passes ≡ begins (reverse commands)
  pub nothing : nat_lt 0 takes ≡ true → commands ≡ []
  pub left : nat_lt 0 takes ≡ true → targets ≡ targets_left targets
