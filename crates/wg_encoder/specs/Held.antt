-- To what a recorder draws.
use Rattle.wg_types.specs.declared.render.TargetInfo.{TargetInfo}
use Rattle.wg_encoder.specs.declared.targets.Held.{Held}
use Rattle.wg_encoder.specs.declared.targets.Held.TheVariants.{Given, Left}

-- the targets that are held, given or left
abbrev pub targets_in : Held → TargetInfo
targets_in (Given targets) = targets
targets_in (Left targets) = targets
