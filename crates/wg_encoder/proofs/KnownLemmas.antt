-- What is known of kept commands, where there may be targets.
use Rattle.std.proofs.Common.{◌≡◌, ℕ, Some, None, Option, List, map, reverse}
use Rattle.wg_types.specs.Commands.{Command}
use Rattle.wg_types.specs.declared.commands.On.{On}
use Rattle.wg_types.specs.declared.render.TargetInfo.{TargetInfo}
use Rattle.wg_types.specs.declared.limits.Maker.{Maker}
use Rattle.wg_model.specs.Settings.{debug_depth}
use Rattle.wg_model.specs.Walk.{open_depth}
use Rattle.wg_encoder.specs.Walked.{IsBundleOf, IsDrawnOf}
use Rattle.wg_encoder.specs.declared.bundle.BundleState.{BundleState}

-- The debug groups of a bundle encoder.
pub drawn_depth : (state : BundleState) (depth : ℕ) → ((maker : Maker) (own : TargetInfo) (earlier : List Command) → IsBundleOf maker own earlier state → depth ≡ debug_depth earlier)
    → (maker : Maker) (targets : Option TargetInfo) (commands : List (On × Command)) → IsDrawnOf maker targets (reverse commands) state → depth ≡ open_depth targets commands
drawn_depth state depth is maker None commands h = absurd h
drawn_depth state depth is maker (Some own) commands h = is maker own (map (λ (one : On × Command). one.1) (reverse commands)) h
