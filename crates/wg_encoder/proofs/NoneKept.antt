-- A recording of no commands.
use Rattle.std.proofs.Common.{◌≡◌, ℕ, false, [], Option, Some, None, refl}
use Rattle.wg_types.specs.declared.render.TargetInfo.{TargetInfo}
use Rattle.wg_types.specs.declared.limits.Maker.{Maker}
use Rattle.wg_model.specs.Scopes.{clash, first_clash}
use Rattle.wg_model.specs.Walk.{Verdict, ScopesOf, DeedsOf, open_depth}
use Rattle.wg_encoder.specs.Recorders.{has_open_pass}

pub no_verdict : (maker : Maker) (targets : Option TargetInfo) → Verdict maker targets [] ≡ None
no_verdict maker None = refl
no_verdict maker (Some targets) = refl

pub no_clash : (maker : Maker) (targets : Option TargetInfo) → first_clash (ScopesOf maker targets []) ≡ None
unfolding clash
no_clash maker None = refl
no_clash maker (Some targets) = refl

pub no_deeds : (maker : Maker) (targets : Option TargetInfo) → DeedsOf maker targets [] ≡ []
no_deeds maker None = refl
no_deeds maker (Some targets) = refl

pub no_open_pass : (targets : Option TargetInfo) → has_open_pass targets [] ≡ false
no_open_pass None = refl
no_open_pass (Some targets) = refl

pub no_depth : (targets : Option TargetInfo) → open_depth targets [] ≡ 0
no_depth None = refl
no_depth (Some targets) = refl
