-- The state of a bundle encoder, after one more command, and what it tells.
use Rattle.std.proofs.Common.{◌≡◌, ℕ, Some, None, List, ◌∷◌, refl, sym, ◌∙◌, ap}
use Rattle.wg_types.specs.Commands.{Command}
use Rattle.wg_types.specs.declared.render.TargetInfo.{TargetInfo}
use Rattle.wg_types.specs.declared.limits.Maker.{Maker}
use Rattle.wg_model.specs.Render.{RenderSet}
use Rattle.wg_model.specs.Walk.{bundle_verdict}
use Rattle.wg_render.specs.After.{render_after}
use Rattle.wg_encoder.specs.Walked.{drawn_rule, IsBundleOf}
use Rattle.wg_encoder.specs.declared.bundle.BundleState.TheVariants.{Drawing}

-- A bundle encoder that is refused stays so.
pub refused_stays : (maker : Maker) (targets : TargetInfo) (earlier : List Command) (command : Command) (rule : ℕ) → bundle_verdict maker targets earlier ≡ Some rule → bundle_verdict maker targets (command ∷ earlier) ≡ Some rule
refused_stays maker targets earlier command rule e = rw e refl

-- The rule after one more command.
pub drawn_next : (maker : Maker) (targets : TargetInfo) (earlier : List Command) (command : Command) (set : RenderSet) → IsBundleOf maker targets earlier (Drawing set) → bundle_verdict maker targets (command ∷ earlier) ≡ drawn_rule maker set command
drawn_next maker targets earlier command set h = rw h.0 (ap (λ s. drawn_rule maker s command) (sym h.1))

pub drawn_taken : (maker : Maker) (targets : TargetInfo) (earlier : List Command) (command : Command) (set new : RenderSet) → IsBundleOf maker targets earlier (Drawing set) → None ≡ drawn_rule maker set command → new ≡ render_after set command → IsBundleOf maker targets (command ∷ earlier) (Drawing new)
drawn_taken maker targets earlier command set new h e n = (drawn_next maker targets earlier command set h ∙ sym e, n ∙ ap (λ s. render_after s command) h.1)
