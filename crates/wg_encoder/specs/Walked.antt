-- What a recorder keeps in place of a walk over its commands, and that it is what the walk finds (WebGPU, "Command Encoding").
use Rattle.std.specs.Prelude.{◌≡◌, ℕ, ◌<◌, false, List, ◌∷◌, map, Option, Some, None, length, slice_index_or}
use Rattle.std.specs.Option.{option_or}
use Rattle.std.specs.Global.{Global}
use Rattle.std.specs.declared.boxed.Box.{Box}
use Rattle.wg_types.specs.Commands.{Command, bracket, named_on}
use Rattle.wg_types.specs.declared.commands.On.{On}
use Rattle.wg_types.specs.declared.render.TargetInfo.{TargetInfo}
use Rattle.wg_types.specs.declared.wanted.Kind.TheVariants as kind
use Rattle.wg_types.specs.declared.commands.Bracket.{Bracket}
use Rattle.wg_types.specs.declared.commands.Bracket.TheVariants as brackets
use Rattle.wg_types.specs.declared.limits.Maker.{Maker}
use Rattle.wg_model.specs.Rules.{first_unmet}
use Rattle.wg_model.specs.Commands.{common_rules}
use Rattle.wg_model.specs.Settings.{Settings, settings, debug_depth}
use Rattle.wg_model.specs.Attachments.{RenderBegin, begin_of}
use Rattle.wg_model.specs.Render.{RenderSet, render_set, bundle_set, render_rules}
use Rattle.wg_model.specs.Walk.{Kept, PassSoFar, pass_rule, pass_does, begins, open_pass, has_ended, encoder_depth, verdict, bundle_verdict}
use Rattle.wg_encoder.specs.Done.{done_by_pass, done_of}
use Rattle.wg_encoder.specs.declared.done.Done.{Done}
use Rattle.wg_encoder.specs.declared.pass.PassState.{PassState}
use Rattle.wg_encoder.specs.declared.pass.PassState.TheVariants.{Refused, Compute, Render}
use Rattle.wg_encoder.specs.declared.walk.Opened.{Opened}
use Rattle.wg_encoder.specs.declared.walk.Walk.{Walk}
use Rattle.wg_encoder.specs.declared.bundle.BundleState.{BundleState}
use Rattle.wg_encoder.specs.declared.bundle.BundleState.TheVariants as drawn
use Rattle.wg_encoder.specs.declared.known.RecorderState.{RecorderState}
use Rattle.wg_encoder.specs.declared.known.RecorderState.TheVariants as known

-- What is set is what the commands of a pass set that was begun so, as a compute pass.
abbrev pub IsComputeBy : Bracket → List Command → Settings → Type 0
IsComputeBy brackets.BeginComputePass earlier set = set ≡ settings earlier
IsComputeBy brackets.BeginRenderPass earlier set = ⊥
IsComputeBy brackets.EndPass earlier set = ⊥
IsComputeBy brackets.PushGroup earlier set = ⊥
IsComputeBy brackets.PopGroup earlier set = ⊥
IsComputeBy brackets.Neither earlier set = ⊥

-- What is set is what the commands of a compute pass set.
abbrev pub IsComputeOf : Command → List Command → Settings → Type 0
IsComputeOf begin earlier set = IsComputeBy (bracket begin) earlier set

-- What is set is what the commands of a pass set that was begun so, as a render pass.
abbrev pub IsRenderBy : RenderBegin → Bracket → List Command → RenderSet → Type 0
IsRenderBy begin brackets.BeginComputePass earlier set = ⊥
IsRenderBy begin brackets.BeginRenderPass earlier set = set ≡ render_set begin earlier
IsRenderBy begin brackets.EndPass earlier set = ⊥
IsRenderBy begin brackets.PushGroup earlier set = ⊥
IsRenderBy begin brackets.PopGroup earlier set = ⊥
IsRenderBy begin brackets.Neither earlier set = ⊥

-- What is set is what the commands of a render pass set.
abbrev pub IsRenderOf : Command → List Command → RenderSet → Type 0
IsRenderOf begin earlier set = IsRenderBy (begin_of begin) (bracket begin) earlier set

-- The state of a pass is what its commands give.
abbrev pub IsStateOf : Maker → Command → List Command → PassState → Type 0
IsStateOf maker begin earlier (Refused rule) = pass_rule maker begin earlier ≡ Some rule
IsStateOf maker begin earlier (Compute set) = (pass_rule maker begin earlier ≡ None) × IsComputeOf begin earlier set
IsStateOf maker begin earlier (Render set) = (pass_rule maker begin earlier ≡ None) × IsRenderOf begin earlier set

-- The pass that is kept as open is the one that is, with its state, or none is.
abbrev pub IsOpenOf : Maker → Option PassSoFar → Option (Box Opened Global) → Type 0
IsOpenOf maker None None = Unit {0}
IsOpenOf maker (Some pass) (Some opened) = (opened.value.number ≡ pass.number) × IsStateOf maker pass.begin pass.earlier opened.value.state
IsOpenOf maker None (Some opened) = ⊥
IsOpenOf maker (Some pass) None = ⊥

-- the open pass's own rule
abbrev pub open_rule : Maker → Option PassSoFar → Option ℕ
open_rule maker None = None
open_rule maker (Some pass) = pass_rule maker pass.begin pass.earlier

-- What a recorder keeps in place of a walk (which passes have ended, the verdict, the open groups, the open pass with its
-- state, and what is done as long as no rule was unmet) is what the walk over its commands finds.
pub record IsWalkOf (maker : Maker) (kept : Kept) (walk : Walk) : Type 0 where
  pub count : length walk.ended ≡ begins kept
  pub ended_is : (number : ℕ) → number < begins kept → slice_index_or walk.ended number false ≡ has_ended kept number
  pub verdict_is : walk.verdict ≡ verdict maker kept
  pub depth_is : walk.depth ≡ encoder_depth kept
  pub open_is : IsOpenOf maker (open_pass kept) walk.opened
  -- as long as no rule was unmet, also in the open pass
  pub done_is : verdict maker kept ≡ None → open_rule maker (open_pass kept) ≡ None → walk.done ≡ done_of kept

-- A pass took a command: its state, its rule, and what is done are after it what its commands give.
pub record IsTaken (maker : Maker) (begin : Command) (earlier : List Command) (command : Command) (state : PassState) (old new : Done) (rule : Option ℕ) : Type 0 where
  pub state_is : IsStateOf maker begin (command ∷ earlier) state
  pub rule_is : rule ≡ pass_rule maker begin (command ∷ earlier)
  pub done_is : pass_rule maker begin (command ∷ earlier) ≡ None → new ≡ done_by_pass old (pass_does begin earlier command)

-- The open pass took a command.
pub record IsNext (maker : Maker) (command : Command) (before after : Opened) (old new : Done) (rule : Option ℕ) : Type 0 where
  pub number : after.number ≡ before.number
  pub taken : (begin : Command) (earlier : List Command) → IsStateOf maker begin earlier before.state → IsTaken maker begin earlier command after.state old new rule

-- the first unmet rule of a command of a bundle encoder, over what is set
abbrev pub drawn_rule : Maker → RenderSet → Command → Option ℕ
drawn_rule maker set command =
    option_or (first_unmet (common_rules maker.device (named_on kind.BundleEncoder command))) (first_unmet (render_rules maker.limits set command))

-- The state of a bundle encoder is what its commands give.
abbrev pub IsBundleOf : Maker → TargetInfo → List Command → BundleState → Type 0
IsBundleOf maker targets earlier (drawn.Refused rule depth) = (bundle_verdict maker targets earlier ≡ Some rule) × (depth ≡ debug_depth earlier)
IsBundleOf maker targets earlier (drawn.Drawing set) = (bundle_verdict maker targets earlier ≡ None) × (set ≡ bundle_set targets earlier)

-- What the recorder of a bundle encoder keeps is what its commands give.
abbrev pub IsDrawnOf : Maker → Option TargetInfo → Kept → BundleState → Type 0
IsDrawnOf maker None kept state = ⊥
IsDrawnOf maker (Some targets) kept state = IsBundleOf maker targets (map (λ (one : On × Command). one.1) kept) state

-- What is known of kept commands, which are those of a bundle encoder where there are targets.
abbrev pub IsKnownOf : Maker → Option TargetInfo → Kept → RecorderState → Type 0
IsKnownOf maker targets kept (known.Encoder walk) = (targets ≡ None) × IsWalkOf maker kept walk
IsKnownOf maker targets kept (known.Bundle state) = IsDrawnOf maker targets kept state.value
