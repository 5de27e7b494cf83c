-- The walk over the kept commands of a recorder: its passes, the encoder's state, and the rule that invalidated it first
-- (WebGPU, "Command Encoding", "encoder state"). An encoder is unlocked, or locked by the one pass that is open on it.
use Rattle.std.specs.Prelude.{ℕ, ◌+◌, ◌==◌, ◌&&◌, ◌||◌, Bool, false, List, [], ◌∷◌, ◌++◌, map, Option, Some, None, is_none, option_to_list, reverse, if◌then◌else◌}
use Rattle.std.specs.Option.{option_or}
use Rattle.wg_rules.specs.declared.TheConstants.{NO_PASS_IS_OPEN}
use Rattle.wg_types.specs.declared.commands.On.{On}
use Rattle.wg_types.specs.declared.commands.On.TheVariants.{Encoder, Pass}
use Rattle.wg_types.specs.Commands.{Command}
use Rattle.wg_types.specs.declared.commands.Bracket.{Bracket}
use Rattle.wg_types.specs.declared.commands.Bracket.TheVariants as brackets
use Rattle.wg_types.specs.Commands.{bracket, is_begin, is_end, named_on}
use Rattle.wg_types.specs.declared.wanted.Kind.TheVariants as kind
use Rattle.wg_model.specs.Rules.{first_unmet}
use Rattle.wg_model.specs.Commands.{named, common_rules, command_rules}
use Rattle.wg_model.specs.Touches.{Doing, scope_in, deed_of, encoder_does}
use Rattle.wg_model.specs.Settings.{Settings, depth_after, debug_depth, settings}
use Rattle.wg_model.specs.Compute.{compute_rules, compute_does}
use Rattle.wg_model.specs.Attachments.{RenderBegin, begin_of, begun_rules}
use Rattle.wg_model.specs.Render.{RenderSet, render_set, bundle_set, draws_of, render_rules, render_does}
use Rattle.wg_model.specs.Bundles.{bundle_touches, references_within}
use Rattle.wg_types.specs.declared.bundles.BundleInfo.{BundleInfo}
use Rattle.wg_types.specs.declared.bundles.BundleTouch.{BundleTouch}
use Rattle.wg_types.specs.declared.render.TargetInfo.{TargetInfo}
use Rattle.wg_types.specs.declared.limits.CommandLimits.{CommandLimits}
use Rattle.wg_types.specs.declared.limits.Limits.{Limits}
use Rattle.wg_types.specs.declared.limits.Maker.{Maker}
use Rattle.wg_trace.specs.declared.steps.StepName.TheVariants as name
use Rattle.wg_model.specs.Scopes.{Use}
use Rattle.wg_trace.specs.declared.steps.Deed.{Deed}

-- The kept commands, newest first, each with the encoder or pass that it stands on.
abbrev pub Kept : Type 0
Kept = List (On × Command)

-- A pass: its number, the command that began it, and its own commands so far, newest first.
pub record PassSoFar : Type 0 where
  pub number : ℕ
  pub begin : Command
  pub earlier : List Command

-- One pass. It keeps its own first unmet rule.

-- the first unmet rule of the begin of a pass: of the objects that it names, and then of a render pass its own
abbrev pub begun_rule : Maker → Command → Option ℕ
begun_rule maker begin = option_or (first_unmet (common_rules maker.device (named begin))) (first_unmet (begun_rules maker.limits begin))

-- the first unmet rule of a command of a compute pass, over what is set
abbrev pub compute_rule : Maker → Settings → Command → Option ℕ
compute_rule maker set command =
    option_or (first_unmet (common_rules maker.device (named_on kind.ComputePass command))) (first_unmet (compute_rules set command))

-- the first unmet rule of a command of a render pass, over what is set
abbrev pub render_rule : Maker → RenderSet → Command → Option ℕ
render_rule maker set command =
    option_or (first_unmet (common_rules maker.device (named_on kind.RenderPass command))) (first_unmet (render_rules maker.limits set command))

-- the first unmet rule of a command of a pass after the earlier ones, by how the pass was begun
abbrev pub rule_by : Maker → RenderBegin → Bracket → List Command → Command → Option ℕ
rule_by maker begin brackets.BeginComputePass earlier command = compute_rule maker (settings earlier) command
rule_by maker begin brackets.BeginRenderPass earlier command = render_rule maker (render_set begin earlier) command
rule_by maker begin brackets.EndPass earlier command = None
rule_by maker begin brackets.PushGroup earlier command = None
rule_by maker begin brackets.PopGroup earlier command = None
rule_by maker begin brackets.Neither earlier command = None

-- the first unmet rule of a command of a pass, after the earlier ones: of those on the objects that it names there, and then
-- of its own by the kind of the pass
abbrev pub rule_in : Maker → Command → List Command → Command → Option ℕ
rule_in maker begin earlier command = rule_by maker (begin_of begin) (bracket begin) earlier command

-- a pass's own first unmet rule, that of its begin first, its end's rules 310 and 311 included
abbrev pub pass_rule : Maker → Command → List Command → Option ℕ
pass_rule maker begin [] = begun_rule maker begin
pass_rule maker begin (command ∷ earlier) = option_or (pass_rule maker begin earlier) (rule_in maker begin earlier command)

-- what a command on a bundle encoder gives it: the first unmet rule of those on the objects that it names there, and then of
-- those of a render pass that draws to its targets, over what is set in the bundle
abbrev pub bundle_rule : Maker → TargetInfo → List Command → Command → Option ℕ
bundle_rule maker targets earlier command =
    option_or (first_unmet (common_rules maker.device (named_on kind.BundleEncoder command))) (first_unmet (render_rules maker.limits (bundle_set targets earlier) command))

-- the rule that invalidated a bundle encoder first: the first that a command gave it
abbrev pub bundle_verdict : Maker → TargetInfo → List Command → Option ℕ
bundle_verdict maker targets [] = None
bundle_verdict maker targets (command ∷ earlier) = option_or (bundle_verdict maker targets earlier) (bundle_rule maker targets earlier command)

-- what a command of a pass completes, if it does: a step, which has a usage scope
abbrev pub does_by : RenderBegin → Bracket → List Command → Command → Option Doing
does_by begin brackets.BeginComputePass earlier command = compute_does (settings earlier) command
does_by begin brackets.BeginRenderPass earlier command = render_does (render_set begin earlier) command
does_by begin brackets.EndPass earlier command = None
does_by begin brackets.PushGroup earlier command = None
does_by begin brackets.PopGroup earlier command = None
does_by begin brackets.Neither earlier command = None

-- what a command of a pass does, after the earlier ones
abbrev pub pass_does : Command → List Command → Command → Option Doing
pass_does begin earlier command = does_by (begin_of begin) (bracket begin) earlier command

-- The encoder.

-- whether a command on an encoder begins a pass
abbrev pub begins_pass : On → Command → Bool
begins_pass Encoder command = is_begin command
begins_pass (Pass number) command = false

-- how many passes were begun, which numbers them from 0
abbrev pub begins : Kept → ℕ
begins [] = 0
begins (kept ∷ older) = if begins_pass kept.0 kept.1 then begins older + 1 else begins older

-- whether the open pass is the one of this number
abbrev pub is_open : Option PassSoFar → ℕ → Bool
is_open None number = false
is_open (Some pass) number = number == pass.number

-- the open pass after a command of it
abbrev pub pass_after : Option PassSoFar → Command → Option PassSoFar
pass_after None command = None
pass_after (Some pass) command = if is_end command then None else Some (record pass { earlier = command ∷ pass.earlier })

-- the open pass after a command on the encoder: a pass that is begun on a locked encoder is dead, and never opens
abbrev pub pass_begun : Option PassSoFar → ℕ → Command → Option PassSoFar
pass_begun (Some pass) number command = Some pass
pass_begun None number command = if is_begin command then Some (record { number = number; begin = command; earlier = [] }) else None

-- the open pass after one more command, if one is open
abbrev pub open_after : Option PassSoFar → ℕ → On → Command → Option PassSoFar
open_after opened number Encoder command = pass_begun opened number command
open_after opened number (Pass pass) command = if is_open opened pass then pass_after opened command else opened

-- the one pass that is open, which locks the encoder, if there is one: it was begun on an unlocked encoder and has not ended;
-- a pass that is begun on a locked one is dead, and its commands, its end too, are kept without effect
abbrev pub open_pass : Kept → Option PassSoFar
open_pass [] = None
open_pass (kept ∷ older) = open_after (open_pass older) (begins older) kept.0 kept.1

-- whether a command ends the pass of this number, which a dead one never does
abbrev pub ends : Option PassSoFar → On → Command → ℕ → Bool
ends opened Encoder command number = false
ends opened (Pass pass) command number = is_open opened pass && is_end command && (pass == number)

-- whether a pass has ended: it was open and an end on it was kept; a dead pass never has
abbrev pub has_ended : Kept → ℕ → Bool
has_ended [] number = false
has_ended (kept ∷ older) number = ends (open_pass older) kept.0 kept.1 number || has_ended older number

-- how many debug groups of the encoder are open
abbrev pub depth_free : ℕ → Option PassSoFar → Command → ℕ
depth_free depth None command = depth_after depth command
depth_free depth (Some pass) command = depth

-- how many debug groups of the encoder itself are open after one more command
abbrev pub depth_on : ℕ → Option PassSoFar → On → Command → ℕ
depth_on depth opened Encoder command = depth_free depth opened command
depth_on depth opened (Pass pass) command = depth

-- how many debug groups of the encoder itself are open
abbrev pub encoder_depth : Kept → ℕ
encoder_depth [] = 0
encoder_depth (kept ∷ older) = depth_on (encoder_depth older) (open_pass older) kept.0 kept.1

-- what an end hands over: the rule of its pass
abbrev pub handed : Maker → Option PassSoFar → Command → Option ℕ
handed maker None command = None
handed maker (Some pass) command = if is_end command then pass_rule maker pass.begin (command ∷ pass.earlier) else None

-- what a command on the encoder gives it: on a locked one rule 240, on an unlocked one its own first unmet rule; that of a
-- begin goes to the pass that it begins
abbrev pub encoder_gives : Maker → Option PassSoFar → ℕ → Command → Option ℕ
encoder_gives maker (Some pass) depth command = Some NO_PASS_IS_OPEN
encoder_gives maker None depth command = if is_begin command then None else first_unmet (command_rules maker.device depth command)

-- what a command gives the encoder: on an unlocked one its own first unmet rule, on a locked one 240; the end of the open pass
-- hands over that pass's rule; other commands of passes give nothing
abbrev pub given : Maker → Option PassSoFar → ℕ → On → Command → Option ℕ
given maker opened depth Encoder command = encoder_gives maker opened depth command
given maker opened depth (Pass pass) command = if is_open opened pass then handed maker opened command else None

-- the rule that invalidated the encoder first: the first that a command gave it
abbrev pub verdict : Maker → Kept → Option ℕ
verdict maker [] = None
verdict maker (kept ∷ older) = option_or (verdict maker older) (given maker (open_pass older) (encoder_depth older) kept.0 kept.1)

-- A recording of commands in order, that of a bundle encoder with its targets.

-- the commands of a bundle, newest first, which all stand on its encoder
abbrev pub bundled : List (On × Command) → List Command
bundled commands = map (λ (kept : On × Command). kept.1) (reverse commands)

-- the rule that invalidated the encoder or bundle encoder of a recording first, if one did
abbrev pub Verdict : Maker → Option TargetInfo → List (On × Command) → Option ℕ
Verdict maker None commands = verdict maker (reverse commands)
Verdict maker (Some targets) commands = bundle_verdict maker targets (bundled commands)

-- how many debug groups of the encoder of a recording are open, not counting those of its passes; of a bundle encoder all that
-- are open
abbrev pub open_depth : Option TargetInfo → List (On × Command) → ℕ
open_depth None commands = encoder_depth (reverse commands)
open_depth (Some targets) commands = debug_depth (bundled commands)

-- What commands do, in order, each with the step that it completes.
abbrev pub does_within : Option PassSoFar → Command → Option Doing
does_within None command = None
does_within (Some pass) command = pass_does pass.begin pass.earlier command

-- what a command on a pass does, which on a pass that is not the open one is nothing
abbrev pub does_in_pass : Option PassSoFar → ℕ → Command → Option Doing
does_in_pass opened pass command = if is_open opened pass then does_within opened command else None

-- what a command does on what it stands
abbrev pub does_at : Option PassSoFar → On → Command → Option Doing
does_at opened Encoder command = encoder_does command
does_at opened (Pass pass) command = does_in_pass opened pass command

-- what the kept commands do, in order, each with the name of its step and what it touches: on the encoder copies, clears and
-- resolves of query sets, in an open compute pass dispatches, and in an open render pass its end; a dead pass does nothing
abbrev pub doings : Kept → List Doing
doings [] = []
doings (kept ∷ older) = doings older ++ option_to_list (does_at (open_pass older) kept.0 kept.1)

-- what the kept commands do as it is printed, without a place
abbrev pub deeds : Kept → List Deed
deeds kept = map deed_of (doings kept)

-- Usage scopes, in the order of the commands that complete them: what a command of a pass does has one.
abbrev pub scopes_at : Option PassSoFar → On → Command → List (List Use)
scopes_at opened Encoder command = []
scopes_at opened (Pass pass) command = map scope_in (option_to_list (does_in_pass opened pass command))

-- the usage scopes that the kept commands complete, in order: what each dispatch uses is one, and what each render pass that
-- has ended uses, but for its query set
abbrev pub usage_scopes : Kept → List (List Use)
usage_scopes [] = []
usage_scopes (kept ∷ older) = usage_scopes older ++ scopes_at (open_pass older) kept.0 kept.1

-- the usage scopes of an encoder's commands, where there is no verdict and no open pass, and else none
abbrev pub encoder_scopes : Maker → Kept → List (List Use)
encoder_scopes maker kept = if is_none (verdict maker kept) && is_none (open_pass kept) then usage_scopes kept else []

-- the usage scope of a bundle: all that its commands touch, where no rule is unmet, and else none
abbrev pub bundle_scopes : Maker → TargetInfo → List Command → List (List Use)
bundle_scopes maker targets earlier = if is_none (bundle_verdict maker targets earlier) then scope_in (name.RenderPass, (bundle_set targets earlier).touches) ∷ [] else []

-- the usage scopes of a recording, in order: of an encoder's none where there is a verdict or an open pass; of a bundle
-- encoder's one, of all that is set in the bundle, and none where there is a verdict
abbrev pub ScopesOf : Maker → Option TargetInfo → List (On × Command) → List (List Use)
ScopesOf maker None commands = encoder_scopes maker (reverse commands)
ScopesOf maker (Some targets) commands = bundle_scopes maker targets (bundled commands)

-- what an encoder's commands do as it is printed, where there is no verdict and no open pass, and else nothing
abbrev pub encoder_deeds : Maker → Kept → List Deed
encoder_deeds maker kept = if is_none (verdict maker kept) && is_none (open_pass kept) then deeds kept else []

-- what the commands of a recording do, in order; of a bundle encoder's nothing
abbrev pub DeedsOf : Maker → Option TargetInfo → List (On × Command) → List Deed
DeedsOf maker None commands = encoder_deeds maker (reverse commands)
DeedsOf maker (Some targets) commands = []

-- What is known of the bundle that a recording makes: where some rule was unmet, not what it touches, and not how often it draws.
abbrev pub recorded_touches : Maker → TargetInfo → List Command → List BundleTouch
recorded_touches maker targets earlier = if is_none (bundle_verdict maker targets earlier) then bundle_touches (bundle_set targets earlier).touches else []

-- of the limits of a device, those by which commands are judged while they are recorded
abbrev pub command_limits : Limits → CommandLimits
command_limits limits = record {
  max_texture_dimension_2d = limits.max_texture_dimension_2d;
  max_color_attachment_bytes_per_sample = limits.max_color_attachment_bytes_per_sample;
}

-- the limits of nothing, as of a recording that no recorder made
abbrev pub no_limits : CommandLimits
no_limits = record { max_texture_dimension_2d = 0; max_color_attachment_bytes_per_sample = None }

-- how often the bundle draws that a recording makes: where some rule was unmet, not at all
abbrev pub recorded_draws : Maker → TargetInfo → List Command → ℕ
recorded_draws maker targets earlier = if is_none (bundle_verdict maker targets earlier) then draws_of earlier else 0

-- the targets of nothing, as of a recording that comes after the first of a bundle encoder
abbrev pub no_targets : TargetInfo
no_targets = record { colors = []; depth = None; samples = 1; depth_read_only = false; stencil_read_only = false }

-- what is known of the bundle that a recording makes; of an encoder's, one without targets that touches nothing and does not draw
abbrev pub bundle_of : Maker → Option TargetInfo → List (On × Command) → BundleInfo
bundle_of maker None commands = record { targets = no_targets; named = references_within commands; touches = []; draws = 0 }
bundle_of maker (Some targets) commands = record {
  targets = targets;
  named = references_within commands;
  touches = recorded_touches maker targets (bundled commands);
  draws = recorded_draws maker targets (bundled commands);
}
