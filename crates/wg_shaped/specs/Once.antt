-- Steps that give no cell twice.
use Rattle.std.specs.Prelude.{◌≡◌, true, List, Option, Some, None}
use Rattle.wg_types.specs.declared.limits.Maker.{Maker}
use Rattle.wg_types.specs.Commands.{Command}
use Rattle.wg_types.specs.declared.commands.CommandOf.TheVariants.{BeginRenderPass, ExecuteBundles}
use Rattle.wg_types.specs.declared.commands.On.{On}
use Rattle.wg_types.specs.declared.bundles.BundleInfo.{BundleInfo}
use Rattle.wg_types.specs.declared.render.TargetInfo.{TargetInfo}
use Rattle.wg_types.specs.Handles.{HandleValue}
use Rattle.wg_rows.specs.Rows.{EachRow}
use Rattle.wg_orders.specs.Steps.{StepPlace}
use Rattle.wg_model.specs.Textures.{dim_fits}
use Rattle.wg_model.specs.Touches.{is_scoped}
use Rattle.wg_model.specs.Attachments.{ColorTarget, color_view}
use Rattle.wg_model.specs.Bundles.{known_bundle}
use Rattle.wg_model.specs.Scopes.{first_clash}
use Rattle.wg_model.specs.Walk.{ScopesOf}
use Rattle.wg_model.specs.Recorded.{StepsOf}
use Rattle.wg_history.specs.declared.events.Setup.{Setup}
use Rattle.wg_history.specs.Entries.{Entry}
use Rattle.wg_history.specs.Answers.{Run}
use Rattle.wg_history.specs.Steps.{Steps}
use Rattle.wg_readback.specs.Shapes.{IsOnceStep}

-- The view of a color attachment has a dimension of its texture, as each view that is made.
abbrev pub IsFairColor : Option ColorTarget → Type 0
IsFairColor None = Unit {0}
IsFairColor (Some target) = dim_fits (color_view target).dim (color_view target).texture_info.dim ≡ true

-- A bundle touches no queries, as each bundle that is made.
abbrev pub IsFairInfo : Option BundleInfo → Type 0
IsFairInfo None = Unit {0}
IsFairInfo (Some bundle) = EachRow (λ touch. is_scoped touch.cells ≡ true) bundle.touches

-- A handle tells of a bundle that touches no queries, and views with a dimension of their textures.
abbrev pub IsFairBundle : HandleValue → Type 0
IsFairBundle bundle = IsFairInfo (known_bundle bundle)

-- What handles tell of the views and bundles that a command names is fair.
abbrev pub IsFair : Command → Type 0
IsFair (BeginRenderPass begin) = EachRow IsFairColor begin.colors
IsFair (ExecuteBundles bundles) = EachRow IsFairBundle bundles
IsFair _ = Unit {0}

-- The steps of a recording whose usage scopes are compatible give no cell twice.
abbrev pub RecordedAreOnce : Type 0
RecordedAreOnce =
    (place : StepPlace) (maker : Maker) (targets : Option TargetInfo) (commands : List (On × Command))
    → EachRow (λ kept. IsFair kept.1) commands
    → first_clash (ScopesOf maker targets commands) ≡ None
    → EachRow IsOnceStep (StepsOf place maker targets commands)

-- No step of a run gives a cell twice: a recording is accepted only if its scopes are compatible, and what its handles tell is
-- as it was made.
abbrev pub HistoryIsOnce : Type 0
HistoryIsOnce = (setup : Setup) (history : List Entry) → Run setup history → EachRow IsOnceStep (Steps setup history)
