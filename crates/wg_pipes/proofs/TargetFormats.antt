-- The formats of color targets.
use Rattle.std.proofs.Common.{◌≡◌, Bool, true, List, [], ◌∷◌, ◌&&◌, Option, Some, None, refl, ap}
use Rattle.std.specs.List.{list_all}
use Rattle.std.specs.Option.{option_map_or}
use Rattle.wg_types.specs.declared.formats.Format.{Format}
use Rattle.wg_types.specs.declared.fixed.Target.{Target}
use Rattle.wg_model.specs.Formats.{is_color}
use Rattle.wg_model.specs.FixedFunction.{each_target, target_formats}
use Rattle.wg_model.specs.RenderPipelines.{passes, is_multisampled}

-- All formats of targets pass a test exactly where all targets have a format that does.
all_formats : (test : Format → Bool) (targets : List (Option Target)) → list_all (passes test) (target_formats targets) ≡ each_target (λ (given : Target). test given.format) targets
all_formats test [] = refl
all_formats test (None ∷ targets) = all_formats test targets
all_formats test (Some target ∷ targets) = ap (λ (rest : Bool). test target.format && rest) (all_formats test targets)

pub color_formats : (targets : List (Option Target)) → list_all (passes is_color) (target_formats targets) ≡ each_target (λ (given : Target). is_color given.format) targets
color_formats targets = all_formats is_color targets

pub multisampled_formats : (targets : List (Option Target)) → list_all (passes is_multisampled) (target_formats targets) ≡ each_target (λ (given : Target). is_multisampled given.format) targets
multisampled_formats targets = all_formats is_multisampled targets
