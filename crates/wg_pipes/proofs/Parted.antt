-- The rules of render pipelines part by part.
use Rattle.std.proofs.Common.{◌≡◌, ℕ, Bool, true, List, [], ◌∷◌, ◌++◌, Option, Some, ap, ◌∙◌, if◌then◌else◌}
use Rattle.std.specs.Option.{option_or, option_map_or}
use Rattle.wg_rules.specs.declared.TheConstants.{PIPELINE_DEPTH_FORMAT_FITS, SAMPLE_BYTES_ARE_WITHIN_LIMIT}
use Rattle.wg_types.specs.declared.fixed.Target.{Target}
use Rattle.wg_types.specs.declared.limits.Limits.{Limits}
use Rattle.wg_types.specs.declared.render.RenderDesc.{RenderDesc}
use Rattle.wg_model.specs.Rules.{Rule, first_unmet}
use Rattle.wg_model.specs.FixedFunction.{primitive_rules, blending_rules, depth_rules}
use Rattle.wg_model.specs.RenderPipelines.{color_rules, whole_rules, depth_state_fits, target_rules}
use Rattle.wg_model.specs.Vertex.{layout_rules}
use Rattle.wg_model.proofs.Unmet.{first_unmet_joined}

-- The rules of vertex buffers, and then those of targets.
pub rules_parted : (limits : Limits) (desc : RenderDesc) → first_unmet (layout_rules limits desc.buffers ++ target_rules limits desc) ≡ option_or (first_unmet (layout_rules limits desc.buffers)) (first_unmet (target_rules limits desc))
rules_parted limits desc = first_unmet_joined (layout_rules limits desc.buffers) (target_rules limits desc)

-- The rules of color targets: those of how they blend, and then that of bytes.
pub blending_parted : (targets : List (Option Target)) (fits : Bool) → first_unmet (blending_rules targets ++ (SAMPLE_BYTES_ARE_WITHIN_LIMIT, fits) ∷ []) ≡ option_or (first_unmet (blending_rules targets)) (first_unmet ((SAMPLE_BYTES_ARE_WITHIN_LIMIT, fits) ∷ []))
blending_parted targets fits = first_unmet_joined (blending_rules targets) ((SAMPLE_BYTES_ARE_WITHIN_LIMIT, fits) ∷ [])

-- The rules of what is drawn: of primitives, of color targets, 164, of depth and stencil, and of the whole.
pub targets_parted : (limits : Limits) (desc : RenderDesc) → first_unmet (target_rules limits desc) ≡ option_or (first_unmet (primitive_rules desc.primitive)) (option_or (first_unmet (color_rules limits desc.targets)) (if option_map_or depth_state_fits desc.depth true then option_or (first_unmet (depth_rules desc.primitive.topology desc.depth)) (first_unmet (whole_rules desc)) else Some PIPELINE_DEPTH_FORMAT_FITS))
targets_parted limits desc =
    let fit : Bool = option_map_or depth_state_fits desc.depth true in
    let stencils : List Rule = depth_rules desc.primitive.topology desc.depth in
    let behind : List Rule = (PIPELINE_DEPTH_FORMAT_FITS, fit) ∷ (stencils ++ whole_rules desc) in
    first_unmet_joined (primitive_rules desc.primitive) (color_rules limits desc.targets ++ behind)
    ∙ ap (option_or (first_unmet (primitive_rules desc.primitive)))
    (first_unmet_joined (color_rules limits desc.targets) behind
    ∙ ap (λ (rest : Option ℕ). option_or (first_unmet (color_rules limits desc.targets)) (if fit then rest else Some PIPELINE_DEPTH_FORMAT_FITS))
    (first_unmet_joined stencils (whole_rules desc)))
