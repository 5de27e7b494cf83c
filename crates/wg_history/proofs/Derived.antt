-- What is derived of a description serves as what is told without one.
use Rattle.std.proofs.Common.{◌≡◌, refl, Option, Some, None, option_map}
use Rattle.wg_types.specs.declared.fixed.DepthState.{DepthState}
use Rattle.wg_types.specs.declared.render.RenderDesc.{RenderDesc}
use Rattle.wg_types.specs.declared.render.TargetInfo.{TargetInfo}
use Rattle.wg_model.specs.Render.{pipeline_rules}
use Rattle.wg_history.specs.Derived.{KindServes, StencilServes, told_alone}

pub kind_serves : KindServes
kind_serves known desc = refl

pub stencil_serves : StencilServes
stencil_serves targets desc = by_depth desc.depth
  where
    by_depth : (depth : Option DepthState) → pipeline_rules targets (Some (record desc { depth = depth })) ≡ pipeline_rules targets (Some (record desc { depth = option_map (told_alone desc.primitive.cull_mode) depth }))
    by_depth None = refl
    by_depth (Some state) = refl
