-- What is derived of a description serves as what is told without one.
use Rattle.std.specs.Prelude.{◌≡◌, Option, Some, option_map}
use Rattle.wg_types.specs.Samplers.{sampler_kind}
use Rattle.wg_types.specs.declared.handles.ObjRef.{ObjRef}
use Rattle.wg_types.specs.declared.handles.Info.{Info}
use Rattle.wg_types.specs.declared.samplers.SamplerDesc.{SamplerDesc}
use Rattle.wg_types.specs.declared.samplers.SamplerDesc.TheVariants.{Kind}
use Rattle.wg_types.specs.declared.fixed.CullMode.{CullMode}
use Rattle.wg_types.specs.declared.fixed.DepthState.{DepthState}
use Rattle.wg_types.specs.declared.fixed.StencilState.TheVariants.{Written}
use Rattle.wg_types.specs.declared.render.RenderDesc.{RenderDesc}
use Rattle.wg_types.specs.declared.render.TargetInfo.{TargetInfo}
use Rattle.wg_model.specs.FixedFunction.{writes_stencil}
use Rattle.wg_model.specs.Render.{pipeline_rules}
use Rattle.wg_history.specs.Entries.{CreateSampler}
use Rattle.wg_history.specs.Objects.{info_made}

-- Of a sampler that is described the same is known as of one that is made by its kind, so that it serves where that does.
abbrev pub KindServes : Type 0
KindServes = (known : ObjRef → Option Info) (desc : SamplerDesc) → info_made known (CreateSampler desc) ≡ info_made known (CreateSampler (Kind (sampler_kind desc)))

-- what a pipeline does with depth and stencil, if of the stencil it is told alone whether it is written
abbrev pub told_alone : CullMode → DepthState → DepthState
told_alone culled depth = record depth { stencil = Written (writes_stencil culled depth.stencil) }

-- A pipeline that tells its faces serves in a pass exactly where one does that tells whether it writes the stencil.
abbrev pub StencilServes : Type 0
StencilServes = (targets : TargetInfo) (desc : RenderDesc) → pipeline_rules targets (Some desc) ≡ pipeline_rules targets (Some (record desc { depth = option_map (told_alone desc.primitive.cull_mode) desc.depth }))
