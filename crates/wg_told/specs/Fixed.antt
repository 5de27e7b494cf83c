-- What flat samplers, and the fixed function of flat render pipelines, stand for. What has a value out of its range stands for nothing.
use Rattle.std.specs.Prelude.{Bool, true, false, Option, Some, None, option_map, option_and_then}
use Rattle.wg_types.specs.declared.formats.Format.{Format}
use Rattle.wg_types.specs.declared.samplers.Compare.TheVariants as compare
use Rattle.wg_types.specs.declared.samplers.FilterMode.TheVariants as filter_mode
use Rattle.wg_types.specs.declared.samplers.SamplerFields.{SamplerFields}
use Rattle.wg_types.specs.declared.fixed.BlendOperation.TheVariants as operation
use Rattle.wg_types.specs.declared.fixed.BlendFactor.TheVariants as factor
use Rattle.wg_types.specs.declared.fixed.BlendComponent.{BlendComponent}
use Rattle.wg_types.specs.declared.fixed.BlendState.{BlendState}
use Rattle.wg_types.specs.declared.fixed.Target.{Target}
use Rattle.wg_types.specs.declared.fixed.StencilOperation.TheVariants as stencil
use Rattle.wg_types.specs.declared.fixed.StencilFace.{StencilFace}
use Rattle.wg_types.specs.declared.fixed.StencilState.{StencilState}
use Rattle.wg_types.specs.declared.fixed.StencilState.TheVariants.{Written, Faces}
use Rattle.wg_types.specs.declared.fixed.DepthState.{DepthState}
use Rattle.wg_types.specs.declared.fixed.Topology.TheVariants as topology
use Rattle.wg_types.specs.declared.fixed.CullMode.TheVariants as cull
use Rattle.wg_types.specs.declared.fixed.PrimitiveState.{PrimitiveState}
use Rattle.wg_told.specs.declared.flats.FlatSampler.{FlatSampler}
use Rattle.wg_told.specs.declared.flats.FlatBlend.{FlatBlend}
use Rattle.wg_told.specs.declared.flats.FlatTarget.{FlatTarget}
use Rattle.wg_told.specs.declared.flats.FlatFace.{FlatFace}
use Rattle.wg_told.specs.declared.flats.FlatRender.{FlatRender}
use Rattle.wg_told.specs.Tables.{maybe_nth, nth_or, flag_of, maybe_flag_of, formats, filter_modes, compares, index_formats, topologies, cull_modes, blend_operations, blend_factors, stencil_operations}

-- what a flat sampler is described by, if its values are ones: a filter that is left out is nearest
abbrev pub sampler_of : FlatSampler → Option SamplerFields
sampler_of s =
    option_and_then (λ mag. option_and_then (λ min. option_and_then (λ mipmap. option_map (λ compared. record {
      mag_filter = mag;
      min_filter = min;
      mipmap_filter = mipmap;
      compare = compared;
      lod_min = s.lod_min;
      lod_max = s.lod_max;
      max_anisotropy = s.max_anisotropy;
    }) (maybe_nth compares s.compare)) (nth_or filter_modes filter_mode.Nearest s.mipmap_filter))
    (nth_or filter_modes filter_mode.Nearest s.min_filter)) (nth_or filter_modes filter_mode.Nearest s.mag_filter)

-- how the colors or the alphas of a target are blended, if the values are ones: what is left out is add, one and zero
abbrev pub component_of : FlatBlend → Option BlendComponent
component_of b =
    option_and_then (λ made. option_and_then (λ src. option_map (λ dst. record { operation = made; src_factor = src; dst_factor = dst })
    (nth_or blend_factors factor.Zero b.dst_factor)) (nth_or blend_factors factor.One b.src_factor)) (nth_or blend_operations operation.Add b.operation)

-- how a flat target that blends is blended, if its values are ones
abbrev pub blend_with : FlatTarget → Option (Option BlendState)
blend_with t = option_and_then (λ color. option_map (λ alpha. Some (record { color = color; alpha = alpha })) (component_of t.alpha)) (component_of t.color)

-- how a flat target is blended, where it is
abbrev pub blend_by : FlatTarget → Bool → Option (Option BlendState)
blend_by t false = Some None
blend_by t true = blend_with t

-- how a flat target is blended, if it is, and if its values are ones
abbrev pub blend_of : FlatTarget → Option (Option BlendState)
blend_of t = option_and_then (blend_by t) (flag_of t.blends)

-- the color target that a flat one is, where it has a format, if its values are ones
abbrev pub target_with : FlatTarget → Format → Option (Option Target)
target_with t format = option_map (λ blend. Some (record { format = format; blend = blend; write_mask = t.write_mask })) (blend_of t)

-- the color target that a flat one is, by its format, which may be left out
abbrev pub target_by : FlatTarget → Option Format → Option (Option Target)
target_by t None = Some None
target_by t (Some format) = target_with t format

-- the color target that a flat one is, or none where its format is left out, if its values are ones
abbrev pub target_of : FlatTarget → Option (Option Target)
target_of t = option_and_then (target_by t) (maybe_nth formats t.format)

-- what is done with the stencil of a face, if the values are ones: what is left out is always and keep
abbrev pub face_of : FlatFace → Option StencilFace
face_of f =
    option_and_then (λ compared. option_and_then (λ fails. option_and_then (λ depth_fails. option_map (λ passes. record {
      compare = compared;
      fail_op = fails;
      depth_fail_op = depth_fails;
      pass_op = passes;
    }) (nth_or stencil_operations stencil.Keep f.pass_op)) (nth_or stencil_operations stencil.Keep f.depth_fail_op))
    (nth_or stencil_operations stencil.Keep f.fail_op)) (nth_or compares compare.Always f.compare)

-- what a flat render pipeline does with the stencil by its faces, if its values are ones
abbrev pub faces_of : FlatRender → Option StencilState
faces_of r = option_and_then (λ front. option_map (λ back. Faces front back r.stencil_write_mask) (face_of r.stencil_back)) (face_of r.stencil_front)

-- what a flat render pipeline does with the stencil, by whether it is told alone that it writes it
abbrev pub stencil_by : FlatRender → Bool → Option StencilState
stencil_by r false = faces_of r
stencil_by r true = Some (Written true)

-- what a flat render pipeline does with the stencil, if its values are ones
abbrev pub stencil_of : FlatRender → Option StencilState
stencil_of r = option_and_then (stencil_by r) (flag_of r.stencil_write)

-- what a flat render pipeline does with depth and stencil, where it has a format, if its values are ones
abbrev pub depth_with : FlatRender → Format → Option (Option DepthState)
depth_with r format =
    option_and_then (λ writes. option_and_then (λ compared. option_and_then (λ drawn. option_map (λ bias. Some (record {
      format = format;
      depth_write = writes;
      depth_compare = compared;
      stencil = drawn;
      bias = bias;
    })) (flag_of r.biased)) (stencil_of r)) (maybe_nth compares r.depth_compare)) (maybe_flag_of r.depth_write)

-- what a flat render pipeline does with depth and stencil, by the format, which may be left out
abbrev pub depth_by : FlatRender → Option Format → Option (Option DepthState)
depth_by r None = Some None
depth_by r (Some format) = depth_with r format

-- what a flat render pipeline does with depth and stencil, if its values are ones
abbrev pub depth_of : FlatRender → Option (Option DepthState)
depth_of r = option_and_then (depth_by r) (maybe_nth formats r.depth_format)

-- what the vertices of a flat render pipeline make, if its values are ones: what is left out is a list of triangles, and none is culled
abbrev pub primitive_of : FlatRender → Option PrimitiveState
primitive_of r =
    option_and_then (λ made. option_and_then (λ strip. option_map (λ culled. record { topology = made; strip_index_format = strip; cull_mode = culled })
    (nth_or cull_modes cull.None r.cull_mode)) (maybe_nth index_formats r.strip_index_format)) (nth_or topologies topology.TriangleList r.topology)
