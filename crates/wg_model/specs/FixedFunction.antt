-- Fixed function of render pipelines (WebGPU, "Render Pipeline Creation"): the rules of primitives, of color targets and of depth
-- and stencil. Also WebGPU, "Primitive State", "Color Target State", "Blend State", "Depth/Stencil State".
use Rattle.std.specs.Prelude.{◌==◌, nat_le, Bool, true, false, not, ◌&&◌, ◌||◌, List, [], ◌∷◌, map, Option, Some, None, is_some, is_none, option_map}
use Rattle.std.specs.List.{list_all}
use Rattle.std.specs.Option.{option_map_or}
use Rattle.wg_rules.specs.declared.TheConstants.{STRIP_INDEX_FORMAT_IS_OF_STRIPS, BLENDED_TARGETS_MAY_BLEND, LEAST_AND_GREATEST_ARE_OF_FACTORS_ONE, WRITE_MASKS_ARE_KNOWN, COMPARED_DEPTH_IS_IN_FORMAT, STENCIL_OF_FACES_IS_IN_FORMAT, DEPTH_WRITE_IS_GIVEN, DEPTH_COMPARE_IS_GIVEN, DEPTH_BIAS_IS_OF_TRIANGLES}
use Rattle.wg_types.specs.Formats.{row}
use Rattle.wg_types.specs.Fixed.{is_strip}
use Rattle.wg_types.specs.declared.formats.Format.{Format}
use Rattle.wg_types.specs.declared.formats.TargetRow.{TargetRow}
use Rattle.wg_types.specs.declared.samplers.Compare.{Compare}
use Rattle.wg_types.specs.declared.samplers.Compare.TheVariants.{Never, Less, Equal, LessEqual, Greater, NotEqual, GreaterEqual, Always}
use Rattle.wg_types.specs.declared.fixed.BlendOperation.{BlendOperation}
use Rattle.wg_types.specs.declared.fixed.BlendOperation.TheVariants.{Add, Subtract, ReverseSubtract, Min, Max}
use Rattle.wg_types.specs.declared.fixed.BlendFactor.{BlendFactor}
use Rattle.wg_types.specs.declared.fixed.BlendFactor.TheVariants as factor
use Rattle.wg_types.specs.declared.fixed.BlendComponent.{BlendComponent}
use Rattle.wg_types.specs.declared.fixed.BlendState.{BlendState}
use Rattle.wg_types.specs.declared.fixed.Target.{Target}
use Rattle.wg_types.specs.declared.fixed.StencilOperation.{StencilOperation}
use Rattle.wg_types.specs.declared.fixed.StencilOperation.TheVariants.{Keep, Zero, Replace, Invert, IncrementClamp, DecrementClamp, IncrementWrap, DecrementWrap}
use Rattle.wg_types.specs.declared.fixed.StencilFace.{StencilFace}
use Rattle.wg_types.specs.declared.fixed.StencilState.{StencilState}
use Rattle.wg_types.specs.declared.fixed.StencilState.TheVariants.{Written, Faces}
use Rattle.wg_types.specs.declared.fixed.DepthState.{DepthState}
use Rattle.wg_types.specs.declared.fixed.Topology.{Topology}
use Rattle.wg_types.specs.declared.fixed.Topology.TheVariants.{PointList, LineList, LineStrip, TriangleList, TriangleStrip}
use Rattle.wg_types.specs.declared.fixed.CullMode.{CullMode}
use Rattle.wg_types.specs.declared.fixed.CullMode.TheVariants as cull
use Rattle.wg_types.specs.declared.fixed.PrimitiveState.{PrimitiveState}
use Rattle.wg_model.specs.Rules.{Rule}
use Rattle.wg_model.specs.Formats.{has_depth, has_stencil}

-- Primitives.

-- rule 407: an index format of strips is given only where strips are made
abbrev pub strip_format_fits : PrimitiveState → Bool
strip_format_fits primitive = is_none primitive.strip_index_format || is_strip primitive.topology

-- the rule of what vertices make
abbrev pub primitive_rules : PrimitiveState → List Rule
primitive_rules primitive = (STRIP_INDEX_FORMAT_IS_OF_STRIPS, strip_format_fits primitive) ∷ []

-- whether vertices make triangles
abbrev pub makes_triangles : Topology → Bool
makes_triangles PointList = false
makes_triangles LineList = false
makes_triangles LineStrip = false
makes_triangles TriangleList = true
makes_triangles TriangleStrip = true

-- Color targets.

-- the formats of color targets, of which some may be left out
abbrev pub target_formats : List (Option Target) → List (Option Format)
target_formats targets = map (option_map (λ (target : Target). target.format)) targets

-- whether each target that is not left out passes a test
abbrev pub each_target : (Target → Bool) → List (Option Target) → Bool
each_target test targets = list_all (λ (target : Option Target). option_map_or test target true) targets

-- whether targets of a format may blend
abbrev pub may_blend : Format → Bool
may_blend format = option_map_or (λ (target : TargetRow). target.blends) (row format).target false

-- whether a format has an alpha channel
abbrev pub has_alpha : Format → Bool
has_alpha format = option_map_or (λ (target : TargetRow). target.alpha) (row format).target false

-- whether a target does not blend, or may
abbrev pub blend_fits : Target → Bool
blend_fits target = is_none target.blend || may_blend target.format

-- whether an operation takes the lesser or the greater of two values
abbrev pub takes_one : BlendOperation → Bool
takes_one Add = false
takes_one Subtract = false
takes_one ReverseSubtract = false
takes_one Min = true
takes_one Max = true

-- whether a factor is one
abbrev pub is_one : BlendFactor → Bool
is_one factor.Zero = false
is_one factor.One = true
is_one factor.Src = false
is_one factor.OneMinusSrc = false
is_one factor.SrcAlpha = false
is_one factor.OneMinusSrcAlpha = false
is_one factor.Dst = false
is_one factor.OneMinusDst = false
is_one factor.DstAlpha = false
is_one factor.OneMinusDstAlpha = false
is_one factor.SrcAlphaSaturated = false
is_one factor.Constant = false
is_one factor.OneMinusConstant = false

-- whether the lesser or the greater is taken of values that are multiplied by one alone
abbrev pub factors_fit : BlendComponent → Bool
factors_fit component = not (takes_one component.operation) || (is_one component.src_factor && is_one component.dst_factor)

-- whether the factors of colors and those of alphas fit, where there are any
abbrev pub blend_factors_fit : Target → Bool
blend_factors_fit target = option_map_or (λ (blend : BlendState). factors_fit blend.color && factors_fit blend.alpha) target.blend true

-- whether a mask has no bit but those of red, green, blue and alpha
abbrev pub mask_is_known : Target → Bool
mask_is_known target = nat_le target.write_mask 15

-- the rules of color targets but for those of their formats: 408 each that has a blend has a format that may; 409 where the lesser
-- or the greater is taken, both factors are one; 410 each write mask is known
abbrev pub blending_rules : List (Option Target) → List Rule
blending_rules targets =
    (BLENDED_TARGETS_MAY_BLEND, each_target blend_fits targets)
    ∷ ((LEAST_AND_GREATEST_ARE_OF_FACTORS_ONE, each_target blend_factors_fit targets)
    ∷ ((WRITE_MASKS_ARE_KNOWN, each_target mask_is_known targets)
    ∷ []))

-- Depth and stencil.

-- whether an operation leaves a value of the stencil as it is
abbrev pub is_keep : StencilOperation → Bool
is_keep Keep = true
is_keep Zero = false
is_keep Replace = false
is_keep Invert = false
is_keep IncrementClamp = false
is_keep DecrementClamp = false
is_keep IncrementWrap = false
is_keep DecrementWrap = false

-- whether a comparison lets all pass
abbrev pub is_always : Compare → Bool
is_always Never = false
is_always Less = false
is_always Equal = false
is_always LessEqual = false
is_always Greater = false
is_always NotEqual = false
is_always GreaterEqual = false
is_always Always = true

-- whether each operation of a face leaves the stencil as it is
abbrev pub keeps : StencilFace → Bool
keeps face = is_keep face.fail_op && (is_keep face.depth_fail_op && is_keep face.pass_op)

-- whether a face neither looks at the stencil nor changes it
abbrev pub is_plain : StencilFace → Bool
is_plain face = is_always face.compare && keeps face

-- whether fronts are drawn
abbrev pub draws_fronts : CullMode → Bool
draws_fronts cull.None = true
draws_fronts cull.Front = false
draws_fronts cull.Back = true

-- whether backs are drawn
abbrev pub draws_backs : CullMode → Bool
draws_backs cull.None = true
draws_backs cull.Front = true
draws_backs cull.Back = false

-- whether a pipeline writes stencil: as it is told, or where some bit of its mask is set, and a face that is drawn has an
-- operation that does not leave the stencil as it is
abbrev pub writes_stencil : CullMode → StencilState → Bool
writes_stencil culled (Written writes) = writes
writes_stencil culled (Faces front back write_mask) = not (write_mask == 0) && ((draws_fronts culled && not (keeps front)) || (draws_backs culled && not (keeps back)))

-- whether stencil is told to be written, without a word of faces
abbrev pub told_to_write : StencilState → Bool
told_to_write (Written writes) = writes
told_to_write (Faces front back write_mask) = false

-- whether both faces are plain
abbrev pub faces_are_plain : StencilState → Bool
faces_are_plain (Written writes) = true
faces_are_plain (Faces front back write_mask) = is_plain front && is_plain back

-- whether a face has an operation that changes the stencil where depth fails
abbrev pub changes_where_depth_fails : StencilState → Bool
changes_where_depth_fails (Written writes) = false
changes_where_depth_fails (Faces front back write_mask) = not (is_keep front.depth_fail_op) || not (is_keep back.depth_fail_op)

-- whether depth is written, which it is not where that is left out
abbrev pub writes_depth : DepthState → Bool
writes_depth depth = option_map_or (λ (writes : Bool). writes) depth.depth_write false

-- whether depth is compared, and not so that all pass
abbrev pub compares_depth : DepthState → Bool
compares_depth depth = option_map_or (λ (compare : Compare). not (is_always compare)) depth.depth_compare false

-- whether the format of a depth state has depth
abbrev pub state_has_depth : DepthState → Bool
state_has_depth depth = has_depth (row depth.format).aspects

-- whether the format of a depth state has stencil
abbrev pub state_has_stencil : DepthState → Bool
state_has_stencil depth = has_stencil (row depth.format).aspects

-- whether it has to be told how depth is compared: where there is depth, and it is written, or something hangs on that it fails
abbrev pub asks_depth_compare : DepthState → Bool
asks_depth_compare depth = state_has_depth depth && (writes_depth depth || changes_where_depth_fails depth.stencil)

-- the rules of depth and stencil, after that of their format: 412 depth is compared, if not so that all pass, where there is depth;
-- 413 faces look at the stencil and change it where there is one, whatever the masks are; 414 where there is depth it is given
-- whether it is written; 415 where it is, or an operation hangs on whether it fails, it is given how it is compared; 416 a bias is of
-- triangles
abbrev pub depth_state_rules : Topology → DepthState → List Rule
depth_state_rules topology depth =
    (COMPARED_DEPTH_IS_IN_FORMAT, not (compares_depth depth) || state_has_depth depth)
    ∷ ((STENCIL_OF_FACES_IS_IN_FORMAT, faces_are_plain depth.stencil || state_has_stencil depth)
    ∷ ((DEPTH_WRITE_IS_GIVEN, not (state_has_depth depth) || is_some depth.depth_write)
    ∷ ((DEPTH_COMPARE_IS_GIVEN, not (asks_depth_compare depth) || is_some depth.depth_compare)
    ∷ ((DEPTH_BIAS_IS_OF_TRIANGLES, not depth.bias || makes_triangles topology)
    ∷ []))))

-- the rules of depth and stencil, where there are any
abbrev pub depth_rules : Topology → Option DepthState → List Rule
depth_rules topology None = []
depth_rules topology (Some depth) = depth_state_rules topology depth

-- Alpha to coverage.

-- whether a target is given whose format may blend and has alpha
abbrev pub covers : Option Target → Bool
covers None = false
covers (Some target) = may_blend target.format && has_alpha target.format

-- whether the first of some targets is such a one
abbrev pub first_covers : List (Option Target) → Bool
first_covers [] = false
first_covers (target ∷ targets) = covers target
