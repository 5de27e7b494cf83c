-- The tests of what pipelines fix tell whether it is equal.
use Rattle.std.proofs.Common.{◌≡◌, ℕ, ◌==◌, Bool, Option, refl, ap, if◌then◌else◌}
use Rattle.std.specs.Prelude.{Decides}
use Rattle.std.proofs.lemmas.Bool.Decides.{Decides-and, Decides-like}
use Rattle.wg_types.specs.Formats.{same_format}
use Rattle.wg_types.specs.declared.formats.Format.{Format}
use Rattle.wg_types.specs.declared.samplers.Compare.{Compare}
use Rattle.wg_types.specs.declared.samplers.Compare.TheVariants as compare
use Rattle.wg_types.specs.declared.fixed.BlendOperation.{BlendOperation}
use Rattle.wg_types.specs.declared.fixed.BlendOperation.TheVariants as operation
use Rattle.wg_types.specs.declared.fixed.BlendFactor.{BlendFactor}
use Rattle.wg_types.specs.declared.fixed.BlendFactor.TheVariants as factor
use Rattle.wg_types.specs.declared.fixed.StencilOperation.{StencilOperation}
use Rattle.wg_types.specs.declared.fixed.StencilOperation.TheVariants as stencil
use Rattle.wg_types.specs.declared.fixed.Topology.{Topology}
use Rattle.wg_types.specs.declared.fixed.Topology.TheVariants as topology
use Rattle.wg_types.specs.declared.fixed.CullMode.{CullMode}
use Rattle.wg_types.specs.declared.fixed.CullMode.TheVariants as cull
use Rattle.wg_types.specs.declared.vertex.IndexFormat.{IndexFormat}
use Rattle.wg_types.specs.declared.vertex.IndexFormat.TheVariants as index
use Rattle.wg_types.specs.declared.fixed.BlendComponent.{BlendComponent}
use Rattle.wg_types.specs.declared.fixed.BlendState.{BlendState}
use Rattle.wg_types.specs.declared.fixed.Target.{Target}
use Rattle.wg_types.specs.declared.fixed.StencilFace.{StencilFace}
use Rattle.wg_types.specs.declared.fixed.StencilState.{StencilState}
use Rattle.wg_types.specs.declared.fixed.DepthState.{DepthState}
use Rattle.wg_types.specs.declared.fixed.PrimitiveState.{PrimitiveState}
use Rattle.wg_types.specs.declared.fixed.StencilState.TheVariants.{Written, Faces}
use Rattle.wg_model.specs.Equality.{same_bool, same_option, compare_number, same_compare, blend_operation_number, same_blend_operation, blend_factor_number, same_blend_factor, same_blend_component, same_blend, same_target, stencil_operation_number, same_stencil_operation, same_face, same_stencil, same_depth_state, topology_number, cull_number, index_format_number, same_index_format, same_primitive}
use Rattle.wg_formats.proofs.BindingKinds.{numbers_tell, words_tell, bools_tell, like_two, like_three, like_four, like_five, formats_tell}
use Rattle.wg_history.proofs.Telling.{options_tell}

-- Words.
abbrev compare_at : ℕ → Compare
compare_at n = if n == 0 then compare.Never else if n == 1 then compare.Less else if n == 2 then compare.Equal else if n == 3 then compare.LessEqual else if n == 4 then compare.Greater else if n == 5 then compare.NotEqual else if n == 6 then compare.GreaterEqual else compare.Always

compare_back : (x : Compare) → compare_at (compare_number x) ≡ x
compare_back compare.Never = refl
compare_back compare.Less = refl
compare_back compare.Equal = refl
compare_back compare.LessEqual = refl
compare_back compare.Greater = refl
compare_back compare.NotEqual = refl
compare_back compare.GreaterEqual = refl
compare_back compare.Always = refl

compares_tell : (a b : Compare) → Decides (same_compare a b) (a ≡ b)
compares_tell a b = words_tell compare_number compare_at compare_back a b

abbrev blend_operation_at : ℕ → BlendOperation
blend_operation_at n = if n == 0 then operation.Add else if n == 1 then operation.Subtract else if n == 2 then operation.ReverseSubtract else if n == 3 then operation.Min else operation.Max

blend_operation_back : (x : BlendOperation) → blend_operation_at (blend_operation_number x) ≡ x
blend_operation_back operation.Add = refl
blend_operation_back operation.Subtract = refl
blend_operation_back operation.ReverseSubtract = refl
blend_operation_back operation.Min = refl
blend_operation_back operation.Max = refl

blend_operations_tell : (a b : BlendOperation) → Decides (same_blend_operation a b) (a ≡ b)
blend_operations_tell a b = words_tell blend_operation_number blend_operation_at blend_operation_back a b

abbrev blend_factor_at : ℕ → BlendFactor
blend_factor_at n = if n == 0 then factor.Zero else if n == 1 then factor.One else if n == 2 then factor.Src else if n == 3 then factor.OneMinusSrc else if n == 4 then factor.SrcAlpha else if n == 5 then factor.OneMinusSrcAlpha else if n == 6 then factor.Dst else if n == 7 then factor.OneMinusDst else if n == 8 then factor.DstAlpha else if n == 9 then factor.OneMinusDstAlpha else if n == 10 then factor.SrcAlphaSaturated else if n == 11 then factor.Constant else factor.OneMinusConstant

blend_factor_back : (x : BlendFactor) → blend_factor_at (blend_factor_number x) ≡ x
blend_factor_back factor.Zero = refl
blend_factor_back factor.One = refl
blend_factor_back factor.Src = refl
blend_factor_back factor.OneMinusSrc = refl
blend_factor_back factor.SrcAlpha = refl
blend_factor_back factor.OneMinusSrcAlpha = refl
blend_factor_back factor.Dst = refl
blend_factor_back factor.OneMinusDst = refl
blend_factor_back factor.DstAlpha = refl
blend_factor_back factor.OneMinusDstAlpha = refl
blend_factor_back factor.SrcAlphaSaturated = refl
blend_factor_back factor.Constant = refl
blend_factor_back factor.OneMinusConstant = refl

blend_factors_tell : (a b : BlendFactor) → Decides (same_blend_factor a b) (a ≡ b)
blend_factors_tell a b = words_tell blend_factor_number blend_factor_at blend_factor_back a b

abbrev stencil_operation_at : ℕ → StencilOperation
stencil_operation_at n = if n == 0 then stencil.Keep else if n == 1 then stencil.Zero else if n == 2 then stencil.Replace else if n == 3 then stencil.Invert else if n == 4 then stencil.IncrementClamp else if n == 5 then stencil.DecrementClamp else if n == 6 then stencil.IncrementWrap else stencil.DecrementWrap

stencil_operation_back : (x : StencilOperation) → stencil_operation_at (stencil_operation_number x) ≡ x
stencil_operation_back stencil.Keep = refl
stencil_operation_back stencil.Zero = refl
stencil_operation_back stencil.Replace = refl
stencil_operation_back stencil.Invert = refl
stencil_operation_back stencil.IncrementClamp = refl
stencil_operation_back stencil.DecrementClamp = refl
stencil_operation_back stencil.IncrementWrap = refl
stencil_operation_back stencil.DecrementWrap = refl

stencil_operations_tell : (a b : StencilOperation) → Decides (same_stencil_operation a b) (a ≡ b)
stencil_operations_tell a b = words_tell stencil_operation_number stencil_operation_at stencil_operation_back a b

abbrev topology_at : ℕ → Topology
topology_at n = if n == 0 then topology.PointList else if n == 1 then topology.LineList else if n == 2 then topology.LineStrip else if n == 3 then topology.TriangleList else topology.TriangleStrip

topology_back : (x : Topology) → topology_at (topology_number x) ≡ x
topology_back topology.PointList = refl
topology_back topology.LineList = refl
topology_back topology.LineStrip = refl
topology_back topology.TriangleList = refl
topology_back topology.TriangleStrip = refl

topologies_tell : (a b : Topology) → Decides (topology_number a == topology_number b) (a ≡ b)
topologies_tell a b = words_tell topology_number topology_at topology_back a b

abbrev cull_at : ℕ → CullMode
cull_at n = if n == 0 then cull.None else if n == 1 then cull.Front else cull.Back

cull_back : (x : CullMode) → cull_at (cull_number x) ≡ x
cull_back cull.None = refl
cull_back cull.Front = refl
cull_back cull.Back = refl

culls_tell : (a b : CullMode) → Decides (cull_number a == cull_number b) (a ≡ b)
culls_tell a b = words_tell cull_number cull_at cull_back a b

abbrev index_format_at : ℕ → IndexFormat
index_format_at n = if n == 0 then index.Uint16 else index.Uint32

index_format_back : (x : IndexFormat) → index_format_at (index_format_number x) ≡ x
index_format_back index.Uint16 = refl
index_format_back index.Uint32 = refl

index_formats_tell : (a b : IndexFormat) → Decides (same_index_format a b) (a ≡ b)
index_formats_tell a b = words_tell index_format_number index_format_at index_format_back a b

-- Color targets.
abbrev blend_component_made : BlendOperation → BlendFactor → BlendFactor → BlendComponent
blend_component_made operation src_factor dst_factor = record { operation = operation; src_factor = src_factor; dst_factor = dst_factor }

blend_components_tell : (a b : BlendComponent) → Decides (same_blend_component a b) (a ≡ b)
blend_components_tell a b =
    Decides-like _ (like_three blend_component_made a.operation b.operation a.src_factor b.src_factor a.dst_factor b.dst_factor)
    (λ e. ((ap (λ (x : BlendComponent). x.operation) e, ap (λ (x : BlendComponent). x.src_factor) e), ap (λ (x : BlendComponent). x.dst_factor) e))
    (Decides-and _ (same_blend_factor a.dst_factor b.dst_factor)
    (Decides-and (same_blend_operation a.operation b.operation) (same_blend_factor a.src_factor b.src_factor) (blend_operations_tell a.operation b.operation) (blend_factors_tell a.src_factor b.src_factor))
    (blend_factors_tell a.dst_factor b.dst_factor))

abbrev blend_made : BlendComponent → BlendComponent → BlendState
blend_made color alpha = record { color = color; alpha = alpha }

blends_tell : (a b : BlendState) → Decides (same_blend a b) (a ≡ b)
blends_tell a b =
    Decides-like _ (like_two blend_made a.color b.color a.alpha b.alpha)
    (λ e. (ap (λ (x : BlendState). x.color) e, ap (λ (x : BlendState). x.alpha) e))
    (Decides-and (same_blend_component a.color b.color) (same_blend_component a.alpha b.alpha) (blend_components_tell a.color b.color) (blend_components_tell a.alpha b.alpha))

abbrev target_made : Format → Option BlendState → ℕ → Target
target_made format blend write_mask = record { format = format; blend = blend; write_mask = write_mask }

pub targets_tell : (a b : Target) → Decides (same_target a b) (a ≡ b)
targets_tell a b =
    Decides-like _ (like_three target_made a.format b.format a.blend b.blend a.write_mask b.write_mask)
    (λ e. ((ap (λ (x : Target). x.format) e, ap (λ (x : Target). x.blend) e), ap (λ (x : Target). x.write_mask) e))
    (Decides-and _ (a.write_mask == b.write_mask)
    (Decides-and (same_format a.format b.format) (same_option same_blend a.blend b.blend) (formats_tell a.format b.format) (options_tell same_blend blends_tell a.blend b.blend))
    (numbers_tell a.write_mask b.write_mask))

-- Depth and stencil.
abbrev face_made : Compare → StencilOperation → StencilOperation → StencilOperation → StencilFace
face_made compare fail_op depth_fail_op pass_op = record { compare = compare; fail_op = fail_op; depth_fail_op = depth_fail_op; pass_op = pass_op }

faces_tell : (a b : StencilFace) → Decides (same_face a b) (a ≡ b)
faces_tell a b =
    Decides-like _ (like_four face_made a.compare b.compare a.fail_op b.fail_op a.depth_fail_op b.depth_fail_op a.pass_op b.pass_op)
    (λ e. (((ap (λ (x : StencilFace). x.compare) e, ap (λ (x : StencilFace). x.fail_op) e), ap (λ (x : StencilFace). x.depth_fail_op) e), ap (λ (x : StencilFace). x.pass_op) e))
    (Decides-and _ (same_stencil_operation a.pass_op b.pass_op)
    (Decides-and _ (same_stencil_operation a.depth_fail_op b.depth_fail_op)
    (Decides-and (same_compare a.compare b.compare) (same_stencil_operation a.fail_op b.fail_op) (compares_tell a.compare b.compare) (stencil_operations_tell a.fail_op b.fail_op))
    (stencil_operations_tell a.depth_fail_op b.depth_fail_op))
    (stencil_operations_tell a.pass_op b.pass_op))

stencils_tell : (a b : StencilState) → Decides (same_stencil a b) (a ≡ b)
stencils_tell (Written a) (Written b) = let d = bools_tell a b in (λ e. ap (λ (x : Bool). Written x) (d.0 e), λ e. d.1 (cc))
stencils_tell (Faces front_a back_a mask_a) (Faces front_b back_b mask_b) =
    Decides-like _ (like_three Faces front_a front_b back_a back_b mask_a mask_b) (λ e. ((cc, cc), cc))
    (Decides-and _ (mask_a == mask_b) (Decides-and (same_face front_a front_b) (same_face back_a back_b) (faces_tell front_a front_b) (faces_tell back_a back_b)) (numbers_tell mask_a mask_b))
stencils_tell _ _ = (λ e. absurd (cc), λ e. absurd (cc))

abbrev depth_state_made : Format → Option Bool → Option Compare → StencilState → Bool → DepthState
depth_state_made format depth_write depth_compare stencil bias = record { format = format; depth_write = depth_write; depth_compare = depth_compare; stencil = stencil; bias = bias }

pub depth_states_tell : (a b : DepthState) → Decides (same_depth_state a b) (a ≡ b)
depth_states_tell a b =
    Decides-like _ (like_five depth_state_made a.format b.format a.depth_write b.depth_write a.depth_compare b.depth_compare a.stencil b.stencil a.bias b.bias)
    (λ e. ((((ap (λ (x : DepthState). x.format) e, ap (λ (x : DepthState). x.depth_write) e), ap (λ (x : DepthState). x.depth_compare) e), ap (λ (x : DepthState). x.stencil) e), ap (λ (x : DepthState). x.bias) e))
    (Decides-and _ (same_bool a.bias b.bias)
    (Decides-and _ (same_stencil a.stencil b.stencil)
    (Decides-and _ (same_option same_compare a.depth_compare b.depth_compare)
    (Decides-and (same_format a.format b.format) (same_option same_bool a.depth_write b.depth_write) (formats_tell a.format b.format) (options_tell same_bool bools_tell a.depth_write b.depth_write))
    (options_tell same_compare compares_tell a.depth_compare b.depth_compare))
    (stencils_tell a.stencil b.stencil))
    (bools_tell a.bias b.bias))

-- Primitives.
abbrev primitive_made : Topology → Option IndexFormat → CullMode → PrimitiveState
primitive_made topology strip_index_format cull_mode = record { topology = topology; strip_index_format = strip_index_format; cull_mode = cull_mode }

pub primitives_tell : (a b : PrimitiveState) → Decides (same_primitive a b) (a ≡ b)
primitives_tell a b =
    Decides-like _ (like_three primitive_made a.topology b.topology a.strip_index_format b.strip_index_format a.cull_mode b.cull_mode)
    (λ e. ((ap (λ (x : PrimitiveState). x.topology) e, ap (λ (x : PrimitiveState). x.strip_index_format) e), ap (λ (x : PrimitiveState). x.cull_mode) e))
    (Decides-and _ (cull_number a.cull_mode == cull_number b.cull_mode)
    (Decides-and (topology_number a.topology == topology_number b.topology) (same_option same_index_format a.strip_index_format b.strip_index_format) (topologies_tell a.topology b.topology) (options_tell same_index_format index_formats_tell a.strip_index_format b.strip_index_format))
    (culls_tell a.cull_mode b.cull_mode))
