-- The words of the fixed function of render pipelines: of how targets are blended (WebGPU, "GPUBlendOperation" and
-- "GPUBlendFactor"), of depth and stencil (WebGPU, "GPUStencilOperation"), and of what vertices make (WebGPU,
-- "GPUPrimitiveTopology", "GPUFrontFace" and "GPUCullMode").
use Rattle.std.specs.Prelude.{ℕ, List, [], ◌∷◌, codes, Option, Some, None, ⊤}
use Rattle.wg_types.specs.declared.fixed.BlendOperation.{BlendOperation}
use Rattle.wg_types.specs.declared.fixed.BlendOperation.TheVariants as operation
use Rattle.wg_types.specs.declared.fixed.BlendFactor.{BlendFactor}
use Rattle.wg_types.specs.declared.fixed.BlendFactor.TheVariants as factor
use Rattle.wg_types.specs.declared.fixed.StencilOperation.{StencilOperation}
use Rattle.wg_types.specs.declared.fixed.StencilOperation.TheVariants as stencil
use Rattle.wg_types.specs.declared.fixed.Topology.{Topology}
use Rattle.wg_types.specs.declared.fixed.Topology.TheVariants as topology
use Rattle.wg_types.specs.declared.fixed.CullMode.{CullMode}
use Rattle.wg_types.specs.declared.fixed.CullMode.TheVariants as cull
use Rattle.wg_types.specs.declared.samplers.Compare.{Compare}
use Rattle.wg_types.specs.declared.samplers.Compare.TheVariants.{Never, Less, Equal, LessEqual, Greater, NotEqual, GreaterEqual, Always}

-- the words of what is made of two values that are blended
abbrev pub blend_operation_words : List (List ℕ × BlendOperation)
blend_operation_words =
    (codes "add", operation.Add) ∷ (codes "subtract", operation.Subtract) ∷ (codes "reverse-subtract", operation.ReverseSubtract)
    ∷ (codes "min", operation.Min) ∷ (codes "max", operation.Max) ∷ []

-- the words of what a value is multiplied by before it is blended
abbrev pub blend_factor_words : List (List ℕ × BlendFactor)
blend_factor_words =
    (codes "zero", factor.Zero) ∷ (codes "one", factor.One) ∷ (codes "src", factor.Src) ∷ (codes "one-minus-src", factor.OneMinusSrc)
    ∷ (codes "src-alpha", factor.SrcAlpha) ∷ (codes "one-minus-src-alpha", factor.OneMinusSrcAlpha) ∷ (codes "dst", factor.Dst)
    ∷ (codes "one-minus-dst", factor.OneMinusDst) ∷ (codes "dst-alpha", factor.DstAlpha) ∷ (codes "one-minus-dst-alpha", factor.OneMinusDstAlpha)
    ∷ (codes "src-alpha-saturated", factor.SrcAlphaSaturated) ∷ (codes "constant", factor.Constant)
    ∷ (codes "one-minus-constant", factor.OneMinusConstant) ∷ []

-- the words of the comparisons of depth, and `none` where it is left out how depth is compared
abbrev pub depth_compare_words : List (List ℕ × Option Compare)
depth_compare_words =
    (codes "never", Some Never) ∷ (codes "less", Some Less) ∷ (codes "equal", Some Equal) ∷ (codes "less-equal", Some LessEqual)
    ∷ (codes "greater", Some Greater) ∷ (codes "not-equal", Some NotEqual) ∷ (codes "greater-equal", Some GreaterEqual)
    ∷ (codes "always", Some Always) ∷ (codes "none", None) ∷ []

-- the words of what becomes of a value of the stencil
abbrev pub stencil_operation_words : List (List ℕ × StencilOperation)
stencil_operation_words =
    (codes "keep", stencil.Keep) ∷ (codes "zero", stencil.Zero) ∷ (codes "replace", stencil.Replace) ∷ (codes "invert", stencil.Invert)
    ∷ (codes "increment-clamp", stencil.IncrementClamp) ∷ (codes "decrement-clamp", stencil.DecrementClamp)
    ∷ (codes "increment-wrap", stencil.IncrementWrap) ∷ (codes "decrement-wrap", stencil.DecrementWrap) ∷ []

-- the words of what vertices make
abbrev pub topology_words : List (List ℕ × Topology)
topology_words =
    (codes "point-list", topology.PointList) ∷ (codes "line-list", topology.LineList) ∷ (codes "line-strip", topology.LineStrip)
    ∷ (codes "triangle-list", topology.TriangleList) ∷ (codes "triangle-strip", topology.TriangleStrip) ∷ []

-- the words of which faces are fronts: no rule goes by these, and they stand for nothing
abbrev pub front_face_words : List (List ℕ × ⊤)
front_face_words = (codes "ccw", tt) ∷ (codes "cw", tt) ∷ []

-- the words of which faces are not drawn
abbrev pub cull_words : List (List ℕ × CullMode)
cull_words = (codes "none", cull.None) ∷ (codes "front", cull.Front) ∷ (codes "back", cull.Back) ∷ []
