-- When a render pipeline can change the stencil (WebGPU, "GPUStencilOperation", "Depth/Stencil State" and "GPUCullMode").
use Rattle.std.specs.Prelude.{◌≡◌, ◌≢◌, ◌↔◌, ◌⊎◌, ℕ, ◌+◌, ◌-◌, ◌%◌, ◌^◌, ◌<◌, ◌==◌, min, true, Option, Some, None, if◌then◌else◌}
use Rattle.std.specs.Int.{bit_at}
use Rattle.wg_model.specs.FixedFunction.{writes_stencil}
use Rattle.wg_types.specs.declared.fixed.StencilOperation.{StencilOperation}
use Rattle.wg_types.specs.declared.fixed.StencilOperation.TheVariants.{Keep, Zero, Replace, Invert, IncrementClamp, DecrementClamp, IncrementWrap, DecrementWrap}
use Rattle.wg_types.specs.declared.fixed.StencilFace.{StencilFace}
use Rattle.wg_types.specs.declared.fixed.StencilState.TheVariants.{Faces}
use Rattle.wg_types.specs.declared.fixed.CullMode.{CullMode}
use Rattle.wg_types.specs.declared.fixed.CullMode.TheVariants as cull

-- A value of the stencil, a reference and a mask are numbers of 32 bits (WebGPU, "GPUStencilValue"), of which the texture that is
-- drawn to may keep fewer.

-- the greatest value of the stencil, and of a reference
abbrev pub greatest : ℕ
greatest = 2 ^ 32 - 1

-- what an operation makes of a value of the stencil
abbrev pub operated : StencilOperation → ℕ → ℕ → ℕ
operated Keep reference value = value
operated Zero reference value = 0
operated Replace reference value = reference
operated Invert reference value = greatest - value
operated IncrementClamp reference value = min (value + 1) greatest
operated DecrementClamp reference value = value - 1
operated IncrementWrap reference value = (value + 1) % 2 ^ 32
operated DecrementWrap reference value = (value + greatest) % 2 ^ 32

-- a bit of what is written: that of the result where the mask has that bit, and else that of the value that was there
abbrev pub written_bit : ℕ → ℕ → ℕ → ℕ → ℕ
written_bit write_mask result value bit = if bit_at write_mask bit == 1 then bit_at result bit else bit_at value bit

-- An operation changes some value, with some reference, in some bit.
pub record CanChangeBy (operation : StencilOperation) (write_mask : ℕ) : Type 0 where
  pub reference : ℕ
  pub value : ℕ
  pub bit : ℕ
  pub reference_fits : reference < 2 ^ 32
  pub value_fits : value < 2 ^ 32
  pub bit_fits : bit < 32
  pub differs : written_bit write_mask (operated operation reference value) value bit ≢ bit_at value bit

-- An operation is one of the three of a face.
abbrev pub IsOf : StencilOperation → StencilFace → Type 0
IsOf operation face = (operation ≡ face.fail_op) ⊎ ((operation ≡ face.depth_fail_op) ⊎ (operation ≡ face.pass_op))

-- the two sorts of faces
pub data Sort : Type 0 where
  fronts : Sort
  backs : Sort

-- what is done with the stencil where faces of a sort are drawn
abbrev pub face_of : StencilFace → StencilFace → Sort → StencilFace
face_of front back fronts = front
face_of front back backs = back

-- the sort of faces that is not drawn, if there is one
abbrev pub culled_sort : CullMode → Option Sort
culled_sort cull.None = None
culled_sort cull.Front = Some fronts
culled_sort cull.Back = Some backs

-- Some operation of a sort of faces that is drawn changes some value of the stencil. Whether the comparisons of stencil and depth
-- ever come to that operation does not matter.
pub record CanChange (culled : CullMode) (front back : StencilFace) (write_mask : ℕ) : Type 0 where
  pub sort : Sort
  pub operation : StencilOperation
  pub drawn : culled_sort culled ≢ Some sort
  pub of_face : IsOf operation (face_of front back sort)
  pub changes : CanChangeBy operation write_mask

-- A pipeline that tells its faces counts as one that writes stencil exactly where it can change some value of it.
abbrev pub StencilCanChange : Type 0
StencilCanChange = (culled : CullMode) (front back : StencilFace) (write_mask : ℕ) → write_mask < 2 ^ 32 → (writes_stencil culled (Faces front back write_mask) ≡ true) ↔ CanChange culled front back write_mask
