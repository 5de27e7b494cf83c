-- The bytes of mip levels: what the products of their factors fit, and that a level is within the whole.
use Rattle.std.proofs.Common.{◌≡◌, ℕ, zero, suc, ◌+◌, ◌-◌, ◌*◌, ◌^◌, ◌<◌, ◌≤◌, ◌⊎◌, inl, inr, arith, eq-or-lt_of_le}
use Rattle.std.proofs.lemmas.Nat.{mul-le}
use Rattle.wg_types.specs.declared.textures.TextureInfo.{TextureInfo}
use Rattle.wg_model.specs.Memory.{level_bytes, levels_bytes}

-- four factors of 32 bits fit 128
pub four_words : (a b c d : ℕ) → a < 2 ^ 32 → b < 2 ^ 32 → c < 2 ^ 32 → d < 2 ^ 32 → a * b * c * d < 2 ^ 128
four_words a b c d fits_a fits_b fits_c fits_d =
    let two : a * b ≤ (2 ^ 32 - 1) * (2 ^ 32 - 1) = mul-le a b (2 ^ 32 - 1) (2 ^ 32 - 1) (omega arith) (omega arith) in
    let three : a * b * c ≤ (2 ^ 32 - 1) * (2 ^ 32 - 1) * (2 ^ 32 - 1) = mul-le (a * b) c ((2 ^ 32 - 1) * (2 ^ 32 - 1)) (2 ^ 32 - 1) two (omega arith) in
    let four : a * b * c * d ≤ (2 ^ 32 - 1) * (2 ^ 32 - 1) * (2 ^ 32 - 1) * (2 ^ 32 - 1) = mul-le (a * b * c) d ((2 ^ 32 - 1) * (2 ^ 32 - 1) * (2 ^ 32 - 1)) (2 ^ 32 - 1) three (omega arith) in
    omega arith

-- a level, and those before it, are within the whole
pub level_within : (info : TextureInfo) (mip mips : ℕ) → mip < mips → levels_bytes info mip + level_bytes info mip ≤ levels_bytes info mips
level_within info mip zero before = absurd (omega arith)
level_within info mip (suc mips) before =
    let place : (mip ≡ mips) ⊎ (mip < mips) = eq-or-lt_of_le (omega arith) in
    elim place [
      | inl same ↦ rw same (omega arith)
      | inr less ↦ let rest : levels_bytes info mip + level_bytes info mip ≤ levels_bytes info mips = level_within info mip mips less in omega arith
    ]
