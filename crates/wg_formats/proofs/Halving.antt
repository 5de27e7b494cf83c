-- Extents that are halved more often than they have bits.
use Rattle.std.proofs.Common.{◌≡◌, ℕ, ◌/◌, ◌^◌, ◌<◌, ◌≤◌, max, refl, arith}
use Rattle.std.proofs.Math.Nat.{div-eq_of_lt}
use Rattle.std.proofs.Math.Pow.{pow_mono}

pub far_halved : (mip x : ℕ) → 32 ≤ mip → x < 2 ^ 32 → 1 ≡ max 1 (x / 2 ^ mip)
far_halved mip x far small =
    let power : 2 ^ 32 ≤ 2 ^ mip = pow_mono far in
    let nothing : x / 2 ^ mip ≡ 0 = div-eq_of_lt (omega arith) in
    rw nothing refl
