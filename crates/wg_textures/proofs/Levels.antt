-- More levels than an extent has bits.
use Rattle.std.proofs.Common.{◌≡◌, ℕ, ◌-◌, ◌^◌, ◌<◌, ◌≤◌, Bool, false, nat_le, refl, arith}
use Rattle.std.proofs.lemmas.Bool.{lt-leb}
use Rattle.std.proofs.Math.Pow.{pow_mono}

pub too_many : (mips extent : ℕ) → 32 < mips → extent < 2 ^ 32 → false ≡ nat_le (2 ^ (mips - 1)) extent
too_many mips extent many small =
    let past : 32 ≤ mips - 1 = omega arith in
    let power : 2 ^ 32 ≤ 2 ^ (mips - 1) = pow_mono past in
    let none : nat_le (2 ^ (mips - 1)) extent ≡ false = lt-leb (2 ^ (mips - 1)) extent (omega arith) in
    rw none refl
