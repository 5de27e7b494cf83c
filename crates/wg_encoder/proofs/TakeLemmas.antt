-- The count of takes of a recorder.
use Rattle.std.proofs.Common.{◌≡◌, ℕ, ◌+◌, nat_lt, Bool, true, false, refl, arith, if◌then◌else◌}
use Rattle.std.proofs.lemmas.Bool.Decides.{nat_tests}
use Rattle.wg_encoder.specs.Recorders.{most_takes, after_take}

-- A take is counted, up to the greatest number.
pub counted : (takes : ℕ) → nat_lt 0 (after_take takes) ≡ true
counted takes = by_room (nat_lt takes most_takes) refl
  where
    by_room : (b : Bool) → nat_lt takes most_takes ≡ b → nat_lt 0 (if b then takes + 1 else takes) ≡ true
    by_room true e = grind (arith, nat_tests)
    by_room false e = grind (arith, nat_tests, e)
