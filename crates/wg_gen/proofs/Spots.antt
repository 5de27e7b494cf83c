-- The spots that are drawn.
use Rattle.std.proofs.Common.{◌≡◌, ℕ, zero, suc, ◌+◌, ◌%◌, length, refl, ap, arith}
use Rattle.std.specs.Prelude.{All}
use Rattle.std.proofs.lemmas.Bool.{ne_eqb}
use Rattle.std.proofs.lemmas.List.Elements.{All-nil, All-cons}
use Rattle.wg_gen.specs.Generator.{next, drawn, spot_by, spot_at, spots}
use Rattle.wg_gen.proofs.Facts.{IsSpot}

spot_is : (first second third : ℕ) → IsSpot (spot_by first second third)
spot_is first second third = record {
  source = omega arith;
  target = omega arith;
  differ = ne_eqb (first % 8) ((first % 8 + 1 + second % 7) % 8) (λ same. absurd (omega (arith, same)));
  aligned = omega arith;
  fits = omega arith;
}

pub spots_are : (n state : ℕ) → All IsSpot (spots n state)
spots_are zero state = All-nil IsSpot
spots_are (suc n) state = All-cons IsSpot (spot_at state) (spots n (next (next (next state)))) (spot_is (drawn state) (drawn (next state)) (drawn (next (next state)))) (spots_are n (next (next (next state))))

pub spots_length : (n state : ℕ) → length (spots n state) ≡ n
spots_length zero state = refl
spots_length (suc n) state = ap suc (spots_length n (next (next (next state))))
