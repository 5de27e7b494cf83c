-- A pass whose number is below the count of those that were begun was begun.
use Rattle.std.proofs.Common.{◌≡◌, ℕ, true, false, not, arith}
use Rattle.std.proofs.lemmas.Bool.Decides.{nat_tests}
use Rattle.wg_types.specs.declared.commands.On.{On}
use Rattle.wg_types.specs.declared.commands.On.TheVariants.{Encoder, Pass}
use Rattle.wg_encoder.specs.Recorders.{IsBegunOn}
use Rattle.wg_calls.specs.Encoders.{is_begun}

pub begun_on : (on : On) (passes : ℕ) → is_begun on passes ≡ true → IsBegunOn on passes
begun_on Encoder passes e = tt
begun_on (Pass number) passes e = grind (arith, nat_tests, e)

pub not_beyond : (on : On) (passes : ℕ) → not (is_begun on passes) ≡ false → IsBegunOn on passes
not_beyond Encoder passes e = tt
not_beyond (Pass number) passes e = grind (arith, nat_tests, e)
