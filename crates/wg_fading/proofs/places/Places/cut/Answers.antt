use Rattle.std.proofs.Common.{arith}
use Rattle.std.specs.Prelude.{None}
use Rattle.wg_fading.proofs.Spots.{spot_less, slot_less}
use Rattle.wg_fading.proofs.places.Places.cut.Goals as goal

pub returns-then-is_free-clause-each : goal.returns-then-is_free-clause-each
returns-then-is_free-clause-each c = λ m. rw c.pop_front.ensures.rest (spot_less c.args.self.now.first c.args.self.now.floors.items m (c.is_free.ensures.some c.if-is_free.true) (c.is_free.ensures.none c.if-is_free.true None))

pub returns-then-is_free-clause-slots : goal.returns-then-is_free-clause-slots
returns-then-is_free-clause-slots c = λ n stays has. record {
  past = omega (arith, stays);
  slot = rw c.pop_front.ensures.rest (slot_less c.args.self.now.first c.args.self.now.floors.items n (omega (arith, stays)) has.slot);
}
