use Rattle.std.proofs.Common.{◌-◌, ◌/◌, ◌%◌, false, refl, ◌∙◌}
use Rattle.std.specs.Prelude.{None}
use Rattle.wg_fading.specs.Places.{floor_has}
use Rattle.wg_fading.proofs.Reading.{at_more}
use Rattle.wg_fading.proofs.Spots.{spot_more}
use Rattle.wg_fading.proofs.places.Places.add_floor.Goals as goal

pub returns-clause-each : goal.returns-clause-each
returns-clause-each c = λ m. rw (c.push_back_reserved.ensures.items, c.reserve.ensures.items) (spot_more c.args.self.now.first c.args.self.now.floors.items m)

pub returns-clause-kept : goal.returns-clause-kept
returns-clause-kept c = λ n had. record {
  past = had.past;
  slot = rw (c.push_back_reserved.ensures.items, c.reserve.ensures.items) (at_more false floor_has c.args.self.now.floors.items (n / 4096 - c.args.self.now.first) None (n % 4096) refl ∙ had.slot);
}
