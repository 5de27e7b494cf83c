use Rattle.std.proofs.Common.{◌/◌, ◌%◌, false, refl, ◌∙◌}
use Rattle.std.specs.Prelude.{None}
use Rattle.wg_fading.specs.Places.{page_place, page_has}
use Rattle.wg_fading.proofs.Reading.{at_more}
use Rattle.wg_fading.proofs.floors.reach.Goals as goal

pub loop-floor-preserved : goal.loop-floor-preserved
loop-floor-preserved c = record {
  each = λ j. rw (c.push_reserved.ensures.items, c.reserve.ensures.items) (at_more 4294967295 page_place c.loop-floor.floor.pages.items (j / 128) None (j % 128) refl ∙ c.loop-floor.invariant.each j);
  has = λ j. rw (c.push_reserved.ensures.items, c.reserve.ensures.items) (at_more false page_has c.loop-floor.floor.pages.items (j / 128) None (j % 128) refl ∙ c.loop-floor.invariant.has j);
}
