use Rattle.std.proofs.Common.{◌-◌, ◌/◌, ◌%◌, false, sym, ◌∙◌, arith}
use Rattle.wg_fading.specs.Places.{floor_place, floor_has}
use Rattle.wg_fading.proofs.Reading.{at_read}
use Rattle.wg_fading.proofs.Spots.{spot_in, slot_within}
use Rattle.wg_fading.proofs.places.Places.find.Goals as goal

pub index-requires : goal.index-requires
index-requires c = let within = slot_within c.args.self.now c.args.number c.requires in omega (arith, within)

pub find-requires : goal.find-requires
find-requires c =
    let p = c.args.self.now in
    sym (at_read false floor_has p.floors.items (c.args.number / 4096 - p.first) c.index.result.now (c.args.number % 4096) (slot_within p c.args.number c.requires) c.index.ensures) ∙ c.requires.slot

pub returns : goal.returns
returns c =
    let p = c.args.self.now in
    c.find.ensures ∙ (sym (at_read 4294967295 floor_place p.floors.items (c.args.number / 4096 - p.first) c.index.result.now (c.args.number % 4096) (slot_within p c.args.number c.requires) c.index.ensures) ∙ sym (spot_in p.first p.floors.items c.args.number c.requires.past))
