use Rattle.std.proofs.Common.{◌-◌, ◌/◌, ◌%◌, sym, ◌∙◌, arith}
use Rattle.wg_fading.specs.Places.{floor_place}
use Rattle.wg_fading.proofs.Reading.{at_read, at_past}
use Rattle.wg_fading.proofs.Spots.{spot_in, spot_cut}
use Rattle.wg_fading.proofs.places.Places.look.Goals as goal

pub returns-then-floor-self : goal.returns-then-floor-self
returns-then-floor-self c = let p = c.args.self.now in sym (spot_cut p.first p.floors.items c.args.number (omega arith))

pub returns-then-floor-len : goal.returns-then-floor-len
returns-then-floor-len c =
    let p = c.args.self.now in
    sym (spot_in p.first p.floors.items c.args.number (omega arith) ∙ at_past 4294967295 floor_place p.floors.items (c.args.number / 4096 - p.first) (c.args.number % 4096) (omega arith))

pub returns : goal.returns
returns c =
    let p = c.args.self.now in
    c.look.ensures ∙ (sym (at_read 4294967295 floor_place p.floors.items (c.args.number / 4096 - p.first) c.index.result.now (c.args.number % 4096) (omega arith) c.index.ensures) ∙ sym (spot_in p.first p.floors.items c.args.number (omega arith)))
