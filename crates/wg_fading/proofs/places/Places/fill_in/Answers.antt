use Rattle.std.proofs.Common.{◌≡◌, ◌-◌, ◌/◌, ◌%◌, false, ◌∙◌, arith}
use Rattle.wg_fading.specs.Places.{floor_has}
use Rattle.wg_fading.proofs.Reading.{at_set, at_keeps}
use Rattle.wg_fading.proofs.Spots.{spot_same}
use Rattle.wg_fading.proofs.places.Places.fill_in.Goals as goal

pub returns-clause-each : goal.returns-clause-each
returns-clause-each c = λ m.
    let p = c.args.self.now in
    spot_same p.first p.floors.items c.args.floor m c.index_mut.result.now c.fill.new.floor c.requires.inside c.index_mut.ensures.value c.fill.ensures.each

pub returns-in_err-fill-clause-each : goal.returns-in_err-fill-clause-each
returns-in_err-fill-clause-each c = λ m.
    let p = c.args.self.now in
    spot_same p.first p.floors.items c.args.floor m c.index_mut.result.now c.fill.new.floor c.requires.inside c.index_mut.ensures.value c.fill.ensures.each

pub returns-clause-kept : goal.returns-clause-kept
returns-clause-kept c = λ n had.
    let p = c.args.self.now in
    record {
      past = had.past;
      slot = at_keeps floor_has p.floors.items c.args.floor (n / 4096 - p.first) c.index_mut.result.now c.fill.new.floor (n % 4096) c.requires.inside c.index_mut.ensures.value (λ here. c.fill.ensures.kept (n % 4096)) had.slot;
    }

pub returns-in_err-fill-clause-kept : goal.returns-in_err-fill-clause-kept
returns-in_err-fill-clause-kept c = λ n had.
    let p = c.args.self.now in
    record {
      past = had.past;
      slot = at_keeps floor_has p.floors.items c.args.floor (n / 4096 - p.first) c.index_mut.result.now c.fill.new.floor (n % 4096) c.requires.inside c.index_mut.ensures.value (λ here. c.fill.ensures.kept (n % 4096)) had.slot;
    }

pub returns-clause-slots : goal.returns-clause-slots
returns-clause-slots c = λ n here.
    let p = c.args.self.now in
    let past = c.requires.past in
    let floor_is : n / 4096 - p.first ≡ c.args.floor = omega (arith, here, c.requires.is) in
    record {
      past = omega (arith, here, past);
      slot = rw floor_is (at_set false floor_has p.floors.items c.args.floor c.fill.new.floor (n % 4096) c.requires.inside ∙ c.in_ok-fill.ensures.whole (n % 4096) (omega (arith, here)));
    }
