use Rattle.std.proofs.Common.{◌≡◌, ◌≤◌, ◌/◌, ◌%◌, false, arith}
use Rattle.wg_fading.specs.Places.{page_place, page_has}
use Rattle.wg_fading.proofs.Reading.{at_same, at_within}
use Rattle.wg_fading.proofs.floors.lose_in.Goals as goal

pub index_mut-requires : goal.index_mut-requires
index_mut-requires c = let within = at_within page_has c.args.floor.now.pages.items (c.args.slot / 128) (c.args.slot % 128) c.requires in omega (arith, within)

pub returns-clause-each : goal.returns-clause-each
returns-clause-each c = λ j.
    let pages = c.args.floor.now.pages.items in
    let within = at_within page_has pages (c.args.slot / 128) (c.args.slot % 128) c.requires in
    at_same 4294967295 page_place pages (c.args.slot / 128) (j / 128) c.index_mut.result.now c.lose.new.page (j % 128) within c.index_mut.ensures.value (λ here. c.lose.ensures.each (j % 128))

pub returns-clause-has : goal.returns-clause-has
returns-clause-has c = λ j stays.
    let past : j / 128 ≡ c.args.slot / 128 → c.args.next / 128 ≤ c.args.slot / 128 = λ here. omega (arith, here, stays) in
    let pages = c.args.floor.now.pages.items in
    let within = at_within page_has pages (c.args.slot / 128) (c.args.slot % 128) c.requires in
    at_same false page_has pages (c.args.slot / 128) (j / 128) c.index_mut.result.now c.lose.new.page (j % 128) within c.index_mut.ensures.value (λ here. c.lose.ensures.has (c.is_page_past-is_past.ensures (past here)) (j % 128))
