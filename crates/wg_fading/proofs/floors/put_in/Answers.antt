use Rattle.std.proofs.Common.{◌/◌, ◌%◌, false, sym, ◌∙◌, arith}
use Rattle.wg_fading.specs.Places.{page_place, page_has}
use Rattle.wg_fading.proofs.Reading.{at_read, at_set, at_same, at_within}
use Rattle.wg_fading.proofs.floors.put_in.Goals as goal

pub index_mut-requires : goal.index_mut-requires
index_mut-requires c = let within = at_within page_has c.args.floor.now.pages.items (c.args.slot / 128) (c.args.slot % 128) c.requires in omega (arith, within)

pub put-requires : goal.put-requires
put-requires c =
    let pages = c.args.floor.now.pages.items in
    let within = at_within page_has pages (c.args.slot / 128) (c.args.slot % 128) c.requires in
    sym (at_read false page_has pages (c.args.slot / 128) c.index_mut.result.now (c.args.slot % 128) within c.index_mut.ensures.value) ∙ c.requires

pub returns-clause-put : goal.returns-clause-put
returns-clause-put c =
    let pages = c.args.floor.now.pages.items in
    let within = at_within page_has pages (c.args.slot / 128) (c.args.slot % 128) c.requires in
    at_set 4294967295 page_place pages (c.args.slot / 128) c.put.new.page (c.args.slot % 128) within ∙ c.put.ensures.put

pub returns-clause-others : goal.returns-clause-others
returns-clause-others c = λ j other.
    let pages = c.args.floor.now.pages.items in
    let within = at_within page_has pages (c.args.slot / 128) (c.args.slot % 128) c.requires in
    at_same 4294967295 page_place pages (c.args.slot / 128) (j / 128) c.index_mut.result.now c.put.new.page (j % 128) within c.index_mut.ensures.value (λ here. c.put.ensures.others (j % 128) (λ e. other (omega (arith, here, e))))

pub returns-clause-has : goal.returns-clause-has
returns-clause-has c = λ j.
    let pages = c.args.floor.now.pages.items in
    let within = at_within page_has pages (c.args.slot / 128) (c.args.slot % 128) c.requires in
    at_same false page_has pages (c.args.slot / 128) (j / 128) c.index_mut.result.now c.put.new.page (j % 128) within c.index_mut.ensures.value (λ here. c.put.ensures.has (j % 128))
