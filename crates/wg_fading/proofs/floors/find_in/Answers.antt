use Rattle.std.proofs.Common.{◌/◌, ◌%◌, false, sym, ◌∙◌, arith}
use Rattle.wg_fading.specs.Places.{page_place, page_has}
use Rattle.wg_fading.proofs.Reading.{at_read, at_within}
use Rattle.wg_fading.proofs.floors.find_in.Goals as goal

pub index-requires : goal.index-requires
index-requires c = let within = at_within page_has c.args.floor.now.pages.items (c.args.slot / 128) (c.args.slot % 128) c.requires in omega (arith, within)

pub find-requires : goal.find-requires
find-requires c =
    let pages = c.args.floor.now.pages.items in
    let within = at_within page_has pages (c.args.slot / 128) (c.args.slot % 128) c.requires in
    sym (at_read false page_has pages (c.args.slot / 128) c.index.result.now (c.args.slot % 128) within c.index.ensures) ∙ c.requires

pub returns : goal.returns
returns c =
    let pages = c.args.floor.now.pages.items in
    let within = at_within page_has pages (c.args.slot / 128) (c.args.slot % 128) c.requires in
    c.find.ensures ∙ sym (at_read 4294967295 page_place pages (c.args.slot / 128) c.index.result.now (c.args.slot % 128) within c.index.ensures)
