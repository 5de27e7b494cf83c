use Rattle.std.proofs.Common.{◌/◌, ◌%◌, false, ◌∙◌, arith}
use Rattle.wg_fading.specs.Places.{page_place, page_has}
use Rattle.wg_fading.proofs.Reading.{at_set, at_same, at_keeps}
use Rattle.wg_fading.proofs.floors.fill_in.Goals as goal

pub returns-clause-each : goal.returns-clause-each
returns-clause-each c = λ j. at_same 4294967295 page_place c.args.floor.now.pages.items c.args.page (j / 128) c.index_mut.result.now c.fill.new.page (j % 128) c.requires c.index_mut.ensures.value (λ here. c.fill.ensures.each (j % 128))

pub returns-in_err-fill-clause-each : goal.returns-in_err-fill-clause-each
returns-in_err-fill-clause-each c = λ j. at_same 4294967295 page_place c.args.floor.now.pages.items c.args.page (j / 128) c.index_mut.result.now c.fill.new.page (j % 128) c.requires c.index_mut.ensures.value (λ here. c.fill.ensures.each (j % 128))

pub returns-clause-kept : goal.returns-clause-kept
returns-clause-kept c = λ j had. at_keeps page_has c.args.floor.now.pages.items c.args.page (j / 128) c.index_mut.result.now c.fill.new.page (j % 128) c.requires c.index_mut.ensures.value (λ here. c.fill.ensures.kept (j % 128)) had

pub returns-in_err-fill-clause-kept : goal.returns-in_err-fill-clause-kept
returns-in_err-fill-clause-kept c = λ j had. at_keeps page_has c.args.floor.now.pages.items c.args.page (j / 128) c.index_mut.result.now c.fill.new.page (j % 128) c.requires c.index_mut.ensures.value (λ here. c.fill.ensures.kept (j % 128)) had

pub returns-clause-whole : goal.returns-clause-whole
returns-clause-whole c = λ j here.
    let pages = c.args.floor.now.pages.items in
    rw here (at_set false page_has pages c.args.page c.fill.new.page (j % 128) c.requires ∙ c.in_ok-fill.ensures.whole (j % 128) (omega arith))
