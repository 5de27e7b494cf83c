use Rattle.std.proofs.Common.{◌/◌, ◌%◌, sym, ◌∙◌, arith}
use Rattle.wg_fading.specs.Places.{page_place}
use Rattle.wg_fading.proofs.Reading.{at_read, at_past}
use Rattle.wg_fading.proofs.floors.look_in.Goals as goal

pub returns-then-page-len : goal.returns-then-page-len
returns-then-page-len c = sym (at_past 4294967295 page_place c.args.floor.now.pages.items (c.args.slot / 128) (c.args.slot % 128) (omega arith))

pub returns : goal.returns
returns c = c.look.ensures ∙ sym (at_read 4294967295 page_place c.args.floor.now.pages.items (c.args.slot / 128) c.index.result.now (c.args.slot % 128) (omega arith) c.index.ensures)
