use Rattle.std.proofs.Common.{ap, ◌∙◌}
use Rattle.wg_told.specs.Items.{item_told}
use Rattle.wg_told.proofs.Drained.{put_step, put_end}
use Rattle.wg_told.proofs.drains.put_items.Goals as goal

pub loop-index-preserved : goal.loop-index-preserved
loop-index-preserved c =
    put_step item_told c.args.items.now c.loop-index.index c.index-items-index.result c.loop-index.out c.args.out.now c.item_told.result
    c.loop-index-test.true c.requires (c.item_told.ensures ∙ ap item_told c.index-items-index.is) c.loop-index.invariant

pub returns : goal.returns
returns c = put_end item_told c.args.items.now c.loop-index.index c.loop-index.out c.args.out.now c.loop-index.auto.index-end c.loop-index-test.false c.loop-index.invariant
