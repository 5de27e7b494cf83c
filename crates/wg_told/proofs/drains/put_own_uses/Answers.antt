use Rattle.wg_told.specs.Items.{use_told}
use Rattle.wg_told.proofs.Drained.{put_step, put_end}
use Rattle.wg_told.proofs.drains.put_own_uses.Goals as goal

pub loop-index-preserved : goal.loop-index-preserved
loop-index-preserved c =
    put_step use_told c.args.uses.now c.loop-index.index _ c.loop-index.out c.args.out.now c.use_told.result
    c.loop-index-test.true c.requires c.use_told.ensures c.loop-index.invariant

pub returns : goal.returns
returns c = put_end use_told c.args.uses.now c.loop-index.index c.loop-index.out c.args.out.now c.loop-index.auto.index-end c.loop-index-test.false c.loop-index.invariant
