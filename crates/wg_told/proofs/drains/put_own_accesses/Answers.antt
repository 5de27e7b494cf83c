use Rattle.wg_told.specs.Items.{access_told}
use Rattle.wg_told.proofs.Drained.{put_step, put_end}
use Rattle.wg_told.proofs.drains.put_own_accesses.Goals as goal

pub loop-index-preserved : goal.loop-index-preserved
loop-index-preserved c =
    put_step access_told c.args.accesses.now c.loop-index.index _ c.loop-index.out c.args.out.now c.access_told.result
    c.loop-index-test.true c.requires c.access_told.ensures c.loop-index.invariant

pub returns : goal.returns
returns c = put_end access_told c.args.accesses.now c.loop-index.index c.loop-index.out c.args.out.now c.loop-index.auto.index-end c.loop-index-test.false c.loop-index.invariant
