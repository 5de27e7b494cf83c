use Rattle.std.proofs.Common.{arith}
use Rattle.wg_vertex.proofs.Joined.{apart_at}
use Rattle.wg_vertex.proofs.locations.are_apart.Goals as goal

pub returns-then-not-are_apart_from : goal.returns-then-not-are_apart_from
returns-then-not-are_apart_from c = grind (arith, apart_at c.loop-i.i c.args.buffers.now c.index-buffers-i.result c.index-buffers-i.is c.loop-i-test.true)

pub loop-i-preserved : goal.loop-i-preserved
loop-i-preserved c = grind (arith, apart_at c.loop-i.i c.args.buffers.now c.index-buffers-i.result c.index-buffers-i.is c.loop-i-test.true)
