use Rattle.std.proofs.Common.{take}
use Rattle.wg_core.proofs.Planning.{AreRead}
use Rattle.wg_core.proofs.plan.add_reads.Given as goal

abbrev pub invariant-loop-wait : goal.invariant-loop-wait
invariant-loop-wait l = AreRead l.tracker l.place (take l.wait-index l.maps) l.plan
