use Rattle.std.proofs.Common.{take, reverse}
use Rattle.wg_core.proofs.Planning.{AreSubmitted}
use Rattle.wg_core.proofs.plan.add_submit.Given as goal

abbrev pub invariant-loop-buffer : goal.invariant-loop-buffer
invariant-loop-buffer l = AreSubmitted l.tracker (reverse l.state.history) l.op (take l.buffer-index l.buffers) l.plan
