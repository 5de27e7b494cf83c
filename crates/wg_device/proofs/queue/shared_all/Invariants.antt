use Rattle.std.proofs.Common.{◌≡◌, take}
use Rattle.wg_device.proofs.queue.shared_all.Given as goal

abbrev pub invariant-loop-handle : goal.invariant-loop-handle
invariant-loop-handle l = l.shared ≡ take l.handle-index l.handles
