use Rattle.std.proofs.Common.{◌≡◌, take}
use Rattle.wg_state.specs.Recordings.{uses_left}
use Rattle.wg_state.proofs.recordings.Recordings.uses_left.Given as goal

abbrev pub invariant-loop-buffer : goal.invariant-loop-buffer
invariant-loop-buffer l = l.uses.items ≡ uses_left l.self.kept (take l.buffer-index l.buffers)
