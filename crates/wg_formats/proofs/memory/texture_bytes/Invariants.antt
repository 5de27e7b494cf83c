use Rattle.std.proofs.Common.{◌≡◌}
use Rattle.wg_model.specs.Memory.{levels_bytes}
use Rattle.wg_formats.proofs.memory.texture_bytes.Given as goal

abbrev pub invariant-loop-mip : goal.invariant-loop-mip
invariant-loop-mip l = l.bytes ≡ levels_bytes l.info l.mip
