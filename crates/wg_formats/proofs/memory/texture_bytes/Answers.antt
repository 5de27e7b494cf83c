use Rattle.std.proofs.Common.{arith}
use Rattle.wg_model.specs.Memory.{texture_bytes}
use Rattle.wg_formats.proofs.Levels.{level_within}
use Rattle.wg_formats.proofs.memory.texture_bytes.Goals as goal

pub returns-in_err-level-clause-none : goal.returns-in_err-level-clause-none
unfolding texture_bytes
returns-in_err-level-clause-none c =
    rw c.from_residual.ensures (omega (arith, c.in_err-level.ensures.none, level_within c.args.info.now c.loop-mip.mip c.args.info.now.mips c.loop-mip-test.true))

pub returns-in_err-bytes-clause-none : goal.returns-in_err-bytes-clause-none
unfolding texture_bytes
returns-in_err-bytes-clause-none c =
    rw c.from_residual-in_err-bytes.ensures (omega (arith, c.loop-mip.invariant, c.in_err-bytes.ensures, c.in_ok-level.ensures.some, level_within c.args.info.now c.loop-mip.mip c.args.info.now.mips c.loop-mip-test.true))
