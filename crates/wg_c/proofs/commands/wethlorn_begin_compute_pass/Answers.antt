use Rattle.std.proofs.Common.{Some, refl}
use Rattle.wg_types.specs.declared.commands.CommandOf.TheVariants as command
use Rattle.wg_c.proofs.commands.wethlorn_begin_compute_pass.Goals as goal

pub returns : goal.returns
returns c = c.begin.ensures (Some command.BeginComputePass) refl
