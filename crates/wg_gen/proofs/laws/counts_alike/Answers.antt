use Rattle.wg_gen.proofs.Alike.{counts_alike}
use Rattle.wg_gen.proofs.laws.counts_alike.Goals as goal

pub returns : goal.returns
returns c = counts_alike
