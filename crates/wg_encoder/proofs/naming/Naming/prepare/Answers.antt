use Rattle.std.proofs.Common.{refl}
use Rattle.wg_encoder.proofs.OnceLemmas.{kept_once}
use Rattle.wg_encoder.proofs.naming.Naming.prepare.Goals as goal

pub returns-in_err-reserve-clause-same : goal.returns-in_err-reserve-clause-same
returns-in_err-reserve-clause-same c = kept_once c.args.self.now _ c.reserve.ensures.same (λ _. refl)

pub returns-clause-same : goal.returns-clause-same
returns-clause-same c = kept_once c.args.self.now _ c.reserve.ensures.same c.reserve-2.ensures.same
