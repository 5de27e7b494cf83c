use Rattle.wg_accepted.proofs.reports_are_accepted.Goals as goal
use Rattle.wg_accepted.proofs.Granted.{limits_are_granted}
use Rattle.wg_accepted.proofs.Accepting.{reports_are_accepted}

pub returns-clause-limits : goal.returns-clause-limits
returns-clause-limits _ bytes script e = limits_are_granted bytes script e

pub returns-clause-accepted : goal.returns-clause-accepted
returns-clause-accepted _ bytes script history e run few = reports_are_accepted bytes script history e run few
