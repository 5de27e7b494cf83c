use Rattle.wg_expiry.proofs.laws.faulty_events.Goals as goal
use Rattle.wg_expiry.proofs.Losing.{faulty_releases}

pub returns : goal.returns
returns _ setup history entry same faulty = faulty_releases setup history entry same faulty
