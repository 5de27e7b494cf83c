use Rattle.wg_expiry.proofs.laws.lost_devices.Goals as goal
use Rattle.wg_expiry.proofs.Losing.{lost_replies, lost_writes_back}

pub returns : goal.returns
returns _ = record { replies = lost_replies; trace = lost_writes_back }
