use Rattle.wg_calls.proofs.Judged.{opens_for_device, judges_by_device}
use Rattle.wg_calls.proofs.laws.judged_by_device.Goals as goal

pub returns-clause-opened : goal.returns-clause-opened
returns-clause-opened c = opens_for_device

pub returns-clause-judged : goal.returns-clause-judged
returns-clause-judged c = judges_by_device
