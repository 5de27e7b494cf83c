use Rattle.wg_calls.proofs.Owners.{groups_tell_owners}
use Rattle.wg_calls.proofs.laws.groups_tell_owners.Goals as goal

pub returns : goal.returns
returns c = groups_tell_owners
