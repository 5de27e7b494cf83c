use Rattle.wg_play.proofs.FoundLaw.{bound_is_found, gathered_is_held}
use Rattle.wg_play.proofs.laws.bound_calls.Goals as goal

pub returns-clause-found : goal.returns-clause-found
returns-clause-found c = bound_is_found

pub returns-clause-gathered : goal.returns-clause-gathered
returns-clause-gathered c = gathered_is_held
