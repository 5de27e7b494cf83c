use Rattle.wg_play.proofs.KeptLaw.{starts_genuine, turns_genuine, gathers_genuine}
use Rattle.wg_play.proofs.laws.genuine_handles.Goals as goal

pub returns-clause-begins : goal.returns-clause-begins
returns-clause-begins c = starts_genuine

pub returns-clause-turns : goal.returns-clause-turns
returns-clause-turns c = turns_genuine

pub returns-clause-gathers : goal.returns-clause-gathers
returns-clause-gathers c = gathers_genuine
