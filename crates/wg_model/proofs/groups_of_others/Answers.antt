use Rattle.wg_model.proofs.Owned.{others_are_refused, others_do_not_run}
use Rattle.wg_model.proofs.groups_of_others.Goals as goal

pub returns-clause-refused : goal.returns-clause-refused
returns-clause-refused c = others_are_refused

pub returns-clause-never : goal.returns-clause-never
returns-clause-never c = others_do_not_run
