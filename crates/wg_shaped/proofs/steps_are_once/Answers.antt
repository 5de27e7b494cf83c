use Rattle.wg_shaped.proofs.steps_are_once.Goals as goal
use Rattle.wg_shaped.proofs.Recorded.{recorded_are_once}
use Rattle.wg_shaped.proofs.Running.{history_is_once}

pub returns-clause-recorded : goal.returns-clause-recorded
returns-clause-recorded _ place device targets commands fair clear = recorded_are_once place device targets commands fair clear

pub returns-clause-history : goal.returns-clause-history
returns-clause-history _ setup history run = history_is_once setup history run
