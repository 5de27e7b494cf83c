use Rattle.wg_shaped.proofs.traces_are_shaped.Goals as goal
use Rattle.wg_shaped.proofs.History.{steps_are_filled, history_is_shaped, history_reads_back}

pub returns-clause-filled : goal.returns-clause-filled
returns-clause-filled _ setup history = steps_are_filled setup history

pub returns-clause-shaped : goal.returns-clause-shaped
returns-clause-shaped _ setup history run = history_is_shaped setup history run

pub returns-clause-read : goal.returns-clause-read
returns-clause-read _ setup history run small steps = history_reads_back setup history run small steps
