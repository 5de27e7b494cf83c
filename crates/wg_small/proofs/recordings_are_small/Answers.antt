use Rattle.wg_small.proofs.recordings_are_small.Goals as goal
use Rattle.wg_small.proofs.RangedHistory.{recordings_are_small}
use Rattle.wg_small.proofs.Texts.{steps_are_small, reads_back_by_counts, reads_back_by_length}

pub returns-clause-recordings : goal.returns-clause-recordings
returns-clause-recordings _ setup history run best fixed = recordings_are_small setup history run best fixed

pub returns-clause-steps : goal.returns-clause-steps
returns-clause-steps _ setup history run best fixed = steps_are_small setup history run best fixed

pub returns-clause-counts : goal.returns-clause-counts
returns-clause-counts _ setup history run best fixed few steps = reads_back_by_counts setup history run best fixed few steps

pub returns-clause-length : goal.returns-clause-length
returns-clause-length _ setup history run best fixed few = reads_back_by_length setup history run best fixed few
