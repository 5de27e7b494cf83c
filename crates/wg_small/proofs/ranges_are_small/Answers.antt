use Rattle.wg_small.proofs.ranges_are_small.Goals as goal
use Rattle.wg_small.proofs.Stepped.{ranges_of_recordings, reads_back_by_recordings}

pub returns-clause-steps : goal.returns-clause-steps
returns-clause-steps _ setup history run best small = ranges_of_recordings setup history run best small

pub returns-clause-read : goal.returns-clause-read
returns-clause-read _ setup history run best few small steps = reads_back_by_recordings setup history run best few small steps
