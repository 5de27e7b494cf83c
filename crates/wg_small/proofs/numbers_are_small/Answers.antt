use Rattle.wg_small.proofs.numbers_are_small.Goals as goal
use Rattle.wg_small.proofs.History.{numbers_are_within}
use Rattle.wg_small.proofs.Reading.{ranges_of_steps, reads_back_by_ranges}

pub returns-clause-within : goal.returns-clause-within
returns-clause-within _ setup history run = numbers_are_within setup history run

pub returns-clause-ranges : goal.returns-clause-ranges
returns-clause-ranges _ setup history small = ranges_of_steps setup history small

pub returns-clause-read : goal.returns-clause-read
returns-clause-read _ setup history run few small steps = reads_back_by_ranges setup history run few small steps
