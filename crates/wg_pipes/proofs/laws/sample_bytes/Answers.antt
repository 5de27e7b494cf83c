use Rattle.wg_pipes.proofs.SampleBytes.{bytes_added, bytes_grow, bytes_cost, eight_fit}
use Rattle.wg_pipes.proofs.laws.sample_bytes.Goals as goal

pub returns-clause-added : goal.returns-clause-added
returns-clause-added _ = bytes_added

pub returns-clause-grow : goal.returns-clause-grow
returns-clause-grow _ formats more = bytes_grow formats more

pub returns-clause-costs : goal.returns-clause-costs
returns-clause-costs _ formats = bytes_cost formats

pub returns-clause-fit : goal.returns-clause-fit
returns-clause-fit _ formats = eight_fit formats
