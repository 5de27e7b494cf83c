use Rattle.wg_accepted.proofs.traces_agree.Goals as goal
use Rattle.wg_accepted.proofs.Agreeing.{seen_as_printed, none_differs, verdict_is_none}

pub returns-clause-seen : goal.returns-clause-seen
returns-clause-seen _ setup history c order is keeps = seen_as_printed setup history c order is keeps

pub returns-clause-differs : goal.returns-clause-differs
returns-clause-differs _ setup history reader c writer d = none_differs setup history reader c writer d

pub returns-clause-verdict : goal.returns-clause-verdict
returns-clause-verdict _ setup history found v = verdict_is_none setup history found v
