use Rattle.wg_small.proofs.objects_are_within_limits.Goals as goal
use Rattle.wg_small.proofs.Limited.{objects_are_within_limits}
use Rattle.wg_small.proofs.Mapped.{mappings_are_within_limits}

pub returns-clause-objects : goal.returns-clause-objects
returns-clause-objects _ setup history n info run valid known = objects_are_within_limits setup history n info run valid known

pub returns-clause-mappings : goal.returns-clause-mappings
returns-clause-mappings _ setup history n run = mappings_are_within_limits setup history n run
