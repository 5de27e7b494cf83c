use Rattle.std.proofs.Common.{◌≡◌, drop}
use Rattle.wg_groups.specs.Tests.{aligned_from}
use Rattle.wg_groups.proofs.check.are_aligned.Given as goal

abbrev pub invariant-loop-asked : goal.invariant-loop-asked
invariant-loop-asked l = aligned_from l.least (drop l.asked-index l.layout) l.rest ≡ aligned_from 0 l.layout l.entries
