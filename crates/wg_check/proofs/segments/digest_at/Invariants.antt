use Rattle.std.proofs.Common.{◌≡◌, drop}
use Rattle.wg_check.specs.Digests.{digest_onto, nothing}
use Rattle.wg_check.proofs.segments.digest_at.Given as goal

abbrev pub invariant-loop-entry : goal.invariant-loop-entry
invariant-loop-entry l = digest_onto l.segment l.digest (drop l.entry-index l.entries) ≡ digest_onto l.segment nothing l.entries
