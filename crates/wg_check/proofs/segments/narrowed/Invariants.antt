use Rattle.std.proofs.Common.{◌≡◌, ◌++◌, drop}
use Rattle.wg_check.specs.Digests.{narrowed, nothing}
use Rattle.wg_check.proofs.segments.narrowed.Given as goal

abbrev pub invariant-loop-entry : goal.invariant-loop-entry
invariant-loop-entry l = l.some.items ++ narrowed l.lo l.hi l.digest (drop l.entry-index l.entries) ≡ narrowed l.lo l.hi nothing l.entries
