use Rattle.std.proofs.Common.{◌≡◌, drop}
use Rattle.wg_cbtrack.specs.Gaps.{first_gap}
use Rattle.wg_cbtrack.proofs.gaps.gap_in.Given as goal

abbrev pub invariant-loop-x : goal.invariant-loop-x
invariant-loop-x l = first_gap l.lo l.hi (drop l.x-index l.runs) ≡ first_gap l.fn.lo l.hi l.runs
