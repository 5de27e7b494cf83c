use Rattle.std.proofs.Common.{◌≡◌, ◌++◌, drop}
use Rattle.wg_num.specs.Runs.{missing_runs}
use Rattle.wg_num.proofs.runs.push_missing.Given as goal

abbrev pub invariant-loop-x : goal.invariant-loop-x
invariant-loop-x l = l.out.items ++ missing_runs l.lo l.hi (drop l.x-index l.runs) ≡ l.fn.out.items ++ missing_runs l.fn.lo l.hi l.runs
