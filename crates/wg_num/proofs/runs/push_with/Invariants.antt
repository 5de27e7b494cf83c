use Rattle.std.proofs.Common.{◌≡◌, ◌++◌, drop}
use Rattle.wg_num.specs.Runs.{with_run}
use Rattle.wg_num.proofs.runs.push_with.Given as goal

abbrev pub invariant-loop-i : goal.invariant-loop-i
invariant-loop-i l = l.out.items ++ with_run l.lo l.hi (drop l.i l.runs) ≡ l.fn.out.items ++ with_run l.fn.lo l.fn.hi l.runs
