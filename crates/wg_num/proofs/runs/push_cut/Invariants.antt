use Rattle.std.proofs.Common.{◌≡◌, ◌++◌, drop}
use Rattle.wg_num.specs.Runs.{cut_runs}
use Rattle.wg_num.proofs.runs.push_cut.Given as goal

abbrev pub invariant-loop-i : goal.invariant-loop-i
invariant-loop-i l = l.out.items ++ cut_runs l.lo l.hi (drop l.i l.runs) ≡ l.fn.out.items ++ cut_runs l.lo l.hi l.runs
