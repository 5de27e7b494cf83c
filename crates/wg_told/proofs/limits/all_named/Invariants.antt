use Rattle.std.proofs.Common.{◌≡◌, ◌++◌, drop}
use Rattle.wg_told.specs.Limits.{all_named}
use Rattle.wg_told.proofs.limits.all_named.Given as goal

abbrev pub invariant-loop-limit : goal.invariant-loop-limit
invariant-loop-limit l = l.found ++ all_named (drop l.limit-index l.limits) ≡ all_named l.limits
