use Rattle.std.proofs.Common.{◌≡◌, drop}
use Rattle.std.specs.List.{find}
use Rattle.wg_limits.specs.Names.{same_limit}
use Rattle.wg_told.specs.Limits.{all_named}
use Rattle.wg_told.proofs.limits.said_of.Given as goal

abbrev pub invariant-loop-limit : goal.invariant-loop-limit
invariant-loop-limit l = find (λ said. same_limit said.0 l.name) (all_named (drop l.limit-index l.best)) ≡ find (λ said. same_limit said.0 l.name) (all_named l.best)
