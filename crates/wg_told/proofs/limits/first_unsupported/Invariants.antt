use Rattle.std.proofs.Common.{◌≡◌, drop}
use Rattle.std.specs.Prelude.{not}
use Rattle.std.specs.List.{position_from}
use Rattle.wg_told.specs.Limits.{passes, can_support, failing}
use Rattle.wg_told.proofs.limits.first_unsupported.Given as goal

abbrev pub invariant-loop-place : goal.invariant-loop-place
invariant-loop-place l = position_from (λ limit. not (passes can_support limit)) l.place (drop l.place l.best) ≡ failing can_support l.best
