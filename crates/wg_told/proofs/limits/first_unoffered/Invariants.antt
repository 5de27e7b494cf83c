use Rattle.std.proofs.Common.{◌≡◌, drop}
use Rattle.std.specs.Prelude.{not}
use Rattle.std.specs.List.{position_from}
use Rattle.wg_told.specs.Limits.{all_named, passes, is_offered, failing}
use Rattle.wg_told.proofs.limits.first_unoffered.Given as goal

abbrev pub invariant-loop-place : goal.invariant-loop-place
invariant-loop-place l =
    position_from (λ limit. not (passes (is_offered (all_named l.best)) limit)) l.place (drop l.place l.limits) ≡ failing (is_offered (all_named l.best)) l.limits
