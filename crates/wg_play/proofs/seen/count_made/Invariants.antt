use Rattle.std.proofs.Common.{◌≡◌, take}
use Rattle.wg_play.specs.Lanes.{count_made}
use Rattle.wg_play.proofs.seen.count_made.Given as goal

abbrev pub invariant-loop-call : goal.invariant-loop-call
invariant-loop-call l = l.count ≡ count_made (take l.call-index l.calls)
