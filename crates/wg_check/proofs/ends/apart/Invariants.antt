use Rattle.std.proofs.Common.{◌≡◌, ◌++◌, drop, None}
use Rattle.wg_check.specs.Ends.{apart_from}
use Rattle.wg_check.proofs.ends.apart.Given as goal

abbrev pub invariant-loop-key : goal.invariant-loop-key
invariant-loop-key l = l.ends.items ++ apart_from l.last (drop l.key-index l.keys) ≡ apart_from None l.keys
