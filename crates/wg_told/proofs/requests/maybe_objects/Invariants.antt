use Rattle.std.proofs.Common.{◌≡◌, map, take}
use Rattle.wg_told.specs.Tables.{wide_of}
use Rattle.wg_told.proofs.requests.maybe_objects.Given as goal

abbrev pub invariant-loop-number : goal.invariant-loop-number
invariant-loop-number l = l.found ≡ map wide_of (take l.number-index l.numbers)
