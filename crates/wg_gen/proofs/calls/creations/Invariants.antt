use Rattle.std.proofs.Common.{◌≡◌, map, take}
use Rattle.wg_gen.specs.Generator.{eight, creation}
use Rattle.wg_gen.proofs.calls.creations.Given as goal

abbrev pub invariant-loop-slot : goal.invariant-loop-slot
invariant-loop-slot l = l.calls ≡ map creation (take l.slot-index eight)
