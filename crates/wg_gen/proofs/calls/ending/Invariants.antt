use Rattle.std.proofs.Common.{◌≡◌, ◌*◌, None, ◌∷◌, map, take}
use Rattle.wg_types.specs.declared.requests.RequestOf.TheVariants.{Complete}
use Rattle.wg_script.specs.declared.calls.CallOf.TheVariants.{Ask}
use Rattle.wg_gen.specs.Generator.{eight, destruction}
use Rattle.wg_gen.proofs.calls.ending.Given as goal

abbrev pub invariant-loop-slot : goal.invariant-loop-slot
invariant-loop-slot l = l.calls ≡ Ask (Complete (2 * l.iterations)) None ∷ map destruction (take l.slot-index eight)
