use Rattle.std.proofs.Common.{◌≡◌, ◌++◌, drop}
use Rattle.wg_init.specs.Effects.{with_effect}
use Rattle.wg_init.proofs.noting.with_effect.Given as goal

abbrev pub invariant-loop-i : goal.invariant-loop-i
invariant-loop-i l = l.out.items ++ with_effect l.fn.run l.fn.kind (drop l.i l.rows) ≡ with_effect l.fn.run l.fn.kind l.rows
