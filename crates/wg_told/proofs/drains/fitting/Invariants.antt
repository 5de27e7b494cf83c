use Rattle.std.proofs.Common.{◌≡◌, ◌++◌, take, drop}
use Rattle.wg_told.specs.Drains.{fitting}
use Rattle.wg_told.proofs.drains.fitting.Given as goal

abbrev pub invariant-loop-index : goal.invariant-loop-index
invariant-loop-index l = fitting l.initial.room l.items ≡ take l.index l.items ++ fitting l.room (drop l.index l.items)
