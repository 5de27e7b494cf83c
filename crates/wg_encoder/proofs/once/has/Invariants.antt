use Rattle.std.proofs.Common.{◌≡◌, drop}
use Rattle.std.specs.List.{list_any}
use Rattle.wg_encoder.proofs.once.has.Given as goal

abbrev pub invariant-loop-other : goal.invariant-loop-other
invariant-loop-other g l = list_any (g.T.PartialEq.eq l.value) (drop l.other-index l.list) ≡ list_any (g.T.PartialEq.eq l.value) l.list
