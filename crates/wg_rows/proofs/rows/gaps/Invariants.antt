use Rattle.std.proofs.Common.{◌≡◌, [], ◌∷◌, drop}
use Rattle.wg_rows.specs.Cut.{gaps}
use Rattle.wg_rows.proofs.rows.gaps.Given as goal

abbrev pub invariant-loop-other : goal.invariant-loop-other
invariant-loop-other g l = gaps g.R.Run.sort l.left.items (drop l.other-index l.rows) ≡ gaps g.R.Run.sort (l.fn.row ∷ []) l.rows
