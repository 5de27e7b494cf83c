use Rattle.std.proofs.Common.{◌≡◌, drop}
use Rattle.wg_init.specs.Rows.{runs_in, row_line}
use Rattle.wg_init.proofs.unset.set_in.Given as goal

abbrev pub invariant-loop-other : goal.invariant-loop-other
invariant-loop-other l = runs_in (drop l.other-index l.rows) (row_line l.row) ≡ runs_in l.rows (row_line l.row)
