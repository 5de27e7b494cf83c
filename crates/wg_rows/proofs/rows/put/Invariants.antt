use Rattle.std.proofs.Common.{◌≡◌, ◌++◌, drop}
use Rattle.wg_rows.specs.Rows.{put}
use Rattle.wg_rows.proofs.rows.put.Given as goal

abbrev pub invariant-loop-i : goal.invariant-loop-i
invariant-loop-i g l = l.out.items ++ put g.R.Run.sort g.V.Value.same l.row (drop l.i l.rows) ≡ put g.R.Run.sort g.V.Value.same l.fn.row l.rows
