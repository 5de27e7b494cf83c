use Rattle.std.proofs.Common.{◌≡◌, ◌++◌, drop}
use Rattle.wg_cbtrack.proofs.Owning.{picked}
use Rattle.wg_cbtrack.proofs.owners.rows_among.Given as goal

abbrev pub invariant-loop-object : goal.invariant-loop-object
invariant-loop-object g l = l.out.items ++ picked g.T.Owned.object (drop l.object-index l.objects) l.rows ≡ picked g.T.Owned.object l.objects l.rows
