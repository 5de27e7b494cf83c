use Rattle.std.proofs.Common.{◌∙◌, ◌++◌, ap, sym, append-nil}
use Rattle.std.proofs.lemmas.List.{drop_all}
use Rattle.wg_cbtrack.proofs.Owning.{picked, picked_is}
use Rattle.wg_cbtrack.proofs.owners.rows_among.Goals as goal

pub returns : goal.returns
returns g c = sym (append-nil c.loop-object.out.items) ∙ (ap (λ os. c.loop-object.out.items ++ picked g.T.Owned.object os c.args.rows.now) (sym (drop_all c.loop-object.object-index c.args.objects.now c.loop-object-test.false)) ∙ (c.loop-object.invariant ∙ picked_is g.T.Owned.object c.args.objects.now c.args.rows.now c.requires.rising c.requires.ordered))
