use Rattle.std.proofs.Common.{rules, ◌≡◌, ◌++◌, ◌∙◌, map, ap}
use Rattle.wg_cbtrack.specs.Owners.{among}
use Rattle.wg_cbtrack.proofs.Owning.{among_left, among_right, each_among}
use Rattle.wg_cbtrack.proofs.owners.objects_of.Goals as goal

pub returns-clause-rows : goal.returns-clause-rows
returns-clause-rows g c =
    let both : c.push_objects-2.new.out.items ≡ map g.T.Owned.object c.args.rows.now ++ map g.S.Owned.object c.args.others.now = search rules in
    each_among g.T.Owned.object (among c.in_order.result.items) c.args.rows.now (λ o e. c.in_order.ensures.all o (ap (λ xs. among xs o) both ∙ among_left (map g.T.Owned.object c.args.rows.now) (map g.S.Owned.object c.args.others.now) o e))

pub returns-clause-others : goal.returns-clause-others
returns-clause-others g c =
    let both : c.push_objects-2.new.out.items ≡ map g.T.Owned.object c.args.rows.now ++ map g.S.Owned.object c.args.others.now = search rules in
    each_among g.S.Owned.object (among c.in_order.result.items) c.args.others.now (λ o e. c.in_order.ensures.all o (ap (λ xs. among xs o) both ∙ among_right (map g.T.Owned.object c.args.rows.now) (map g.S.Owned.object c.args.others.now) o e))
