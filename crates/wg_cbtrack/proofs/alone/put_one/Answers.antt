use Rattle.std.proofs.Common.{◌∙◌, ap₂, sym, arith}
use Rattle.wg_cbtrack.specs.Owners.{rows_of}
use Rattle.wg_cbtrack.proofs.Owning.{counts_are}
use Rattle.wg_cbtrack.proofs.Standing.{set_held, put_is_there}
use Rattle.wg_cbtrack.proofs.alone.put_one.Goals as goal

pub returns-then-is_there-clause-items : goal.returns-then-is_there-clause-items
returns-then-is_there-clause-items g c = set_held g.T.Owned.object (g.T.Owned.object c.args.row) c.args.rows.now.items c.args.at c.args.row c.requires.one.0 c.requires.ordered c.requires.place c.requires.one.1 (λ e. c.is_there.ensures.some c.if-is_there.true (ap₂ (λ o xs. rows_of g.T.Owned.object o xs) c.object.ensures c.as_slice.ensures.value ∙ e))

pub insert_one-requires-clause-within : goal.insert_one-requires-clause-within
insert_one-requires-clause-within g c =
    let counts = counts_are g.T.Owned.object (g.T.Owned.object c.args.row) c.args.rows.now.items c.requires.ordered in
    omega (arith, counts, c.requires.place, c.args.rows.now.ok.0)

pub returns-clause-items : goal.returns-clause-items
returns-clause-items g c = c.insert_one.ensures.items ∙ put_is_there g.T.Owned.object (g.T.Owned.object c.args.row) c.args.rows.now.items c.args.at c.args.row c.requires.ordered c.requires.place (ap₂ (λ o xs. rows_of g.T.Owned.object o xs) (sym c.object.ensures) (sym c.as_slice.ensures.value) ∙ c.is_there.ensures.no c.if-is_there.false)
