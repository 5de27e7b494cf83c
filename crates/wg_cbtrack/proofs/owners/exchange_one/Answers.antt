use Rattle.std.proofs.Common.{◌∙◌, ◌++◌, ap, ap₂, arith, length, ◌+◌}
use Rattle.wg_cbtrack.specs.Owners.{rows_below, rows_of}
use Rattle.wg_cbtrack.proofs.Owning.{counts_are, front_is, back_is}
use Rattle.wg_cbtrack.proofs.owners.exchange_one.Goals as goal

pub replace-requires-clause-room : goal.replace-requires-clause-room
replace-requires-clause-room g c =
    let counts = counts_are g.T.Owned.object c.args.object c.args.rows.now.items c.requires.ordered in
    let from = c.start_of-from.ensures.place ∙ ap (λ xs. length (rows_below g.T.Owned.object c.args.object xs)) c.as_slice.ensures.value in
    let to = c.end_of-to.ensures.place ∙ ap (λ xs. length (rows_below g.T.Owned.object c.args.object xs) + length (rows_of g.T.Owned.object c.args.object xs)) c.as_slice-2.ensures.value in
    omega (arith, counts, from, to, c.requires.room, c.args.rows.now.ok.0)

pub returns-clause-items : goal.returns-clause-items
returns-clause-items g c =
    let from = c.start_of-from.ensures.place ∙ ap (λ xs. length (rows_below g.T.Owned.object c.args.object xs)) c.as_slice.ensures.value in
    let to = c.end_of-to.ensures.place ∙ ap (λ xs. length (rows_below g.T.Owned.object c.args.object xs) + length (rows_of g.T.Owned.object c.args.object xs)) c.as_slice-2.ensures.value in
    c.replace.ensures.items ∙ ap₂ (λ xs ys. xs ++ (c.args.mine.now ++ ys)) (front_is g.T.Owned.object c.args.object c.args.rows.now.items c.start_of-from.result c.requires.ordered from) (back_is g.T.Owned.object c.args.object c.args.rows.now.items c.end_of-to.result c.requires.ordered to)
