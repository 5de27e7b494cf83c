use Rattle.std.proofs.Common.{◌≡◌, ◌∙◌, ◌+◌, ◌++◌, ◌∷◌, [], ℕ, ap, sym, subst, arith, length, take}
use Rattle.std.specs.Prelude.{slice_index_or}
use Rattle.std.proofs.lemmas.List.{take_more}
use Rattle.wg_cbtrack.specs.Owners.{AreExchanged, rows_below, rows_of, rows_above}
use Rattle.wg_cbtrack.proofs.Owning.{next_fits, exchanged_one}
use Rattle.wg_cbtrack.proofs.owners.exchange.Goals as goal

pub exchange_one-requires-clause-room : goal.exchange_one-requires-clause-room
exchange_one-requires-clause-room g c =
    let o : ℕ = slice_index_or c.args.objects.now c.loop-object.object-index 0 in
    let fits = next_fits g.T.Owned.object (take c.loop-object.object-index c.args.objects.now) o c.args.mine.now c.args.rows.now.items c.loop-object.rows.items c.requires.ordered_mine c.requires.ordered c.loop-object.invariant.0 in
    let mine : length c.rows_of.result.now ≡ length (rows_of g.T.Owned.object o c.args.mine.now) = ap length c.rows_of.ensures in
    omega (arith, fits, mine, c.args.rows.now.ok.0, c.loop-object.invariant.1)

pub loop-object-preserved : goal.loop-object-preserved
loop-object-preserved g c =
    let o : ℕ = slice_index_or c.args.objects.now c.loop-object.object-index 0 in
    let next : c.exchange_one.new.rows.items ≡ rows_below g.T.Owned.object o c.loop-object.rows.items ++ (rows_of g.T.Owned.object o c.args.mine.now ++ rows_above g.T.Owned.object o c.loop-object.rows.items) = c.exchange_one.ensures.items ∙ ap (λ xs. rows_below g.T.Owned.object o c.loop-object.rows.items ++ (xs ++ rows_above g.T.Owned.object o c.loop-object.rows.items)) c.rows_of.ensures in
    let more : take (c.loop-object.object-index + 1) c.args.objects.now ≡ take c.loop-object.object-index c.args.objects.now ++ o ∷ [] = take_more c.args.objects.now c.loop-object.object-index 0 c.loop-object-test.true in
    (subst (λ os. AreExchanged g.T.Owned.object os c.args.mine.now c.args.rows.now.items c.exchange_one.new.rows.items) (sym more) (exchanged_one g.T.Owned.object (take c.loop-object.object-index c.args.objects.now) o c.args.mine.now c.args.rows.now.items c.loop-object.rows.items c.exchange_one.new.rows.items c.requires.ordered_mine c.loop-object.invariant.0 next), omega (arith, c.loop-object.invariant.1, c.exchange_one.ensures.capacity))
