use Rattle.std.proofs.Common.{◌≡◌, ◌++◌, ◌∷◌, [], ◌∙◌, ap₂, arith}
use Rattle.std.specs.List.{slice_get}
use Rattle.std.specs.Prelude.{Some}
use Rattle.std.proofs.lemmas.Option.{slice_get_within}
use Rattle.wg_bars.proofs.Here.{copy_more}
use Rattle.wg_init.proofs.state.CellState.copy.Goals as goal

pub loop-object-preserved : goal.loop-object-preserved
loop-object-preserved c =
    let found : slice_get c.args.self.now.items c.loop-object.object ≡ Some c.in-Some.rows.now = rw c.self.view_is at c.in-Some.ensures in
    let copied = c.in_ok-push_copies.ensures ∙ ap₂ (λ xs ys. xs ++ ys) c.new-held.ensures.items c.as_slice.ensures in
    let rows : c.from_vec.result ≡ c.in-Some.rows.now = c.from_vec.ensures ∙ copied in
    let pushed : c.push.new.self.items ≡ c.loop-object.kept.items ++ c.in-Some.rows.now ∷ [] = c.push.ensures.items ∙ ap₂ (λ xs x. xs ++ x ∷ []) c.reserve.ensures.items rows in
    (copy_more c.args.self.now.items c.loop-object.kept.items c.push.new.self.items c.loop-object.object c.in-Some.rows.now found c.loop-object.invariant.0 pushed, c.push.ensures.gone ∙ (c.reserve.ensures.gone ∙ c.loop-object.invariant.1), omega (arith, slice_get_within c.args.self.now.items c.loop-object.object c.in-Some.rows.now found))
