use Rattle.std.proofs.Common.{◌≡◌, ◌++◌, ◌∷◌, [], sym, ap, ◌∙◌, subst}
use Rattle.wg_json.specs.View.{members_view}
use Rattle.wg_json.specs.Places.{KeysAscend}
use Rattle.wg_json.proofs.Placing.{Entry}
use Rattle.wg_json.proofs.Ascending.{last_inserted}
use Rattle.wg_json.proofs.order.to_map.Goals as goal

pub loop-key-preserved : goal.loop-key-preserved
loop-key-preserved c =
    let l = c.loop-key in
    let e : Entry = (c.in-Some.key, c.in-Some.value) in
    let left = c.pop.new.self.items in
    let popped : l.members.items ≡ left ++ e ∷ [] = c.in-Some.ensures.items in
    let whole : (left ++ e ∷ []) ++ l.map.entries ≡ c.args.members.items = ap (λ es. es ++ l.map.entries) (sym popped) ∙ l.invariant in
    ap (λ es. left ++ es) c.in_ok-insert.ensures.entries ∙ last_inserted left l.map.entries e (subst (λ es. KeysAscend (members_view es)) (sym whole) c.requires) ∙ whole
