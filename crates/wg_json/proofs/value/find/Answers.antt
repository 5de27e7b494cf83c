use Rattle.std.proofs.Common.{◌≡◌, ◌+◌, ◌∷◌, true, false, drop, sym, ap, ◌∙◌, bytes_eq, arith}
use Rattle.std.proofs.lemmas.List.{at_drop_more}
use Rattle.serde_json.specs.Find.{get_member}
use Rattle.wg_json.specs.View.{members_view}
use Rattle.wg_json.proofs.Trees.{get_here, get_later}
use Rattle.wg_json.proofs.value.find.Goals as goal

pub returns-then-eq : goal.returns-then-eq
returns-then-eq c =
    let m = c.member-item.result in
    let ms = c.args.members.now in
    let i = c.loop-member.member-index in
    let key = c.args.key.now in
    let front : drop i ms ≡ m ∷ drop (i + 1) ms = at_drop_more (λ es. es) ms i m c.loop-member-test.true ∙ ap (λ e. e ∷ drop (i + 1) ms) (sym c.member-item.is) in
    let same : bytes_eq key m.0.now ≡ true = grind arith in
    sym (sym c.loop-member.invariant ∙ ap (λ es. get_member key (members_view es)) front ∙ get_here key m (drop (i + 1) ms) same)

pub loop-member-preserved : goal.loop-member-preserved
loop-member-preserved c =
    let m = c.member-item.result in
    let ms = c.args.members.now in
    let i = c.loop-member.member-index in
    let key = c.args.key.now in
    let front : drop i ms ≡ m ∷ drop (i + 1) ms = at_drop_more (λ es. es) ms i m c.loop-member-test.true ∙ ap (λ e. e ∷ drop (i + 1) ms) (sym c.member-item.is) in
    let other : bytes_eq key m.0.now ≡ false = grind arith in
    sym (ap (λ es. get_member key (members_view es)) front ∙ get_later key m (drop (i + 1) ms) other) ∙ c.loop-member.invariant
