use Rattle.std.proofs.Common.{◌≡◌, ◌∙◌, ◌-◌, Some, List, length, take, drop, refl, sym, ap, arith, length-drop}
use Rattle.std.proofs.lemmas.Bool.{ltb-true}
use Rattle.std.proofs.lemmas.Option.{slice_get_read}
use Rattle.std.specs.Prelude.{slice_get}
use lib.Seq.{take_all}
use Rattle.wg_trace.specs.declared.steps.Item.{Item}
use Rattle.wg_c.specs.Inners.{InnerValue}
use Rattle.wg_c.proofs.Inside.{wants_by}
use Rattle.wg_c.proofs.inner.Inner.next_items.Goals as goal

pub returns-then-counts-eq0 : goal.returns-then-counts-eq0
returns-then-counts-eq0 c =
    let all : List Item = c.as_slice-2.result.now in
    let told = c.self.inside.told in
    let rest : List Item = take (length all - told) (drop told all) in
    let long = length-drop told all in
    let whole : rest ≡ drop told all = take_all (length all - told) (drop told all) (omega (arith, long)) in
    let left : rest ≡ drop c.args.self.now.told c.args.self.now.items
    = whole ∙ (ap (λ (xs : List Item). drop told xs) c.as_slice-2.ensures.value ∙ ap (λ (v : InnerValue). drop v.told v.items) c.self.view_is) in
    let here : slice_get c.self.inside.items.items told ≡ slice_get c.args.self.now.items c.args.self.now.told = ap (λ (v : InnerValue). slice_get v.items v.told) c.self.view_is in
    let seen : slice_get c.as_slice.result.now told ≡ slice_get c.self.inside.items.items told = ap (λ (xs : List Item). slice_get xs told) c.as_slice.ensures.value in
    let found : slice_get c.as_slice.result.now told ≡ Some c.in-Some.item.now
    = slice_get_read c.as_slice.result.now (length c.as_slice.result.now) told c.in-Some.item.now refl
    (ltb-true told (length c.as_slice.result.now) (sym c.in-Some.ensures.lookup.0)) c.in-Some.ensures.lookup.1 in
    let next : slice_get c.args.self.now.items c.args.self.now.told ≡ Some c.in-Some.item.now = sym here ∙ (sym seen ∙ found) in
    wants_by c.args.self.now (record { items = c.args.items.now; uses = c.args.uses.now; accesses = c.args.accesses.now })
    (record { items = c.tell_items-counts.new.out; uses = c.tell_items-counts.new.uses; accesses = c.tell_items-counts.new.accesses })
    rest c.in-Some.item.now c.tell_items-counts.result c.item_counts.result left next c.tell_items-counts.ensures.counts c.if-counts-eq0.true
    c.tell_items-counts.ensures.items c.tell_items-counts.ensures.uses c.tell_items-counts.ensures.accesses c.item_counts.ensures
