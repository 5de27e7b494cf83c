use Rattle.std.proofs.Common.{◌≡◌, slice_set, false, true, refl, ap, sym, subst, ◌∙◌}
use Rattle.wg_fading.specs.Fading.{is_kept}
use Rattle.wg_desk.specs.declared.seats.Seat.{Seat}
use Rattle.wg_desk.specs.Seats.{SeatsValue, emptied, emptied_at}
use Rattle.wg_desk.proofs.Vacant.{changed_unkept, vacant_left}
use Rattle.wg_desk.proofs.seats.Seats.empty_at.Goals as goal

pub returns-then-not-is_kept : goal.returns-then-not-is_kept
returns-then-not-is_kept c =
    let unkept : is_kept c.self.inside.list c.args.number ≡ false = sym c.is_kept.ensures ∙ c.if-not-is_kept.true in
    subst (λ (v : SeatsValue). v.items ≡ emptied_at v.items c.args.number) c.self.view_is (sym (changed_unkept c.self.inside.list c.args.number emptied c.self.invariant unkept refl))

pub invariant_of-self : goal.invariant_of-self
invariant_of-self c =
    let kept : is_kept c.self.inside.list c.args.number ≡ true = sym c.is_kept.ensures ∙ c.if-not-is_kept.false in
    vacant_left c.self.inside.list c.replace.new.self c.let_go.new.self c.args.number c.replace.result c.self.invariant kept c.replace.ensures.was
    (c.replace.ensures.items ∙ ap (λ (seat : Seat). slice_set c.self.inside.list.items c.args.number seat) c.vacant.ensures) c.replace.ensures.gone c.let_go.ensures.items c.let_go.ensures.gone
