use Rattle.std.proofs.Common.{◌≡◌, ◌++◌, ℕ, false, List, reverse, Option, ap, ap₂, sym, subst, ◌∙◌}
use Rattle.std.specs.Prelude.{option_map, option_and_then, option_to_list}
use Rattle.std.specs.Option.{option_map_or}
use Rattle.wg_types.specs.declared.handles.Info.{Info}
use Rattle.wg_history.specs.declared.events.Setup.{Setup}
use Rattle.wg_state.specs.Gone.{named_by}
use Rattle.wg_calls.specs.Calls.{handle_of}
use Rattle.wg_desk.specs.declared.seats.Seat.{Seat}
use Rattle.wg_desk.specs.Seats.{emptied_at, seat_of, seat_made, AreSeated}
use Rattle.wg_desk.specs.Sent.{left_after}
use Rattle.wg_desk.specs.Desks.{DeskValue, any_dropped, MakesGenuine}
use Rattle.wg_desk.proofs.Seating.{send_seated}
use Rattle.wg_desk.proofs.Sending.{none_gone}
use Rattle.wg_desk.proofs.desk.Desk.send.Goals as goal

-- The event names nothing that was let go.
pub step-requires : goal.step-requires
step-requires c =
    let undropped : any_dropped c.self.inside.core.setup (reverse c.self.inside.core.history) (named_by c.args.event) ≡ false
    = subst (λ (v : DeskValue). any_dropped v.setup (reverse v.history) (named_by c.args.event) ≡ false) (sym c.self.view_is) c.requires.undropped in
    none_gone c.self.inside.core.setup (reverse c.self.inside.core.history) c.self.inside.core.gone (named_by c.args.event) c.dead_holds.ensures undropped

-- What the event made is seated, and the seat of what it dropped is empty.
grown : (c : goal.After-empty) → c.empty.new.self.items ≡ left_after c.args.event (c.self.inside.seats.items ++ option_to_list (seat_made c.self.inside.core.setup c.args.info c.in_ok-reply.reply.answer))
grown c =
    let made : c.seat_from-made.result ≡ seat_made c.self.inside.core.setup c.args.info c.in_ok-reply.reply.answer
    = c.seat_from-made.ensures
    ∙ ap₂ (λ (serial : ℕ) (known : Option Info). option_map seat_of (option_and_then (λ (known : Info). handle_of serial known c.in_ok-reply.reply.answer) known)) c.self.invariant.serial_is c.in-Ok.ensures in
    let more : c.add.new.self.items ≡ c.self.inside.seats.items ++ option_to_list (seat_made c.self.inside.core.setup c.args.info c.in_ok-reply.reply.answer)
    = c.add.ensures
    ∙ ap₂ (λ (list : List Seat) (made : Option Seat). list ++ option_to_list made) c.reserve.ensures.items made in
    c.empty.ensures
    ∙ (ap (λ (list : List Seat). option_map_or (emptied_at list) c.dropped_number-dropped.result list) more
    ∙ ap (λ (o : Option ℕ). option_map_or (emptied_at (c.self.inside.seats.items ++ option_to_list (seat_made c.self.inside.core.setup c.args.info c.in_ok-reply.reply.answer))) o
    (c.self.inside.seats.items ++ option_to_list (seat_made c.self.inside.core.setup c.args.info c.in_ok-reply.reply.answer))) c.dropped_number-dropped.ensures)

pub invariant_of-self-2 : goal.invariant_of-self-2
invariant_of-self-2 c =
    let makes : MakesGenuine c.self.inside.core.setup c.self.inside.core.history c.args.event c.args.info
    = subst (λ (v : DeskValue). MakesGenuine v.setup v.history c.args.event c.args.info) (sym c.self.view_is) c.requires.makes in
    record {
      serial_is = c.self.invariant.serial_is ∙ ap (λ (setup : Setup). setup.serial) (sym c.step.ensures.setup);
      limits_is = c.self.invariant.limits_is ∙ ap (λ (setup : Setup). setup.limits) (sym c.step.ensures.setup);
      seated = subst (λ (setup : Setup). AreSeated setup c.step.new.self.history c.empty.new.self.items) (sym c.step.ensures.setup)
          (send_seated c.self.inside.core.setup c.self.inside.core.history c.step.new.self.history c.self.inside.seats.items c.empty.new.self.items c.args.who c.args.event c.in_ok-reply.reply c.args.info
          c.self.invariant.seated makes c.in_ok-reply.ensures.reply c.in_ok-reply.ensures.history (grown c));
    }

pub returns-clause-seats : goal.returns-clause-seats
returns-clause-seats c =
    subst (λ (v : DeskValue). c.empty.new.self.items ≡ left_after c.args.event (v.seats ++ option_to_list (seat_made v.setup c.args.info c.in_ok-reply.reply.answer))) c.self.view_is (grown c)
