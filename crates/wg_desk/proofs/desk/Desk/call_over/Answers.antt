use Rattle.std.proofs.Common.{◌≡◌, ◌++◌, ◌∙◌, ℕ, true, Option, length, reverse, ap, sym, subst}
use Rattle.std.specs.Prelude.{All, option_to_list}
use Rattle.std.specs.Option.{option_map_or}
use Rattle.wg_types.specs.Handles.{HandleValue}
use Rattle.wg_types.specs.Requests.{named, map_refs}
use Rattle.wg_types.specs.declared.requests.RequestOf.{RequestOf}
use Rattle.wg_types.specs.declared.wanted.Wanted.{Wanted}
use Rattle.wg_history.specs.Rules.{is_genuine}
use Rattle.wg_calls.specs.Calls.{event_asked, info_asked}
use Rattle.wg_desk.specs.Seats.{emptied_at, found_at, seat_made, AreSeated}
use Rattle.wg_desk.specs.Sent.{left_after, seats_asked, recorder_made}
use Rattle.wg_desk.specs.Desks.{DeskValue, names_dropped}
use Rattle.wg_desk.proofs.Naming.{named_genuine, named_undropped, drops_found}
use Rattle.wg_desk.proofs.desk.Desk.call_over.Goals as goal

pub call_of-requires-clause-genuine : goal.call_of-requires-clause-genuine
call_of-requires-clause-genuine c =
    let seated : AreSeated c.args.self.now.setup c.args.self.now.history c.args.self.now.seats
    = subst (λ (v : DeskValue). AreSeated v.setup v.history v.seats) c.self.view_is c.self.invariant.seated in
    let is : c.in_ok-asked.asked ≡ map_refs (found_at c.args.self.now.seats) c.args.request.now
    = c.in_ok-asked.ensures ∙ ap (λ (v : DeskValue). map_refs (found_at v.seats) c.args.request.now) c.self.view_is in
    subst (λ (asked : RequestOf HandleValue). All (λ (used : HandleValue × Wanted). is_genuine c.args.self.now.setup (reverse c.args.self.now.history) used.0 ≡ true) (named asked))
    (sym is) (named_genuine c.args.self.now.setup c.args.self.now.history c.args.self.now.seats seated c.args.request.now c.requires)

pub call_of-requires-clause-undropped : goal.call_of-requires-clause-undropped
call_of-requires-clause-undropped c =
    let seated : AreSeated c.args.self.now.setup c.args.self.now.history c.args.self.now.seats
    = subst (λ (v : DeskValue). AreSeated v.setup v.history v.seats) c.self.view_is c.self.invariant.seated in
    let is : c.in_ok-asked.asked ≡ map_refs (found_at c.args.self.now.seats) c.args.request.now
    = c.in_ok-asked.ensures ∙ ap (λ (v : DeskValue). map_refs (found_at v.seats) c.args.request.now) c.self.view_is in
    ap (λ (asked : RequestOf HandleValue). names_dropped c.args.self.now.setup (reverse c.args.self.now.history) (named asked)) is
    ∙ named_undropped c.args.self.now.setup c.args.self.now.history c.args.self.now.seats seated c.args.request.now c.requires

pub returns-clause-seats : goal.returns-clause-seats
returns-clause-seats c =
    let seated : AreSeated c.args.self.now.setup c.args.self.now.history c.args.self.now.seats
    = subst (λ (v : DeskValue). AreSeated v.setup v.history v.seats) c.self.view_is c.self.invariant.seated in
    let is : c.in_ok-asked.asked ≡ map_refs (found_at c.args.self.now.seats) c.args.request.now
    = c.in_ok-asked.ensures ∙ ap (λ (v : DeskValue). map_refs (found_at v.seats) c.args.request.now) c.self.view_is in
    c.in_ok-made.ensures.seats
    ∙ (ap (λ (asked : RequestOf HandleValue). left_after (event_asked asked) (c.args.self.now.seats ++ option_to_list (seat_made c.args.self.now.setup (info_asked asked) c.in_ok-made.made.0.answer))) is
    ∙ ap (λ (o : Option ℕ). option_map_or (emptied_at (seats_asked c.args.self.now.setup c.args.self.now.seats c.args.request.now c.in_ok-made.made.0.answer)) o
    (seats_asked c.args.self.now.setup c.args.self.now.seats c.args.request.now c.in_ok-made.made.0.answer))
    (drops_found c.args.self.now.setup c.args.self.now.history c.args.self.now.seats seated c.args.request.now c.requires))

pub returns-clause-recorder : goal.returns-clause-recorder
returns-clause-recorder c =
    let is : c.in_ok-asked.asked ≡ map_refs (found_at c.args.self.now.seats) c.args.request.now
    = c.in_ok-asked.ensures ∙ ap (λ (v : DeskValue). map_refs (found_at v.seats) c.args.request.now) c.self.view_is in
    c.in_ok-made.ensures.recorder ∙ ap (λ (asked : RequestOf HandleValue). recorder_made c.args.self.now.setup (length c.args.self.now.seats) (info_asked asked)) is
