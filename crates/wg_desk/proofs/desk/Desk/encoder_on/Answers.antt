use Rattle.std.proofs.Common.{◌≡◌, false, is_none, reverse, subst, rules}
use Rattle.wg_history.specs.Rules.{is_dropped}
use Rattle.wg_desk.specs.Seats.{handle_at}
use Rattle.wg_desk.specs.Desks.{DeskValue}
use Rattle.wg_desk.proofs.Seating.{seat_undropped}
use Rattle.wg_desk.proofs.desk.Desk.encoder_on.Goals as goal

-- What has a seat was not dropped.
pub returns-clause-undropped : goal.returns-clause-undropped
returns-clause-undropped c =
    let held : is_none (handle_at c.self.inside.seats.items c.in_ok-encoder.encoder.number) ≡ false = search rules in
    subst (λ (v : DeskValue). is_dropped v.setup (reverse v.history) c.in_ok-encoder.encoder.number ≡ false) c.self.view_is
    (seat_undropped c.self.inside.core.setup c.self.inside.core.history c.self.inside.seats.items c.in_ok-encoder.encoder.number c.self.invariant.seated held)
