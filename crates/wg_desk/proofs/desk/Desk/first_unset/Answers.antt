use Rattle.std.proofs.Common.{◌≡◌, false, is_none, reverse, rules}
use Rattle.wg_desk.specs.Seats.{handle_at}
use Rattle.wg_desk.proofs.Seating.{seat_undropped}
use Rattle.wg_desk.proofs.Sending.{not_gone}
use Rattle.wg_desk.proofs.desk.Desk.first_unset.Goals as goal

-- What has a seat was not dropped, and so not let go.
pub first_unset-requires : goal.first_unset-requires
first_unset-requires c =
    let held : is_none (handle_at c.self.inside.seats.items c.args.buffer) ≡ false = search rules in
    not_gone c.self.inside.core.setup (reverse c.self.inside.core.history) c.self.inside.core.gone c.args.buffer c.dead_holds.ensures
    (seat_undropped c.self.inside.core.setup c.self.inside.core.history c.self.inside.seats.items c.args.buffer c.self.invariant.seated held)
