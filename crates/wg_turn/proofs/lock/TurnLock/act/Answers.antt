use Rattle.std.proofs.Common.{◌≡◌, arith}
use Rattle.wg_turn.specs.Entries.{who_of, Stands, Lawful}
use Rattle.wg_turn.specs.Turns.{width, view_calls}
use Rattle.wg_turn.proofs.Keeping.{draws}
use Rattle.wg_turn.proofs.lock.TurnLock.act.Goals as goal

pub fetch_add-ticket-requires : goal.fetch_add-ticket-requires
fetch_add-ticket-requires g c = let l = g.S.Logged in let sized = c.args.self.now.sized.0 in let p = c.requires.pass in
    let one : width c.args.pass.now.seat.me.0 ≡ 1 = p.one in let called : view_calls c.args.pass.now.seat.me.0 ≡ c.args.pass.now.calls = p.called in let room = c.requires.room in (
      p.of,
      omega arith,
      draws who_of (Stands l.setup l.history) (Lawful l.setup l.history l.legal) _ _ _ _ _ p.idle (omega arith) (omega arith),
    )
