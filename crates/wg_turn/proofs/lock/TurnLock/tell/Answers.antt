use Rattle.std.proofs.Common.{◌≡◌, ◌+◌, ◌∙◌, ap, inl, arith, length, length-append}
use Rattle.wg_turn.specs.Entries.{who_of, Stands, Lawful}
use Rattle.wg_turn.specs.Turns.{width}
use Rattle.wg_turn.proofs.Keeping.{learns}
use Rattle.wg_turn.proofs.Seats.{tells, joins}
use Rattle.wg_turn.proofs.lock.TurnLock.tell.Goals as goal

pub split_seat-note-requires : goal.split_seat-note-requires
split_seat-note-requires g c = let l = g.S.Logged in let sized = c.args.self.now.sized.0 in let p = c.requires.from in let one = p.one in (
  p.of,
  omega arith,
  tells who_of (Stands l.setup l.history) (Lawful l.setup l.history l.legal) _ _ _ _ p.idle (omega arith),
)

pub join_seat-requires : goal.join_seat-requires
join_seat-requires g c = let l = g.S.Logged in let sized = c.args.self.now.sized.0 in let p = c.requires.from in let q = c.requires.to in let one = q.one in let note = c.split_seat-note.ensures in (
  q.of,
  note.3 ∙ p.of,
  ap (λ m. m.1) note.4,
  omega arith,
  joins who_of (Stands l.setup l.history) (Lawful l.setup l.history l.legal) _ _ _ _ _ _ _ q.idle (ap (λ m. m.0.stage) note.4 ∙ p.idle) (omega arith) (ap (λ m. m.0.opening) note.4 ∙ p.opened) (inl (ap (λ m. width m.0) note.4)),
)

pub load-requires : goal.load-requires
load-requires g c = let l = g.S.Logged in let sized = c.args.self.now.sized.0 in let q = c.requires.to in let one = q.one in let met = c.join_seat.ensures in (
  met.0 ∙ q.of,
  omega arith,
  learns who_of (Stands l.setup l.history) (Lawful l.setup l.history l.legal) _ _ _ _ 1 _ (omega arith)
      (let wide : width c.join_seat.new.seat.me.0 ≡ length c.args.to.now.seat.me.0.owns + length c.split_seat-note.result.me.0.owns = ap (λ m. width m.0) met.2 ∙ length-append c.args.to.now.seat.me.0.owns c.split_seat-note.result.me.0.owns in omega arith),
)
