use Rattle.std.proofs.Common.{ap}
use Rattle.wg_turn.specs.Passes.{opened_with}
use Rattle.wg_turn.proofs.Dealing.{fresh_sound, fresh_fronts}
use Rattle.wg_turn.proofs.lock.TurnLock.open.Goals as goal

pub returns-clause-sound : goal.returns-clause-sound
returns-clause-sound g c = let l = g.S.Logged in let lock = c.in_ok-lock.lock in fresh_sound lock l.history l.setup l.legal (g.met.S.Logged.own_legal (opened_with lock)) 0 c.deal.new.passes.items c.deal.ensures.1

pub returns-clause-fronts : goal.returns-clause-fronts
returns-clause-fronts g c = let l = g.S.Logged in let lock = c.in_ok-lock.lock in fresh_fronts lock l.history (l.history c.args.state) (ap l.history c.in_ok-lock.ensures.lock.0) 0 c.deal.new.passes.items c.deal.ensures.1
