use Rattle.std.proofs.Common.{◌≡◌, IsSome, sym, subst, ◌∙◌, arith, rules}
use Rattle.wg_turn.specs.Passes.{IsWhole, opened_with}
use Rattle.wg_turn.proofs.Closing.{whole_of, same_one}
use Rattle.wg_turn.proofs.lock.TurnLock.close.Goals as goal

pub unwrap-state-requires : goal.unwrap-state-requires
unwrap-state-requires g c = let l = g.S.Logged in let lock = c.args.self in let long = c.args.passes.ok.0 in let many = c.requires.all in let key = lock.counted in let some_caller = lock.some_caller in
    let end = whole_of lock l.setup l.history l.legal c.args.passes.items c.gather-seat.result c.gather-seat.ensures (omega arith) (omega arith) _ _ c.close_with-closed.ensures.values.2 _ _ c.word-entries.ensures c.take.ensures.value in
    subst IsSome (sym end.1) (search rules)

pub returns-clause-setup : goal.returns-clause-setup
returns-clause-setup g c = let l = g.S.Logged in let lock = c.args.self in let long = c.args.passes.ok.0 in let many = c.requires.all in let key = lock.counted in let some_caller = lock.some_caller in
    let end = whole_of lock l.setup l.history l.legal c.args.passes.items c.gather-seat.result c.gather-seat.ensures (omega arith) (omega arith) _ _ c.close_with-closed.ensures.values.2 _ _ c.word-entries.ensures c.take.ensures.value in
    subst (λ z. l.setup z ≡ l.setup (opened_with lock)) (same_one end.0 c.unwrap-state.result (sym end.1 ∙ c.unwrap-state.ensures)) end.2

pub returns-clause-legal : goal.returns-clause-legal
returns-clause-legal g c = let l = g.S.Logged in let lock = c.args.self in let long = c.args.passes.ok.0 in let many = c.requires.all in let key = lock.counted in let some_caller = lock.some_caller in
    let end = whole_of lock l.setup l.history l.legal c.args.passes.items c.gather-seat.result c.gather-seat.ensures (omega arith) (omega arith) _ _ c.close_with-closed.ensures.values.2 _ _ c.word-entries.ensures c.take.ensures.value in
    subst (λ z. l.legal (l.setup (opened_with lock)) (l.history z)) (same_one end.0 c.unwrap-state.result (sym end.1 ∙ c.unwrap-state.ensures))
    (subst (λ u. l.legal u (l.history end.0)) end.2 (g.met.S.Logged.own_legal end.0))

pub returns-clause-whole : goal.returns-clause-whole
returns-clause-whole g c = let l = g.S.Logged in let lock = c.args.self in let long = c.args.passes.ok.0 in let many = c.requires.all in let key = lock.counted in let some_caller = lock.some_caller in
    let end = whole_of lock l.setup l.history l.legal c.args.passes.items c.gather-seat.result c.gather-seat.ensures (omega arith) (omega arith) _ _ c.close_with-closed.ensures.values.2 _ _ c.word-entries.ensures c.take.ensures.value in
    subst (λ z. IsWhole l.history lock c.args.passes.items z c.word-entries.result) (same_one end.0 c.unwrap-state.result (sym end.1 ∙ c.unwrap-state.ensures)) end.3
