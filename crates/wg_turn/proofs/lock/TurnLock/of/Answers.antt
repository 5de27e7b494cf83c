use Rattle.std.proofs.Common.{[], ◌∷◌, ◌++◌, List, Some, Option, sym, subst, ◌∙◌, refl, append-nil, replicate}
use Rattle.atomic_table.specs.Table.{opening}
use Rattle.wg_turn.specs.Entries.{who_of, Stands, Lawful}
use Rattle.wg_turn.specs.Turns.{Kept, first_view}
use Rattle.wg_turn.proofs.Seats.{opens}
use Rattle.wg_turn.proofs.lock.TurnLock.of.Goals as goal

pub new-requires : goal.new-requires
new-requires g c = let l = g.S.Logged in let y = c.of.result.value in let stands = Stands l.setup l.history in let ok = Lawful l.setup l.history l.legal in
    let held = c.push_reserved.ensures.items ∙ (λ i. c.in_ok-slots.ensures.items i ++ Some (sym c.of.ensures i) ∷ []) in
    subst (λ (xs : List (Option _)). Kept who_of stands ok y c.args.callers (opening (0 ∷ 0 ∷ 0 ∷ []) xs (first_view y c.args.callers 0 (replicate c.args.callers [])))) (sym held)
    (opens who_of stands ok y c.args.callers c.requires.1 (refl, sym (append-nil (l.history y))) (subst (l.legal (l.setup y)) (sym (append-nil (l.history y))) (g.met.S.Logged.own_legal y)))
