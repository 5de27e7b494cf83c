use Rattle.std.proofs.Common.{ℕ, List, ◌+◌, ◌++◌, ◌∷◌, [], ◌%◌, ◌^◌, ap, sym, ◌∙◌}
use Rattle.wg_entry.specs.declared.Entry.{Entry}
use Rattle.wg_turn.specs.Entries.{entry}
use Rattle.wg_part_tests.specs.Counters.{total_after, replays}
use Rattle.wg_part_tests.proofs.Counting.{total_more, replays_more}
use Rattle.wg_part_tests.proofs.counter.CounterLogged.act.Goals as goal

pub invariant_of-self-2 : goal.invariant_of-self-2
invariant_of-self-2 c = let s = c.args.self.now in let e : Entry ℕ ℕ = entry c.args.who c.args.call ((s.total + c.args.call) % 2 ^ 64) in
    let is = c.push_reserved.ensures.items ∙ ap (λ (l : List (Entry ℕ ℕ)). l ++ e ∷ []) c.reserve.ensures.items in record {
      kept = sym (ap (total_after s.start) is ∙ total_more s.start s.log.items e);
      replayed = ap (replays s.start) is ∙ replays_more s.start s.log.items e (ap (λ t. (t + c.args.call) % 2 ^ 64) s.kept) s.replayed;
    }
