-- One call more on the counter.
use Rattle.std.proofs.Common.{◌≡◌, ℕ, ◌+◌, ◌%◌, ◌^◌, true, List, [], ◌∷◌, ◌++◌, refl}
use Rattle.std.proofs.lemmas.Bool.{and_parts, and_from}
use Rattle.std.proofs.lemmas.Bool.Decides.{nat_tests}
use Rattle.std.proofs.Common.{arith}
use Rattle.wg_entry.specs.declared.Entry.{Entry}
use Rattle.wg_part_tests.specs.Counters.{total_after, replays}

pub total_more : (n : ℕ) (log : List (Entry ℕ ℕ)) (e : Entry ℕ ℕ) → total_after n (log ++ e ∷ []) ≡ e.reply
total_more n [] e = refl
total_more n (d ∷ log) e = total_more d.reply log e

pub replays_more : (n : ℕ) (log : List (Entry ℕ ℕ)) (e : Entry ℕ ℕ) → e.reply ≡ (total_after n log + e.event) % 2 ^ 64 → replays n log ≡ true → replays n (log ++ e ∷ []) ≡ true
replays_more n [] e is h = grind (arith, nat_tests)
replays_more n (d ∷ log) e is h = let parts = and_parts _ _ h in and_from _ _ parts.0 (replays_more d.reply log e is parts.1)
