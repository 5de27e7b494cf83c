-- The counter of the tests: each reply is the total after its call.
use Rattle.std.specs.Prelude.{ℕ, ◌+◌, ◌%◌, ◌^◌, ◌==◌, ◌&&◌, Bool, true, List, [], ◌∷◌}
use Rattle.wg_entry.specs.declared.Entry.{Entry}

-- the total after the calls of a log
abbrev pub total_after : ℕ → List (Entry ℕ ℕ) → ℕ
total_after n [] = n
total_after n (e ∷ es) = total_after e.reply es

-- each reply is the total before it and the amount of its call
abbrev pub replays : ℕ → List (Entry ℕ ℕ) → Bool
replays n [] = true
replays n (e ∷ es) = (e.reply == (n + e.event) % 2 ^ 64) && replays e.reply es
