-- Settlements that wait to be told.
use Rattle.std.specs.Prelude.{ℕ, List}
use Rattle.std.specs.List.{flat_map}
use Rattle.wg_trace.specs.declared.replies.Settlement.{Settlement}

-- the settlements that are left to be told, and for how many more lists there is room
pub record WaitingValue : Type 0 where
  pub left : List Settlement
  pub room : ℕ

-- the settlements of all lists, one list after another
abbrev pub all_of : List (List Settlement) → List Settlement
all_of lists = flat_map (λ list. list) lists
