-- What a clause says of a lock that was closed.
use Rattle.std.specs.Prelude.{ℕ}
use Rattle.wg_turn.specs.declared.lock.close.Closed.{Closed}

-- the state at the close
abbrev pub state_of : {S : Type 0} → Closed S → S
state_of closed = closed.state

-- how many entries were made since the opening
abbrev pub entries_of : {S : Type 0} → Closed S → ℕ
entries_of closed = closed.entries

-- how many passes the lock had
abbrev pub passes_of : {S : Type 0} → Closed S → ℕ
passes_of closed = closed.callers
