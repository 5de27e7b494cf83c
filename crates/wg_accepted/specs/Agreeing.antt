-- The verdict on the traces of histories.
use Rattle.std.specs.Prelude.{ℕ, List, Option, None, ◌≡◌}
use Rattle.wg_rows.specs.Runs.{Cell}
use Rattle.wg_orders.specs.Trace.{steps_of}
use Rattle.wg_orders.specs.Orders.{IsOrder, Keeps, Same, Differs}
use Rattle.wg_check.specs.declared.clashes.Clash.{Clash}
use Rattle.wg_check.specs.Verdict.{IsVerdict}
use Rattle.wg_history.specs.declared.events.Setup.{Setup}
use Rattle.wg_history.specs.Entries.{Entry}
use Rattle.wg_history.specs.Traces.{Trace}

-- Every order of the accesses to a cell that keeps the barriers of a history's trace shows each reader what it sees as
-- printed.
abbrev pub SeenAsPrinted : Type 0
SeenAsPrinted = (setup : Setup) (history : List Entry) (c : Cell) (order : List ℕ) → IsOrder order (steps_of (Trace setup history)) c → Keeps order (Trace setup history) c → Same order (steps_of (Trace setup history)) c

-- In the trace of a history no writer differs at any reader and cell.
abbrev pub NoneDiffers : Type 0
NoneDiffers = (setup : Setup) (history : List Entry) (reader : Option ℕ) (c : Cell) (writer : ℕ) → Differs (Trace setup history) reader c writer → ⊥

-- The verdict on the trace of a history is none.
abbrev pub VerdictIsNone : Type 0
VerdictIsNone = (setup : Setup) (history : List Entry) (found : Option Clash) → IsVerdict (Trace setup history) found → found ≡ None
