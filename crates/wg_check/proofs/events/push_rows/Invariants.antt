use Rattle.std.proofs.Common.{◌≡◌, ◌++◌, drop}
use Rattle.wg_check.specs.Keys.{row_events}
use Rattle.wg_check.proofs.events.push_rows.Given as goal

abbrev pub invariant-loop-row : goal.invariant-loop-row
invariant-loop-row l = l.events.items ++ row_events l.place (drop l.row-index l.rows) ≡ l.initial.events.items ++ row_events l.place l.rows
