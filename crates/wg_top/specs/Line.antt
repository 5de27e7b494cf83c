-- The line that is written for a generated script.
use Rattle.std.specs.Prelude.{ℕ, List, [], ◌++◌, codes, decimal, count_by, Option, Some, None}
use Rattle.wg_orders.specs.Trace.{Item}
use Rattle.wg_history.specs.declared.events.Setup.{Setup}
use Rattle.wg_history.specs.Entries.{Entry}
use Rattle.wg_history.specs.Traces.{Trace}
use Rattle.wg_gen.specs.Counts.{Tally, is_barrier, is_clear_step, counts_of}

-- what is counted of a history, as it is printed
abbrev pub counts_text : Tally → List ℕ
counts_text counts =
    codes "entries " ++ decimal counts.entries ++ codes " ops " ++ decimal counts.ops
    ++ codes " faults " ++ decimal counts.faults ++ codes " frees " ++ decimal counts.frees

-- Where no lanes are asked for, the barriers and the clears are counted too: these depend on the order of turns, of which one lane
-- has only one.
abbrev pub more_text : Option ℕ → List Item → List ℕ
more_text None trace = codes " bars " ++ decimal (count_by is_barrier trace) ++ codes " clears " ++ decimal (count_by is_clear_step trace)
more_text (Some lanes) trace = []

-- the line of a generated script, as it is printed
abbrev pub counted_text : Option ℕ → List Entry → List Item → List ℕ
counted_text lanes history trace = counts_text (counts_of history trace) ++ more_text lanes trace ++ codes "\n"

-- the line of a history on a device that was opened so
abbrev pub counts_line : Option ℕ → Setup → List Entry → List ℕ
counts_line lanes setup history = counted_text lanes history (Trace setup history)
