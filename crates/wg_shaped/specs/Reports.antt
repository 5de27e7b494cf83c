-- The report of a history: what is printed of it and of its trace.
use Rattle.std.specs.Prelude.{ℕ, List, map}
use Rattle.wg_trace.specs.declared.steps.Item.{Item}
use Rattle.wg_readback.specs.Texts.{Told, trace_behind, history_text}
use Rattle.wg_history.specs.declared.events.Setup.{Setup}
use Rattle.wg_history.specs.Entries.{Entry, verb_of}
use Rattle.wg_history.specs.Traces.{Trace}

-- an entry, as it is printed
abbrev pub told : Entry → Told
told entry = (entry.who, verb_of entry.event, entry.reply)

-- the report of a history and its trace, which is printed behind the entries
abbrev pub report_text : List Entry → List Item → List ℕ
report_text history trace = trace_behind (history_text (map told history)) trace

-- the report of a history on a device that was opened so
abbrev pub report_of : Setup → List Entry → List ℕ
report_of setup history = report_text history (Trace setup history)
