-- A printer as contracts see it.
use Rattle.std.specs.Prelude.{◌≡◌, ℕ, List, false}
use Rattle.std.specs.Borrow.{GName}
use Rattle.std.specs.declared.option.Option.{Option}
use Rattle.wg_print.specs.Printing.{Printer}
use Rattle.wg_print.specs.declared.printing.Out.{Out}

-- what contracts see of a printer over a sink
abbrev pub seen : {W : Type 0} → (W → Option (List ℕ)) → (W → ℕ) → Out W → Printer
seen taken faults out = record { taken = taken out.sink.now; faults = faults out.sink.now; held = out.held; failed = out.failed }

-- no write has failed
abbrev pub IsLive : {W : Type 0} → Out W → Type 0
IsLive out = out.failed ≡ false

-- the sink that it writes to
abbrev pub sink_of : {W : Type 0} → Out W → W
sink_of out = out.sink.now

-- which reference it writes through
abbrev pub reference : {W : Type 0} → Out W → GName
reference out = out.sink.ghost_name
