use Rattle.std.proofs.Common.{◌≡◌, drop}
use Rattle.wg_types.specs.Refs.{first_of}
use Rattle.wg_types.specs.Bindings.{entries_named}
use Rattle.wg_types.proofs.bindings.each_entry.Given as goal

abbrev pub invariant-loop-entry : goal.invariant-loop-entry
invariant-loop-entry g l = first_of (g.A.Ask.asks l.asked) (entries_named (drop l.entry-index l.entries))
    ≡ first_of (g.A.Ask.asks l.asked) (entries_named l.entries)
