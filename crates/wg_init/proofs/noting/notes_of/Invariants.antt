use Rattle.std.proofs.Common.{◌≡◌, ℕ, drop}
use Rattle.wg_bars.specs.Kept.{over, rows_in, AddsKept}
use Rattle.wg_init.specs.Effects.{rows_after}
use Rattle.wg_init.proofs.noting.notes_of.Given as goal

abbrev pub invariant-loop-access : goal.invariant-loop-access
invariant-loop-access l =
    ((object : ℕ) → rows_after object (drop l.access-index l.accesses) (over l.fresh object (rows_in l.kept.items object)) ≡ rows_after object l.accesses (over l.fn.fresh object (rows_in l.kept.items object)))
    × AddsKept l.kept l.fn.fresh l.fresh
