use Rattle.std.proofs.Common.{◌≡◌}
use Rattle.wg_bars.specs.Kept.{with_notes, AreHere}
use Rattle.wg_bars.proofs.kept.place.Given as goal

abbrev pub invariant-loop-object : goal.invariant-loop-object
invariant-loop-object g l =
    (with_notes l.kept.items l.object-iterator ≡ with_notes l.fn.kept.items l.fn.fresh)
    × AreHere l.kept l.object-iterator
    × (l.kept.gone ≡ l.fn.kept.gone)
    × (l.kept.spare ≡ l.fn.kept.spare)
