-- What is asked of the objects that are left is what is asked of all.
use Rattle.std.proofs.Common.{◌≡◌, drop}
use Rattle.wg_types.specs.Refs.{first_of, some_wanted}
use Rattle.wg_types.proofs.refs.each_maybe.Given as goal

abbrev pub invariant-loop-object : goal.invariant-loop-object
invariant-loop-object g l = first_of (g.A.Ask.asks l.asked) (some_wanted l.wanted (drop l.object-index l.objects)) ≡ first_of (g.A.Ask.asks l.asked) (some_wanted l.wanted l.objects)
