use Rattle.std.proofs.Common.{◌≡◌, ◌++◌, take}
use Rattle.std.specs.List.{flat_map}
use Rattle.wg_trace.specs.Added.{BeginsWith}
use Rattle.wg_types.specs.Refs.{all_wanted}
use Rattle.wg_types.proofs.refs.gather_each.Given as goal

abbrev pub invariant-loop-object : goal.invariant-loop-object
invariant-loop-object g l =
    (l.found.items ≡ l.initial.found.items ++ flat_map (g.G.Gather.gathers l.gather) (all_wanted l.wanted (take l.object-index l.objects)))
    × BeginsWith l.found.items l.initial.found.items
