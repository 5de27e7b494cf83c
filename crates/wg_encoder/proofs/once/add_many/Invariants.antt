use Rattle.std.proofs.Common.{◌≡◌, ◌≤◌, length, take, ◌-◌}
use Rattle.indexmap.specs.IndexSet.{insert_all, spare}
use Rattle.wg_encoder.proofs.once.add_many.Given as goal

abbrev pub invariant-loop-value : goal.invariant-loop-value
invariant-loop-value g l = (length l.more - l.value-index ≤ spare l.set) × (l.set.keys ≡ insert_all g.T.PartialEq.eq l.initial.set.keys (take l.value-index l.more))
