use Rattle.std.proofs.Common.{◌≡◌, ◌≤◌, ◌+◌, length, take, ◌-◌, vec_len, vec_capacity}
use Rattle.indexmap.specs.IndexSet.{insert_all}
use Rattle.wg_encoder.proofs.once.add_few.Given as goal

abbrev pub invariant-loop-value : goal.invariant-loop-value
invariant-loop-value g l = (vec_len l.list + (length l.more - l.value-index) ≤ vec_capacity l.list) × (l.list.items ≡ insert_all g.T.PartialEq.eq l.initial.list.items (take l.value-index l.more))
