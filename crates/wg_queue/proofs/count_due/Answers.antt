use Rattle.std.proofs.Common.{nat_le, rules}
use Rattle.std.proofs.lemmas.List.Sorted.{IsPartitionPoint-from_clause, IsPartitionedBy-leb}
use Rattle.wg_trace.specs.declared.replies.Waiting.{Waiting}
use Rattle.wg_queue.proofs.Due.{still_dropped}
use Rattle.wg_queue.proofs.count_due.Goals as goal

pub returns-clause-later : goal.returns-clause-later
returns-clause-later c =
    let parted = IsPartitionedBy-leb (λ (w : Waiting). w.last) _ c.args.n c.requires in
    let point = IsPartitionPoint-from_clause (λ (w : Waiting). nat_le w.last c.args.n) _ _ c.partition_point.ensures.partitioned parted (λ a r q k. search rules) in
    still_dropped _ _ _ c.partition_point.ensures.bound point
