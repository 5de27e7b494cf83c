use Rattle.std.proofs.Common.{nat_le, length, rules, arith, ◌≤◌}
use Rattle.std.proofs.lemmas.List.Sorted.{IsPartitionPoint-from_clause, IsPartitionedBy-leb}
use Rattle.wg_types.specs.declared.mappings.PendingMap.{PendingMap}
use Rattle.wg_maps.proofs.ListedLemmas.{due_taken}
use Rattle.wg_maps.proofs.waits.count_due.Goals as goal

pub returns-clause-due : goal.returns-clause-due
returns-clause-due c =
    let parted = IsPartitionedBy-leb (λ (wait : PendingMap). wait.last) _ c.args.completed c.requires in
    let point = IsPartitionPoint-from_clause (λ (wait : PendingMap). nat_le wait.last c.args.completed) _ _ c.partition_point.ensures.partitioned parted (λ a r q k. search rules) in
    due_taken _ _ _ (search rules) point
