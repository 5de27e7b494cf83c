use Rattle.std.proofs.Common.{rules, ltb}
use Rattle.std.proofs.lemmas.List.Sorted.{IsPartitionPoint-from_clause, IsPartitionedBy-ltb}
use Rattle.wg_cbtrack.proofs.Owning.{never_falls, point_is}
use Rattle.wg_cbtrack.proofs.owners.start_of.Goals as goal

pub returns-clause-place : goal.returns-clause-place
returns-clause-place g c =
    let parted = IsPartitionedBy-ltb g.T.Owned.object c.args.rows.now c.args.object (never_falls g.T.Owned.object c.args.rows.now c.requires) in
    point_is (λ x. ltb (g.T.Owned.object x) c.args.object) c.args.rows.now c.partition_point.result c.partition_point.ensures.bound (IsPartitionPoint-from_clause (λ x. ltb (g.T.Owned.object x) c.args.object) _ _ c.partition_point.ensures.partitioned parted (λ a r q k. search rules))
