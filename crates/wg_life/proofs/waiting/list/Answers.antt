use Rattle.std.proofs.Common.{◌≡◌, insert, nat_le, rules}
use Rattle.std.proofs.lemmas.List.Sorted.{IsPartitionPoint-from_clause, IsPartitionedBy-leb}
use Rattle.wg_life.specs.declared.waiting.Wait.{Wait}
use Rattle.wg_life.proofs.Releasing.{inserted_at}
use Rattle.wg_life.proofs.waiting.list.Goals as goal

pub returns-clause-inserted : goal.returns-clause-inserted
returns-clause-inserted c =
    let parted = IsPartitionedBy-leb (λ (other : Wait). other.last) _ c.args.wait.last c.requires.in_order in
    let point = IsPartitionPoint-from_clause (λ (other : Wait). nat_le other.last c.args.wait.last) _ _ c.partition_point-place.ensures.partitioned parted (λ a r q k. search rules) in
    let items : c.insert.new.self.items ≡ insert c.args.listed.now.items c.partition_point-place.result c.args.wait = search rules in
    rw items (inserted_at c.args.wait c.args.listed.now.items c.partition_point-place.result (search rules) c.requires.in_order point)
