use Rattle.std.proofs.Common.{◌≡◌, insert, nat_le, rules, arith}
use Rattle.std.proofs.lemmas.Bool.{leb-true, leb-false}
use Rattle.std.proofs.lemmas.List.Sorted.{IsPartitionPoint-from_clause, IsPartitionedBy-leb, IsNonDecreasingBy-insert}
use Rattle.wg_types.specs.declared.mappings.PendingMap.{PendingMap}
use Rattle.wg_maps.proofs.waits.list.Goals as goal

pub returns-clause-inserted : goal.returns-clause-inserted
returns-clause-inserted c =
    let parted = IsPartitionedBy-leb (λ (other : PendingMap). other.last) _ c.args.wait.last c.requires.in_order in
    let point = IsPartitionPoint-from_clause (λ (other : PendingMap). nat_le other.last c.args.wait.last) _ _ c.partition_point-place.ensures.partitioned parted (λ a r q k. search rules) in
    let items : c.insert.new.self.items ≡ insert c.args.listed.now.items c.partition_point-place.result c.args.wait = search rules in
    record {
      place = c.partition_point-place.result;
      items = items;
      in_order = rw items (IsNonDecreasingBy-insert (λ (other : PendingMap). other.last) c.args.listed.now.items c.partition_point-place.result c.args.wait c.requires.in_order (search rules)
          (λ k d lt. leb-true _ _ (point.0 k d (omega arith) lt)) (λ k d lo hi. let e = leb-false _ _ (point.1 k d lo hi) in omega (arith, e)));
    }
