use Rattle.std.proofs.Common.{◌≡◌, ◌++◌, ◌∙◌, ℕ, nat_lt, ap₂, take, length, arith, rules}
use Rattle.std.proofs.lemmas.List.Sorted.{IsPartitionPoint-from_clause, IsPartitionedBy-ltb}
use Rattle.std.proofs.lemmas.Slice.{between_to_end}
use Rattle.wg_num.specs.Runs.{with_run}
use Rattle.wg_num.proofs.Skipped.{ends_rise, with_before}
use Rattle.wg_num.proofs.runs.with_run.Goals as goal

pub returns : goal.returns
returns c =
    let parted = IsPartitionedBy-ltb (λ (run : ℕ × ℕ). run.1) _ c.args.lo (ends_rise 0 c.args.runs.now c.requires) in
    let point = IsPartitionPoint-from_clause (λ (run : ℕ × ℕ). nat_lt run.1 c.args.lo) _ _ c.partition_point-before.ensures.partitioned parted (λ a r q k. search rules) in
    let head : c.extend_from_slice.new.self.items ≡ take c.partition_point-before.result c.args.runs.now = search rules in
    let rest = between_to_end c.args.runs.now c.partition_point-before.result (length c.args.runs.now) (omega arith) in
    c.in_ok-push_with.ensures
    ∙ (ap₂ (λ a b. a ++ with_run c.args.lo c.args.hi b) head rest
    ∙ with_before c.args.lo c.args.hi c.partition_point-before.result c.args.runs.now c.partition_point-before.ensures.bound point)
