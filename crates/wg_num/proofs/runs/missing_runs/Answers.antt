use Rattle.std.proofs.Common.{◌++◌, ◌∙◌, ℕ, nat_le, ap, ap₂, sym, subst, length, arith, rules}
use Rattle.std.proofs.lemmas.List.Sorted.{IsPartitionPoint-from_clause, IsPartitionedBy-leb}
use Rattle.std.proofs.lemmas.Slice.{between_to_end}
use Rattle.wg_num.specs.Runs.{AreApart, is_in, missing_runs}
use Rattle.wg_num.proofs.Members.{missing_in}
use Rattle.wg_num.proofs.Skipped.{apart_drop, ends_rise, missing_before}
use Rattle.wg_num.proofs.runs.missing_runs.Goals as goal

pub push_missing-requires : goal.push_missing-requires
push_missing-requires c = subst (AreApart 0) (sym (between_to_end c.args.runs.now c.partition_point-before.result (length c.args.runs.now) (omega arith))) (apart_drop 0 c.partition_point-before.result c.args.runs.now c.requires)

pub returns-clause-runs : goal.returns-clause-runs
returns-clause-runs c =
    let parted = IsPartitionedBy-leb (λ (run : ℕ × ℕ). run.1) _ c.args.lo (ends_rise 0 c.args.runs.now c.requires) in
    let point = IsPartitionPoint-from_clause (λ (run : ℕ × ℕ). nat_le run.1 c.args.lo) _ _ c.partition_point-before.ensures.partitioned parted (λ a r q k. search rules) in
    let rest = between_to_end c.args.runs.now c.partition_point-before.result (length c.args.runs.now) (omega arith) in
    let none = c.new-out.ensures.items in
    c.in_ok-push_missing.ensures
    ∙ (ap₂ (λ a b. a ++ missing_runs c.args.lo c.args.hi b) none rest
    ∙ missing_before 0 c.args.lo c.args.hi c.partition_point-before.result c.args.runs.now c.requires c.partition_point-before.ensures.bound point)

pub returns-clause-members : goal.returns-clause-members
returns-clause-members c = λ n. ap (λ runs. is_in runs n) (returns-clause-runs c) ∙ missing_in 0 c.args.lo c.args.hi n c.args.runs.now c.requires
