use Rattle.std.proofs.Common.{◌∙◌, ℕ, nat_le, not, ap, sym, subst, length, arith, rules}
use Rattle.std.proofs.lemmas.List.Sorted.{IsPartitionPoint-from_clause, IsPartitionedBy-leb}
use Rattle.std.proofs.lemmas.Slice.{between_to_end}
use Rattle.wg_num.specs.Runs.{is_in}
use Rattle.wg_num.proofs.Skipped.{ends_rise}
use Rattle.wg_cbtrack.specs.Gaps.{FindsFirst, first_gap}
use Rattle.wg_cbtrack.proofs.FirstGap.{finds_gap, gap_before}
use Rattle.wg_cbtrack.proofs.gaps.first_gap.Goals as goal

pub returns : goal.returns
returns c =
    let runs = c.args.runs.now in
    let parted = IsPartitionedBy-leb (λ (run : ℕ × ℕ). run.1) _ c.args.lo (ends_rise 0 runs c.requires) in
    let point = IsPartitionPoint-from_clause (λ (run : ℕ × ℕ). nat_le run.1 c.args.lo) _ _ c.partition_point-before.ensures.partitioned parted (λ a r q k. search rules) in
    let rest = between_to_end runs c.partition_point-before.result (length runs) (omega arith) in
    subst (FindsFirst (λ n. not (is_in runs n)) c.args.lo c.args.hi)
    (sym (c.gap_in.ensures ∙ (ap (first_gap c.args.lo c.args.hi) rest ∙ gap_before 0 c.args.lo c.args.hi c.partition_point-before.result runs c.requires c.partition_point-before.ensures.bound point)))
    (finds_gap 0 c.args.lo c.args.hi runs c.requires)
