use Rattle.std.proofs.Common.{◌≡◌, ◌++◌, ◌∙◌, ℕ, nat_le, ap₂, sym, subst, take, length, arith, rules}
use Rattle.std.proofs.lemmas.List.Sorted.{IsPartitionPoint-from_clause, IsPartitionedBy-leb}
use Rattle.std.proofs.lemmas.Slice.{between_to_end}
use Rattle.wg_num.specs.Runs.{AreApart, cut_runs}
use Rattle.wg_num.proofs.Skipped.{apart_drop, ends_rise, cut_before}
use Rattle.wg_num.proofs.runs.cut_runs.Goals as goal

pub push_cut-requires-clause-apart : goal.push_cut-requires-clause-apart
push_cut-requires-clause-apart c = subst (AreApart 0) (sym (between_to_end c.args.runs.now c.partition_point-before.result (length c.args.runs.now) (omega arith))) (apart_drop 0 c.partition_point-before.result c.args.runs.now c.requires.apart)

pub returns : goal.returns
returns c =
    let parted = IsPartitionedBy-leb (λ (run : ℕ × ℕ). run.1) _ c.args.lo (ends_rise 0 c.args.runs.now c.requires.apart) in
    let point = IsPartitionPoint-from_clause (λ (run : ℕ × ℕ). nat_le run.1 c.args.lo) _ _ c.partition_point-before.ensures.partitioned parted (λ a r q k. search rules) in
    let head : c.extend_from_slice.new.self.items ≡ take c.partition_point-before.result c.args.runs.now = search rules in
    let rest = between_to_end c.args.runs.now c.partition_point-before.result (length c.args.runs.now) (omega arith) in
    c.in_ok-push_cut.ensures
    ∙ (ap₂ (λ a b. a ++ cut_runs c.args.lo c.args.hi b) head rest
    ∙ cut_before 0 c.args.lo c.args.hi c.partition_point-before.result c.args.runs.now c.requires.full c.requires.apart c.partition_point-before.ensures.bound point)
