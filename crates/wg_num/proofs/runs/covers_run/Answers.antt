use Rattle.std.proofs.Common.{◌≡◌, ◌∙◌, ◌↔◌, ℕ, Bool, true, length, nat_lt, sym, subst, rules, arith}
use Rattle.std.proofs.lemmas.Bool.{le-ltb}
use Rattle.std.proofs.lemmas.List.Sorted.{IsPartitionPoint-from_clause, IsPartitionedBy-ltb}
use Rattle.wg_num.specs.Runs.{AllIn}
use Rattle.wg_num.proofs.Members.{covers_all}
use Rattle.wg_num.proofs.Skipped.{ends_rise, insert_same, covers_before, covers_at, covers_past, covers_none}
use Rattle.wg_num.proofs.runs.covers_run.Goals as goal

pub returns-then-hi-lo-clause-test : goal.returns-then-hi-lo-clause-test
returns-then-hi-lo-clause-test c = sym (covers_none c.args.lo c.args.hi c.args.runs.now c.if-hi-lo.true)

pub returns-then-at-runs-clause-test : goal.returns-then-at-runs-clause-test
returns-then-at-runs-clause-test c =
    let parted = IsPartitionedBy-ltb (λ (run : ℕ × ℕ). run.1) _ c.args.hi (ends_rise 0 c.args.runs.now c.requires) in
    let point = IsPartitionPoint-from_clause (λ (run : ℕ × ℕ). nat_lt run.1 c.args.hi) _ _ c.partition_point-at.ensures.partitioned parted (λ a r q k. search rules) in
    sym (covers_at 0 c.args.lo c.args.hi c.partition_point-at.result c.args.runs.now _ c.if-hi-lo.false c.requires c.if-at-runs.true (point.1 c.partition_point-at.result (0, 0) (omega arith) c.if-at-runs.true))
    ∙ covers_before c.args.lo c.args.hi c.partition_point-at.result c.args.runs.now c.partition_point-at.ensures.bound point

pub returns-then-at-runs-clause-all : goal.returns-then-at-runs-clause-all
returns-then-at-runs-clause-all c = subst (λ (b : Bool). (b ≡ true) ↔ AllIn c.args.lo c.args.hi c.args.runs.now) (sym (returns-then-at-runs-clause-test c)) (covers_all 0 c.args.lo c.args.hi c.args.runs.now c.requires)

pub returns-then-at-runs-clause-same : goal.returns-then-at-runs-clause-same
returns-then-at-runs-clause-same c = λ covers. insert_same c.args.lo c.args.hi c.args.runs.now c.requires (sym (returns-then-at-runs-clause-test c) ∙ covers)

pub returns-else-at-runs-clause-test : goal.returns-else-at-runs-clause-test
returns-else-at-runs-clause-test c =
    let parted = IsPartitionedBy-ltb (λ (run : ℕ × ℕ). run.1) _ c.args.hi (ends_rise 0 c.args.runs.now c.requires) in
    let point = IsPartitionPoint-from_clause (λ (run : ℕ × ℕ). nat_lt run.1 c.args.hi) _ _ c.partition_point-at.ensures.partitioned parted (λ a r q k. search rules) in
    le-ltb c.partition_point-at.result (length c.args.runs.now) c.if-at-runs.false
    ∙ (sym (covers_past c.args.lo c.args.hi c.partition_point-at.result c.args.runs.now c.if-hi-lo.false c.if-at-runs.false)
    ∙ covers_before c.args.lo c.args.hi c.partition_point-at.result c.args.runs.now c.partition_point-at.ensures.bound point)

pub returns-else-at-runs-clause-all : goal.returns-else-at-runs-clause-all
returns-else-at-runs-clause-all c = subst (λ (b : Bool). (b ≡ true) ↔ AllIn c.args.lo c.args.hi c.args.runs.now) (sym (returns-else-at-runs-clause-test c)) (covers_all 0 c.args.lo c.args.hi c.args.runs.now c.requires)
