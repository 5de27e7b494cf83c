use Rattle.std.proofs.Common.{◌≡◌, ◌++◌, ◌∙◌, ap, drop, length, arith}
use Rattle.std.proofs.lemmas.Slice.{between_to_end}
use Rattle.wg_num.specs.Runs.{cut_runs}
use Rattle.wg_num.proofs.Skipped.{cut_from}
use Rattle.wg_num.proofs.runs.push_cut.Goals as goal

pub returns-then-hi-x : goal.returns-then-hi-x
returns-then-hi-x c =
    let rest = between_to_end c.args.runs.now c.loop-i.i (length c.args.runs.now) (omega arith) in
    let same : drop c.loop-i.i c.args.runs.now ≡ cut_runs c.args.lo c.args.hi (drop c.loop-i.i c.args.runs.now) = cut_from 0 c.args.lo c.args.hi c.loop-i.i c.args.runs.now _ c.requires.full c.loop-i-test.true c.if-hi-x.true c.requires.apart in
    c.in_ok-extend_from_slice.ensures.items
    ∙ (ap (λ runs. c.loop-i.out.items ++ runs) (rest ∙ same) ∙ c.loop-i.invariant)
