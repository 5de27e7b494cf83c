use Rattle.std.proofs.Common.{◌≡◌, ◌++◌, ◌∙◌, ap, sym, subst, drop}
use Rattle.std.specs.Prelude.{OnOk}
use Rattle.wg_num.specs.Runs.{full_run, missing_runs}
use Rattle.wg_num.proofs.Skipped.{missing_from}
use Rattle.wg_num.proofs.runs.push_missing.Goals as goal

pub returns-then-hi-x : goal.returns-then-hi-x
returns-then-hi-x c =
    let same : missing_runs c.loop-x.lo c.args.hi (drop c.loop-x.x-index c.args.runs.now) ≡ full_run c.loop-x.lo c.args.hi = missing_from 0 c.loop-x.lo c.args.hi c.loop-x.x-index c.args.runs.now _ c.loop-x-test.true c.if-hi-x.true c.requires in
    subst (λ runs. OnOk c.push_full.result (c.push_full.new.out.items ≡ runs)) (ap (λ more. c.loop-x.out.items ++ more) (sym same) ∙ c.loop-x.invariant) c.push_full.ensures
