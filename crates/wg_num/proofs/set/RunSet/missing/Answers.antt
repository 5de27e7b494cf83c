use Rattle.std.proofs.Common.{◌≡◌, sym, subst, arith}
use Rattle.wg_num.specs.Runs.{AreApart, missing_runs}
use Rattle.wg_num.proofs.Members.{missing_apart}
use Rattle.wg_num.proofs.set.RunSet.missing.Goals as goal

pub invariant_of-result : goal.invariant_of-result
invariant_of-result c =
    let slice = c.as_slice.ensures.value in
    let made = c.in_ok-runs.ensures.runs in
    let value : c.in_ok-runs.runs.items ≡ missing_runs c.args.lo c.args.hi c.self.inside.held.items = cc in
    subst (AreApart 0) (sym value) (missing_apart 0 0 c.args.lo c.args.hi c.self.inside.held.items (omega arith) c.self.invariant)
