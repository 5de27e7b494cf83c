use Rattle.std.proofs.Common.{◌≡◌, ◌∙◌, ap, sym, subst}
use Rattle.wg_num.specs.Runs.{AreApart, cut_runs, is_in}
use Rattle.wg_num.proofs.Members.{cut_apart, cut_in}
use Rattle.wg_num.proofs.set.RunSet.without.Goals as goal

pub invariant_of-result : goal.invariant_of-result
invariant_of-result c =
    let slice = c.as_slice.ensures.value in
    let made = c.in_ok-runs.ensures in
    let value : c.in_ok-runs.runs.items ≡ cut_runs c.args.lo c.args.hi c.self.inside.held.items = cc in
    subst (AreApart 0) (sym value) (cut_apart 0 c.args.lo c.args.hi c.self.inside.held.items c.if-lo-hi.true c.self.invariant)

pub returns-then-lo-hi-clause-members : goal.returns-then-lo-hi-clause-members
returns-then-lo-hi-clause-members c = λ n.
    let slice = c.as_slice.ensures.value in
    let made = c.in_ok-runs.ensures in
    let view = c.self.view_is in
    let value : c.in_ok-runs.runs.items ≡ cut_runs c.args.lo c.args.hi c.args.self.now = cc in
    ap (λ runs. is_in runs n) value ∙ cut_in c.args.lo c.args.hi n c.args.self.now
