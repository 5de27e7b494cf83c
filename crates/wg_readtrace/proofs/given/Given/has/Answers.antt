use Rattle.std.specs.Prelude.{IsSome}
use Rattle.std.proofs.Common.{◌∙◌, sym, subst, refl}
use Rattle.wg_readtrace.specs.Given.{ends_of}
use Rattle.wg_readtrace.proofs.Ends.{is_met_at, is_none_met_at}
use Rattle.wg_readtrace.proofs.given.Given.has.Goals as goal

pub returns-in-Some : goal.returns-in-Some
returns-in-Some c = λ rows t.
    let h = (c.range.ensures.in_range tt).3 _ _ c.in-Some.ensures.steps in
    c.reaches.ensures
    ∙ is_met_at (ends_of c.args.self.now.ends) rows c.args.run c.in-Some.place.now c.in-Some.end.now c.line_of-line.result c.cell_hi.result c.cell_lo.result c.line_of-line.ensures c.cell_hi.ensures c.cell_lo.ensures t c.requires h.1 h.0.1
    (λ q near v e. (c.range.ensures.in_range tt).4 _ _ c.in-Some.ensures.steps q (tt, near) (subst IsSome (sym e) refl))

pub returns-in-None : goal.returns-in-None
returns-in-None c = λ rows t.
    is_none_met_at (ends_of c.args.self.now.ends) rows c.args.run c.line_of-line.result c.cell_hi.result c.line_of-line.ensures c.cell_hi.ensures t
    (λ place near. (c.range.ensures.in_range tt).5 c.in-None.ensures.steps.0 place (tt, near))
