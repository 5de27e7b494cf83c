use Rattle.std.proofs.Common.{◌∙◌, sym, arith}
use Rattle.wg_readtrace.proofs.Lines.{trace_here, trace_later}
use Rattle.wg_readtrace.proofs.reading.behind_trace.Goals as goal

pub returns-then-is-clause-some : goal.returns-then-is-clause-some
returns-then-is-clause-some c = sym c.loop-at.invariant.same ∙ trace_here c.args.text.now c.loop-at.n c.loop-at.at c.line_end-end.result (omega (arith, c.loop-at-test.true)) c.line_end-end.ensures.lower c.line_end-end.ensures.len (sym c.is.ensures ∙ c.if-is.true)

pub loop-at-preserved : goal.loop-at-preserved
loop-at-preserved c = record {
  same = trace_later c.args.text.now c.loop-at.n c.loop-at.at c.line_end-end.result (omega (arith, c.loop-at-test.true)) c.line_end-end.ensures.lower c.line_end-end.ensures.len (sym c.is.ensures ∙ c.if-is.false) ∙ c.loop-at.invariant.same;
  within = omega (arith, c.line_end-end.ensures.upper);
  small = omega (arith, c.loop-at.invariant.small, c.line_end-end.ensures.lower);
}
