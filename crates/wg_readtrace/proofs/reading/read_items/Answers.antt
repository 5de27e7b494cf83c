use Rattle.std.specs.Prelude.{Some}
use Rattle.std.proofs.Common.{rules, arith, ◌∙◌, ◌+◌, subst, refl}
use Rattle.wg_readtrace.specs.Reading.{Refuses}
use Rattle.wg_readtrace.specs.Drafts.{rows_of}
use Rattle.wg_readtrace.proofs.Drafts.{turn_err, turn_ok}
use Rattle.wg_readtrace.proofs.reading.read_items.Goals as goal

pub returns-in-Err-clause-err : goal.returns-in-Err-clause-err
returns-in-Err-clause-err c =
    subst (Refuses c.in-Err.fault) c.loop-at.invariant.same
    (turn_err c.loop-at.draft c.loop-at.n c.loop-at.last c.loop-at.steps (rows_of c.loop-at.draft.accesses) c.args.text.now c.loop-at.at c.line_end-end.result c.is_at_end-is_last.result c.in-Err.fault (omega (arith, c.loop-at-test.true)) c.line_end-end.ensures.lower c.line_end-end.ensures.len c.is_at_end-is_last.ensures (c.in-Err.ensures.judged (rows_of c.loop-at.draft.accesses) c.loop-at.invariant.told))

pub loop-at-preserved : goal.loop-at-preserved
loop-at-preserved c = record {
  same =
      turn_ok c.loop-at.draft c.note.new.self c.loop-at.n (c.loop-at.n + 1) c.loop-at.last (Some c.in-Ok.line) c.loop-at.steps c.steps_after-steps.result (rows_of c.loop-at.draft.accesses) (rows_of c.note.new.self.accesses)
      c.args.text.now c.loop-at.at c.line_end-end.result c.is_at_end-is_last.result c.in-Ok.line (omega (arith, c.loop-at-test.true)) c.line_end-end.ensures.lower c.line_end-end.ensures.len c.is_at_end-is_last.ensures
      (c.in-Ok.ensures.judged (rows_of c.loop-at.draft.accesses) c.loop-at.invariant.told) (omega arith) refl c.steps_after-steps.ensures.value (search rules) (search rules)
      ∙ c.loop-at.invariant.same;
  told = search rules;
  within = omega (arith, c.line_end-end.ensures.upper);
  small = omega (arith, c.loop-at.invariant.small, c.line_end-end.ensures.lower);
  few = omega (arith, c.loop-at.invariant.few, c.steps_after-steps.ensures.small);
}
