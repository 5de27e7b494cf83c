use Rattle.std.proofs.Common.{rules, refl, ◌+◌}
use Rattle.wg_readtrace.proofs.Whole.{not_text, not_ended, no_trace_line, trace_is_last, ok_of, err_of, once_if_read}
use Rattle.wg_readtrace.proofs.reading.read.Goals as goal

pub returns-then-not-is_text-clause-err : goal.returns-then-not-is_text-clause-err
returns-then-not-is_text-clause-err c = not_text c.args.bytes.now (search rules)

pub returns-then-not-ends_line-clause-err : goal.returns-then-not-ends_line-clause-err
returns-then-not-ends_line-clause-err c = not_ended c.args.bytes.now (search rules) (search rules)

pub returns-in_default-clause-err : goal.returns-in_default-clause-err
returns-in_default-clause-err c = no_trace_line c.args.bytes.now (search rules) (search rules) (search rules)

pub returns-then-at-bytes-clause-err : goal.returns-then-at-bytes-clause-err
returns-then-at-bytes-clause-err c = trace_is_last c.args.bytes.now c.in-Some.n c.in-Some.at (search rules) (search rules) (search rules) (search rules)

pub returns-clause-ok : goal.returns-clause-ok
returns-clause-ok c = ok_of c.args.bytes.now c.in-Some.n (c.in-Some.n + 1) c.in-Some.at c.read_items.result refl (search rules) (search rules) (search rules) (search rules) c.read_items.ensures.ok

pub returns-clause-once : goal.returns-clause-once
returns-clause-once c = once_if_read c.args.bytes.now c.in-Some.n (c.in-Some.n + 1) c.in-Some.at c.read_items.result refl c.read_items.ensures.ok

pub returns-clause-err : goal.returns-clause-err
returns-clause-err c = err_of c.args.bytes.now c.in-Some.n (c.in-Some.n + 1) c.in-Some.at c.read_items.result refl (search rules) (search rules) (search rules) (search rules) c.read_items.ensures.err
