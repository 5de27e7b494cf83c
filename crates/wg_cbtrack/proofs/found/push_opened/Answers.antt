use Rattle.std.proofs.Common.{◌∙◌, ◌++◌, ap}
use Rattle.wg_cbtrack.proofs.Finding.{yes_open, no_open}
use Rattle.wg_cbtrack.proofs.found.push_opened.Goals as goal

pub returns-in_ok-push-in-None-clause-first : goal.returns-in_ok-push-in-None-clause-first
returns-in_ok-push-in-None-clause-first c = λ _. c.in_ok-push-in-None.ensures.items ∙ ap (λ ys. c.args.first.now.items ++ ys) (yes_open c.args.rows.now c.args.row c.in-Some.held c.in-Some.ensures c.in-None.is)

pub returns-in-Some-held-clause-first : goal.returns-in-Some-held-clause-first
returns-in-Some-held-clause-first c = λ _. no_open c.args.rows.now c.args.row c.in-Some.held c.in-Some-held.field-0 c.in-Some.ensures c.in-Some-held.is c.args.first.now.items
