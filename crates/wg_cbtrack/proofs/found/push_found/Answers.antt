use Rattle.std.proofs.Common.{◌∙◌, ◌++◌, ap}
use Rattle.wg_rows.specs.Cut.{choose_one}
use Rattle.wg_cbtrack.proofs.Finding.{no_change, yes_change, yes_open, no_open}
use Rattle.wg_cbtrack.proofs.found.push_found.Goals as goal

pub returns-in_ok-push-in-None-clause-changes : goal.returns-in_ok-push-in-None-clause-changes
returns-in_ok-push-in-None-clause-changes c = λ _. no_change c.args.rows.now c.args.row c.in-Some.held c.requires.full c.in-Some.ensures c.in-None.is c.args.changes.now.items

pub returns-in_ok-push-in-None-clause-first : goal.returns-in_ok-push-in-None-clause-first
returns-in_ok-push-in-None-clause-first c = λ _. c.in_ok-push-in-None.ensures.items ∙ ap (λ ys. c.args.first.now.items ++ ys) (yes_open c.args.rows.now c.args.row c.in-Some.held c.in-Some.ensures c.in-None.is)

pub returns-in_ok-push_change-in-Some-held-clause-changes :
    goal.returns-in_ok-push_change-in-Some-held-clause-changes
returns-in_ok-push_change-in-Some-held-clause-changes c = λ _. c.in_ok-push_change-in-Some-held.ensures ∙ ap (λ ys. c.args.changes.now.items ++ ys) (ap (choose_one c.args.row.0) c.change_from.ensures ∙ yes_change c.args.rows.now c.args.row c.in-Some.held c.in-Some-held.from c.requires.full c.in-Some.ensures c.in-Some-held.is)

pub returns-in_ok-push_change-in-Some-held-clause-first :
    goal.returns-in_ok-push_change-in-Some-held-clause-first
returns-in_ok-push_change-in-Some-held-clause-first c = λ _. no_open c.args.rows.now c.args.row c.in-Some.held c.in-Some-held.from c.in-Some.ensures c.in-Some-held.is c.args.first.now.items
