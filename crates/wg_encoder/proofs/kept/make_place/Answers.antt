use Rattle.wg_encoder.proofs.kept.make_place.Goals as goal

pub returns-clause-kept : goal.returns-clause-kept
returns-clause-kept c = λ maker h. rw c.in_ok-new.ensures.ok (rw c.in_ok-fresh.ensures.none (c.in_ok-fresh.ensures.known maker))
