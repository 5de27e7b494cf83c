use Rattle.wg_core.proofs.device.answer.Goals as goal

pub returns-clause-answered : goal.returns-clause-answered
returns-clause-answered c = rw (← c.prepare.ensures.setup) (rw (← c.prepare.ensures.history) (rw (← c.prepare.ensures.items) (rw (← c.prepare.ensures.handed) c.commit.ensures.answered)))
