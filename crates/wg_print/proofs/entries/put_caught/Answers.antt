use Rattle.wg_print.proofs.entries.put_caught.Goals as goal

pub returns-in-Uncaptured-clause-text : goal.returns-in-Uncaptured-clause-text
returns-in-Uncaptured-clause-text g c = rw c.in-Uncaptured.is c.word.ensures.text
