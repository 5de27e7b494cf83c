use Rattle.wg_holders.proofs.QueueLemmas.{first_open}
use Rattle.wg_holders.proofs.tokens.close.Goals as goal

pub returns-clause-tidy : goal.returns-clause-tidy
returns-clause-tidy c = record {
  opens = c.pop_closed.ensures.opens;
  open_first = c.pop_closed.ensures.first;
  drops = c.release.ensures.drops _ (first_open _ _ c.pop_closed.ensures.first c.pop_closed.ensures.opens) c.requires.drops;
  awaited_first = c.release.ensures.first;
}
