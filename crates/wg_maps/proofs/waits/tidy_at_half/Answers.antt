use Rattle.wg_maps.proofs.ListedLemmas.{tidied}
use Rattle.wg_maps.proofs.waits.tidy_at_half.Goals as goal

pub returns-then-len-clause-tidied : goal.returns-then-len-clause-tidied
returns-then-len-clause-tidied c = tidied c.args.promises.now.entries c.args.listed.now.items c.tidy.new.listed.items c.tidy.ensures.items c.requires
