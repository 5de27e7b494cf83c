use Rattle.std.proofs.Common.{◌≡◌, ◌<◌, rules, arith}
use Rattle.wg_maps.proofs.ArrangedLemmas.{unlike_newer}
use Rattle.wg_maps.proofs.ListedLemmas.{tidied}
use Rattle.wg_maps.proofs.waits.part.Goals as goal

pub returns-then-promise-newest-clause-tidied : goal.returns-then-promise-newest-clause-tidied
returns-then-promise-newest-clause-tidied c = tidied c.args.promises.now.entries c.args.listed.now.items c.tidy.new.listed.items c.tidy.ensures.items c.requires.listed

pub returns-else-promise-newest-clause-unlike : goal.returns-else-promise-newest-clause-unlike
returns-else-promise-newest-clause-unlike c = unlike_newer c.args.listed.now.items c.args.promise c.args.newest (omega arith) c.requires.within
