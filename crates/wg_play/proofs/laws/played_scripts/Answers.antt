use Rattle.wg_play.proofs.Backward.{play_interleaves}
use Rattle.wg_play.proofs.PlayedLaw.{play_goes_through}
use Rattle.wg_play.proofs.laws.played_scripts.Goals as goal

pub returns-clause-interleaves : goal.returns-clause-interleaves
returns-clause-interleaves c = play_interleaves

pub returns-clause-through : goal.returns-clause-through
returns-clause-through c = play_goes_through
