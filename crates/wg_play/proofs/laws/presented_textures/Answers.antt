use Rattle.wg_play.proofs.PresentedLaw.{presents_expire}
use Rattle.wg_play.proofs.laws.presented_textures.Goals as goal

pub returns : goal.returns
returns c = presents_expire
