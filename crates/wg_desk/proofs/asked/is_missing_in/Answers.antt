use Rattle.std.proofs.Common.{ap, ◌∙◌, is_some}
use Rattle.wg_types.specs.Requests.{named}
use Rattle.wg_types.proofs.RefLemmas.{any_first}
use Rattle.wg_desk.specs.Seats.{is_missing}
use Rattle.wg_desk.proofs.asked.is_missing_in.Goals as goal

pub returns : goal.returns
returns c = c.is_some.ensures ∙ (ap is_some c.first.ensures ∙ any_first (is_missing c.args.seats.now.items) (named c.args.request.now))
