use Rattle.std.proofs.Common.{◌∙◌, List, ap}
use Rattle.wg_rows.specs.Cut.{put_all}
use Rattle.wg_rows.specs.Runs.{part_sort}
use Rattle.wg_rows.specs.Sets.{UseRow}
use Rattle.wg_rows.specs.Uses.{same_set}
use Rattle.wg_cbtrack.proofs.OfRuns.{gaps_all}
use Rattle.wg_cbtrack.proofs.about.put_over.Goals as goal

pub returns : goal.returns
returns c = c.in_ok-all.ensures ∙ ap (λ (rest : List UseRow). put_all part_sort same_set c.args.uses.now rest) (c.in_ok-rest.ensures ∙ gaps_all c.args.rows.now c.args.uses.now)
