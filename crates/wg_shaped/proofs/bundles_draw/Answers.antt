use Rattle.wg_shaped.proofs.bundles_draw.Goals as goal
use Rattle.wg_shaped.proofs.Nulling.{bundles_draw_their_draws, history_draws_its_draws, executed_bundles_add}

pub returns-clause-own : goal.returns-clause-own
returns-clause-own _ = bundles_draw_their_draws

pub returns-clause-history : goal.returns-clause-history
returns-clause-history _ = history_draws_its_draws

pub returns-clause-executed : goal.returns-clause-executed
returns-clause-executed _ = executed_bundles_add
