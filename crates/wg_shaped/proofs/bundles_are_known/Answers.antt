use Rattle.wg_shaped.proofs.bundles_are_known.Goals as goal
use Rattle.wg_shaped.proofs.Known.{touches_are_known}
use Rattle.wg_shaped.proofs.Standing.{bundles_are_known, textures_have_cells}
use Rattle.wg_shaped.proofs.Naming.{bundles_touch_what_they_name}
use Rattle.wg_shaped.proofs.Making.{history_touches_what_it_names}

pub returns-clause-touches : goal.returns-clause-touches
returns-clause-touches _ = touches_are_known

pub returns-clause-bundles : goal.returns-clause-bundles
returns-clause-bundles _ = bundles_are_known

pub returns-clause-textures : goal.returns-clause-textures
returns-clause-textures _ = textures_have_cells

pub returns-clause-named : goal.returns-clause-named
returns-clause-named _ = bundles_touch_what_they_name

pub returns-clause-history : goal.returns-clause-history
returns-clause-history _ = history_touches_what_it_names
