use Rattle.wg_shaped.proofs.null_layouts.Goals as goal
use Rattle.wg_shaped.proofs.Nulling.{null_layouts_are_bare, only_given_are_referred}

pub returns-clause-bare : goal.returns-clause-bare
returns-clause-bare _ = null_layouts_are_bare

pub returns-clause-referred : goal.returns-clause-referred
returns-clause-referred _ = only_given_are_referred
