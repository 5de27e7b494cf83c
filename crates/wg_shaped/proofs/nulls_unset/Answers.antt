use Rattle.wg_shaped.proofs.nulls_unset.Goals as goal
use Rattle.wg_shaped.proofs.Nulling.{null_unsets_group, null_unsets_vertex}

pub returns-clause-groups : goal.returns-clause-groups
returns-clause-groups _ = null_unsets_group

pub returns-clause-buffers : goal.returns-clause-buffers
returns-clause-buffers _ = null_unsets_vertex
