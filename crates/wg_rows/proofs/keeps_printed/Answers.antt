use Rattle.wg_rows.proofs.keeps_printed.Goals as goal
use Rattle.wg_rows.proofs.Told.{accesses_tell, uses_tell, changes_tell, as_printed}
use Rattle.wg_rows.specs.Runs.{cell_sort, part_sort}
use Rattle.wg_rows.specs.Uses.{same_kind, same_set, same_change}

pub returns : goal.returns
returns _ = record { accesses = as_printed cell_sort same_kind accesses_tell; uses = as_printed part_sort same_set uses_tell; bars = as_printed part_sort same_change changes_tell }
